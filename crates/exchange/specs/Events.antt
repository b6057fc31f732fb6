-- What is said of a past event: the least and the greatest time that some world of the run has at its moment.
use Rattle.std.specs.Prelude.{◌≡◌, ℕ, ◌+◌, ◌-◌, ◌<◌, ◌≤◌, List, length, position, take, Some, None, Ok, Err, Result}
use Rattle.span.specs.World.{Event, Rules, Marks}
use Rattle.choice.specs.declared.runs.Run.{Run}
use Rattle.choice.specs.Past.{WorldAt}
use Rattle.past.specs.Event.{LeastAndGreatest, SaidNeverWidens}
use Rattle.wire.specs.declared.refusal.Refusal.{Refusal}
use Rattle.exchange.specs.State.{State}
use Rattle.exchange.specs.Steps.{an_hour, is_this}
use Rattle.exchange.specs.Stands.{event_at, ticks_of, Stands}

-- An event of the run was marked at this count, not longer than an hour ago, and some world has the least of these times then, some the greatest, and none a time that is not between them.
pub record EventIs (event : ℕ) (s : State) (b : ℕ × ℕ) (r : Rules) (es : List Event) : Type 0 where
  pub since : ℕ
  pub there : since < length es
  pub marked : (event_at es since).deed ≡ Marks
  pub counted : event + ticks_of (take since es) ≡ s.last
  pub lately : s.count - event ≤ an_hour
  pub exact : LeastAndGreatest (WorldAt r es since) (Some b)

-- Of every run that an exchange stands for; nothing is refused but an event that is not kept.
abbrev pub EventWorlds : ℕ → State → List Run → Result (ℕ × ℕ) Refusal → Type 0
EventWorlds event s rs (Ok b) = (r : Rules) (es : List Event) → Stands r es s rs → EventIs event s b r es
EventWorlds event s rs (Err e) = (r : Rules) (es : List Event) → Stands r es s rs → position (is_this event s.count) s.window.kept ≡ None

-- with one event more, what is said of a past moment is within what was said of it before
abbrev pub NeverWidens : Type 0
NeverWidens = SaidNeverWidens
