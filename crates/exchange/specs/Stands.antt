-- When an exchange stands for a run of events, and what is said then. Nothing here speaks of what is kept in place of the run: only the relation does.
use Rattle.std.specs.Prelude.{◌≡◌, ℕ, ◌+◌, ◌-◌, ◌<◌, Bool, true, false, List, [], ◌∷◌, length, take, drop, Some, None, Ok, Err, Decides, Option, Result, slice_index_or}
use Rattle.std.specs.List.{AllByRecursion}
use Rattle.span.specs.Span.{is_in}
use Rattle.span.specs.World.{Deed, Event, Rules, World, Shows, Marks, Asks, Accepts}
use Rattle.span.specs.Model.{moments}
use Rattle.span.specs.Model as model
use Rattle.choice.specs.declared.case.Case.{Case}
use Rattle.choice.specs.declared.runs.Run.{Run}
use Rattle.choice.specs.Choice.{bit}
use Rattle.choice.specs.Promise.{FaultyInAll, NoWorld}
use Rattle.choice.specs.Row.{any_span}
use Rattle.choice.specs.Runs.{in_runs, Apart}
use Rattle.trail.specs.declared.Moment.{Moment}
use Rattle.window.specs.Ring.{nothing}
use Rattle.window.specs.View.{View}
use Rattle.window.specs.Stands.{Parts, from_ceiling}
use Rattle.requests.specs.declared.request.Request.{Request}
use Rattle.wire.specs.declared.refusal.Refusal.{Refusal}
use Rattle.exchange.specs.declared.made.Made.{Made}
use Rattle.exchange.specs.declared.made.Heard.{Heard}
use Rattle.exchange.specs.State.{State}

-- the runs are in increasing order and apart, and hold just the times of the spans of a row
pub record Said (row : List Case) (runs : List Run) : Type 0 where
  pub apart : Apart 0 runs
  pub same : (t : ℕ) → in_runs t runs ≡ any_span (is_in t) row

-- so many ticks after the moment before it, this was done
abbrev pub happens : ℕ → Deed → Event
happens n d = record { ticks = n; deed = d }

-- the event that has so many after it
abbrev pub event_at : List Event → ℕ → Event
event_at es k = slice_index_or es k (happens 0 Shows)

-- the ticks of a run together
unfoldable pub ticks_of : List Event → ℕ
ticks_of [] = 0
ticks_of (e ∷ es) = ticks_of es + e.ticks

-- a reply answers an asking of its server
abbrev pub Answers : Deed → List Event → Type 0
Answers Shows es = Unit {0}
Answers Marks es = Unit {0}
Answers (Asks v) es = Unit {0}
Answers (Accepts v since least greatest) es = (since < length es) × ((event_at es since).deed ≡ Asks v)

unfoldable pub Formed : List Event → Type 0
Formed [] = Unit {0}
Formed (e ∷ es) = Answers e.deed es × Formed es

abbrev pub is_mark : Deed → Bool
is_mark Shows = false
is_mark Marks = true
is_mark (Asks v) = false
is_mark (Accepts v since least greatest) = false

-- A pending request is one of the run's askings, at its count, and nothing was claimed of that moment yet.
pub record Awaits (begun : ℕ) (es : List Event) (kept : List Moment) (q : Request) : Type 0 where
  pub there : q.since < length es
  pub asked : (event_at es q.since).deed ≡ Asks q.server
  pub counted : q.count ≡ begun + ticks_of (drop q.since es)
  pub free : (slice_index_or kept (length kept - 1 - q.since) nothing).claim ≡ None

-- the pending requests were made one after another
unfoldable pub Falls : ℕ → List Request → Type 0
Falls b [] = Unit {0}
Falls b (q ∷ qs) = (q.since < b) × Falls q.since qs

-- a kept moment has the count of its event, and whether that marked
pub record Seen (begun : ℕ) (es : List Event) (k : ℕ) (m : Moment) : Type 0 where
  pub counted : m.count ≡ begun + ticks_of (drop k es)
  pub marked : m.marked ≡ is_mark (event_at es k).deed

-- What is kept is that of the run, whose moments are these: the run began at this count, and its last moment was at that.
pub record Holds (r : Rules) (es : List Event) (ms : List model.Moment) (begun : ℕ) (w : View) (ps : List Request) (last : ℕ) : Type 0 where
  pub window : Parts r ms w
  pub counted : last ≡ begun + ticks_of es
  pub formed : Formed es
  pub awaits : AllByRecursion (Awaits begun es w.kept) ps
  pub falls : Falls (length es) ps
  pub seen : (p : ℕ) → p < length w.kept → Seen begun es (length w.kept - 1 - p) (slice_index_or w.kept p nothing)

-- An exchange stands for a run of events that has a world.
pub record Stands (r : Rules) (es : List Event) (s : State) (runs : List Run) : Type 0 where
  pub begun : ℕ
  pub servers : r.servers ≡ s.servers
  pub holds : Holds r es (moments es) begun s.window s.book.pending s.last
  pub says : Said s.window.here runs
  pub present : ℕ
  pub lives : World r es present

-- After a moment: if a world is left, it stands for the run with this moment; if none is, it says so, and stands for a run that begins anew, with true time anything up to the ceiling.
abbrev pub Follows : Rules → List Event → Bool → State → List Run → Type 0
Follows r es false s runs = Stands r es s runs
Follows r es true s runs = NoWorld r es × Stands (from_ceiling r) [] s runs

-- what each call makes of the run that it stands for
abbrev pub ShowsOn : State → List Run → Result (Option Made) Refusal → State → List Run → Type 0
ShowsOn s rs (Ok None) t us = (r : Rules) (es : List Event) → Stands r es s rs → Stands r es t us
ShowsOn s rs (Ok (Some m)) t us = (r : Rules) (es : List Event) → Stands r es s rs → Follows r (happens m.ticks Shows ∷ es) m.lost t us
ShowsOn s rs (Err e) t us = (t ≡ s) × (us ≡ rs)

abbrev pub AsksOn : ℕ → State → List Run → Result Made Refusal → State → List Run → Type 0
AsksOn v s rs (Ok m) t us = (r : Rules) (es : List Event) → Stands r es s rs → Follows r (happens m.ticks (Asks v) ∷ es) m.lost t us
AsksOn v s rs (Err e) t us = (t ≡ s) × (us ≡ rs)

abbrev pub MarksOn : State → List Run → Result Made Refusal → State → List Run → Type 0
MarksOn s rs (Ok m) t us = (r : Rules) (es : List Event) → Stands r es s rs → Follows r (happens m.ticks Marks ∷ es) m.lost t us
MarksOn s rs (Err e) t us = (t ≡ s) × (us ≡ rs)

-- the reply answers one of the run's askings of its server, which was at the count that is said
pub record Replies (v : ℕ) (s : State) (h : Heard) (t : State) (us : List Run) (r : Rules) (es : List Event) : Type 0 where
  pub since : ℕ
  pub there : since < length es
  pub asked : (event_at es since).deed ≡ Asks v
  pub counted : h.asked + ticks_of (take since es) ≡ s.last
  pub follows : Follows r (happens h.made.ticks (Accepts v since h.least h.greatest) ∷ es) h.made.lost t us

abbrev pub AcceptsOn : ℕ → State → List Run → Result Heard Refusal → State → List Run → Type 0
AcceptsOn v s rs (Ok h) t us = (r : Rules) (es : List Event) → Stands r es s rs → Replies v s h t us r es
AcceptsOn v s rs (Err e) t us = (t ≡ s) × (us ≡ rs)

-- Of every run that it stands for: the runs hold t exactly if some world of the run has t now, and the named servers are just those that are faulty in every world.
abbrev pub SaysWorlds : State → List Run → List Run → Type 0
SaysWorlds s rs runs = (r : Rules) (es : List Event) → Stands r es s rs → (t : ℕ) → Decides (in_runs t runs) (World r es t)

abbrev pub NamesWorlds : State → List Run → ℕ → Type 0
NamesWorlds s rs set = (r : Rules) (es : List Event) → Stands r es s rs → (v : ℕ) → (v < r.servers → Decides (bit set v) (FaultyInAll r es v)) × (bit set v ≡ true → v < r.servers)

-- a fresh exchange stands for the run of no events
abbrev pub BeginsOn : ℕ → ℕ → ℕ → ℕ → State → List Run → Type 0
BeginsOn servers faulty drift latest s runs = (r : Rules) → r.servers ≡ servers → r.faulty ≡ faulty → faulty < servers → r.drift ≡ drift → r.latest ≡ latest → Stands r [] s runs
