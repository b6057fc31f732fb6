-- What is said of an event: for each choice the span at its moment, by the kept moments up to it and by those after it, and over all choices the least and the greatest.
use Rattle.std.specs.Prelude.{◌≡◌, ℕ, suc, ◌+◌, ◌-◌, ◌≤◌, min, max, List, ◌∷◌, fold, length, reverse, take, drop, Contains, Some, None, Option}
use Rattle.span.specs.declared.Span.{Span}
use Rattle.span.specs.declared.Span.TheVariants.{Between, Empty}
use Rattle.span.specs.Span.{upto, ceiling, later, earlier, meet}
use Rattle.span.specs.World.{Rules, Event, Faulty}
use Rattle.span.specs.Model.{cut_all, moments}
use Rattle.span.specs.Model as model
use Rattle.span.specs.Past.{past_of}
use Rattle.choice.specs.Choice.{bit}
use Rattle.choice.specs.declared.case.Case.{Case}
use Rattle.choice.specs.Row.{row_through, span_in}
use Rattle.choice.specs.Stands.{AllFull}
use Rattle.choice.specs.Past.{WorldAt}
use Rattle.trail.specs.declared.Moment.{Moment}
use Rattle.trail.specs.Trail.{claims_of, onto}

-- on to a kept moment: later by its ticks, and cut by what is claimed of it
abbrev pub on_to : ℕ → Faulty → Moment → Span → Span
on_to d who m s = cut_all who (claims_of m.claim) (later d m.ticks s)

-- back from a kept moment: cut by what is claimed of it, and earlier by its ticks
abbrev pub back_from : ℕ → Faulty → Moment → Span → Span
back_from d who m s = earlier d m.ticks (cut_all who (claims_of m.claim) s)

-- on through kept moments, the oldest first
abbrev pub onward : ℕ → Faulty → List Moment → Span → Span
onward d who ms s = fold (λ t m. on_to d who m t) s ms

-- back through kept moments, the latest first, from any time after them
abbrev pub backward : ℕ → Faulty → List Moment → Span
backward d who ms = fold (λ t m. back_from d who m t) (upto ceiling) (reverse ms)

-- the span of a choice at the last of some moments, with those after it
abbrev pub span_then : ℕ → ℕ → List Moment → List Moment → Span → Span
span_then d c before after s = meet (onward d (bit c) before s) (backward d (bit c) after)

-- the least and the greatest of what was said, and of a span more
abbrev pub wider : Option (ℕ × ℕ) → Span → Option (ℕ × ℕ)
wider said Empty = said
wider None (Between lo hi) = Some (lo, hi)
wider (Some b) (Between lo hi) = Some (min b.0 lo, max b.1 hi)

-- what was said, widened by what f makes of the span of each choice in a row
abbrev pub said_by : (ℕ → Span → Span) → Option (ℕ × ℕ) → List Case → Option (ℕ × ℕ)
said_by f said row = fold (λ told k. wider told (f k.choice (span_in k))) said row

-- the least and the greatest of all times of which P says so, both among them; none where there is no such time
abbrev pub LeastAndGreatest : (ℕ → Type 0) → Option (ℕ × ℕ) → Type 0
LeastAndGreatest P None = (t : ℕ) → P t → ⊥
LeastAndGreatest P (Some b) = P b.0 × P b.1 × ((t : ℕ) → P t → (b.0 ≤ t) × (t ≤ b.1))

-- how many kept moments there are after a place
abbrev pub since : List Moment → ℕ → ℕ
since kept place = length kept - 1 - place

-- Of every run whose moments are the kept ones after some older ones, where the row has the spans of choices through the older: for each choice the span that is taken is that of the past moment.
abbrev pub EachExact : ℕ → List Case → List Moment → ℕ → Type 0
EachExact d base kept place =
    (r : Rules) (es : List Event) (older : List model.Moment) (cs : List ℕ) → r.drift ≡ d → base ≡ row_through r older cs → moments es ≡ onto kept older →
    (k : Case) → Contains base k → span_then d k.choice (take (place + 1) kept) (drop (place + 1) kept) (span_in k) ≡ past_of r (bit k.choice) (since kept place) es

-- And if the choices are all of as many faulty servers as may be: what is said are the least and the greatest time that some world has at that moment, and nothing is said exactly if there is no world.
abbrev pub SaidExact : ℕ → List Case → List Moment → ℕ → Option (ℕ × ℕ) → Type 0
SaidExact d base kept place said =
    (r : Rules) (es : List Event) (older : List model.Moment) (cs : List ℕ) → r.drift ≡ d → AllFull r cs → base ≡ row_through r older cs → moments es ≡ onto kept older →
    LeastAndGreatest (WorldAt r es (since kept place)) said

-- what is said is not wider than what was said before
abbrev pub Within : Option (ℕ × ℕ) → Option (ℕ × ℕ) → Type 0
Within None before = Unit {0}
Within (Some b) None = ⊥
Within (Some b) (Some a) = (a.0 ≤ b.0) × (b.1 ≤ a.1)

-- With one event more, what is said of a past moment is within what was said of it before.
abbrev pub SaidNeverWidens : Type 0
SaidNeverWidens =
    (r : Rules) (e : Event) (es : List Event) (k : ℕ) (before after : Option (ℕ × ℕ)) →
    LeastAndGreatest (WorldAt r es k) before → LeastAndGreatest (WorldAt r (e ∷ es) (suc k)) after → Within after before
