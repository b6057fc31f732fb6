-- Times as runs: maximal runs of whole numbers, in increasing order, at least one number missing between two.
use Rattle.std.specs.Prelude.{◌≡◌, ℕ, ◌+◌, ◌-◌, ◌≤◌, max, Bool, true, cond, ◌&&◌, List, [], ◌∷◌, filter, length, map, Some, None, Decides, Option, ◌==◌, ◌≢◌, nat_le, slice_index_or}
use Rattle.std.specs.List.{AllByRecursion, list_any}
use Rattle.span.specs.World.{Rules, Event, World}
use Rattle.choice.specs.declared.case.Case.{Case}
use Rattle.choice.specs.declared.runs.Run.{Run}
use Rattle.choice.specs.Stands.{Stands}

-- t is in a run; in one of some runs
abbrev pub in_run : ℕ → Run → Bool
in_run t r = nat_le r.lo t && nat_le t r.hi

abbrev pub in_runs : ℕ → List Run → Bool
in_runs t rs = list_any (in_run t) rs

-- each run has a time
abbrev pub Ordered : List Run → Type 0
Ordered rs = AllByRecursion (λ r. r.lo ≤ r.hi) rs

-- runs from b on, in increasing order and apart
unfoldable pub Apart : ℕ → List Run → Type 0
Apart b [] = Unit {0}
Apart b (r ∷ rs) = (b ≤ r.lo) × (r.lo ≤ r.hi) × Apart (r.hi + 2) rs

-- the spans of a row that have times
abbrev pub run_in : Case → Run
run_in k = record { lo = k.lo; hi = k.hi }

abbrev pub runs_in : List Case → List Run
runs_in row = map run_in (filter (λ k. nat_le k.lo k.hi) row)

-- of every run of events that the row stands for: a time is in one of the runs exactly if some world has it now
abbrev pub RunsExact : List Case → List Run → Type 0
RunsExact row runs = (r : Rules) (es : List Event) → Stands r es row → (t : ℕ) → Decides (in_runs t runs) (World r es t)

-- the next run overlaps one or lies beside it; and the two as one
abbrev pub is_beside : Run → Run → Bool
is_beside r s = nat_le (s.lo - r.hi) 1

abbrev pub wider : Run → Run → Run
wider r s = record { lo = r.lo; hi = max r.hi s.hi }

-- Runs in increasing order joined where they overlap or lie beside each other: one is open, and grows or is closed by the next.
unfoldable pub joined_to : Run → List Run → List Run
joined_to r [] = r ∷ []
joined_to r (s ∷ ss) = cond (is_beside r s) (joined_to (wider r s) ss) (r ∷ joined_to s ss)

unfoldable pub joined : List Run → List Run
joined [] = []
joined (r ∷ rs) = joined_to r rs

-- the ends of the first and the last run
abbrev pub bounds_of : List Run → Option (ℕ × ℕ)
bounds_of rs = cond (length rs == 0) None (Some ((slice_index_or rs 0 (record { lo = 0; hi = 0 })).lo, (slice_index_or rs (length rs - 1) (record { lo = 0; hi = 0 })).hi))

-- they are the least and the greatest of all times in the runs; there is none if no time is
abbrev pub Bounds : List Run → Option (ℕ × ℕ) → Type 0
Bounds rs None = (t : ℕ) → in_runs t rs ≢ true
Bounds rs (Some b) = (in_runs b.0 rs ≡ true) × (in_runs b.1 rs ≡ true) × ((t : ℕ) → in_runs t rs ≡ true → (b.0 ≤ t) × (t ≤ b.1))
