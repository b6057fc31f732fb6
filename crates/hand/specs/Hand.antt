-- What the hand of a clock box does at each update: it shows one time, out of the runs of times that may be.
use Rattle.std.specs.Prelude.{ℕ, ◌+◌, ◌-◌, ◌/◌, min, max, Bool, true, false, cond, List, [], ◌∷◌, Some, None, Option, nat_le, nat_lt}
use Rattle.std.specs.Option.{option_map, unwrap_or}
use Rattle.std.specs.List.{best_of}
use Rattle.span.specs.Rate.{share}
use Rattle.span.specs.Span.{ceiling}
use Rattle.choice.specs.declared.runs.Run.{Run}
use Rattle.choice.specs.Runs.{in_runs}
use Rattle.hand.specs.declared.Hand.{Hand}

-- from the least to the greatest time of a run
abbrev pub length_of : Run → ℕ
length_of r = r.hi - r.lo

abbrev pub longer : Run → Run → Bool
longer r s = nat_lt (length_of s) (length_of r)

-- the longest of a run and those after it, the first of equal ones: one is taken in place of the longest so far only if it is longer
unfoldable pub longest : Run → List Run → Run
longest r rs = best_of longer r rs

-- its middle, rounded down
abbrev pub middle : Run → ℕ
middle r = (r.lo + r.hi) / 2

-- where the hand wants to be: in the middle of the longest run
unfoldable pub wanted : List Run → ℕ
wanted [] = 0
wanted (r ∷ rs) = middle (longest r rs)

-- how far the hand at t may go in n ticks: it is faster than the local clock by at most 500 millionths
abbrev pub reach : ℕ → ℕ → ℕ
reach n t = t + (n + share 500 n)

-- from t towards a goal: there if it is ahead, but at most to the reach; where it is not ahead the hand stands still
abbrev pub towards : ℕ → ℕ → ℕ → ℕ
towards n goal t = max t (min goal (reach n t))

-- the next time that may be, from t on; t itself where none is left
unfoldable pub next : ℕ → List Run → ℕ
next t [] = t
next t (r ∷ rs) = cond (nat_le t r.hi) (max t r.lo) (next t rs)

-- an ordinary step in n ticks: towards the middle of the longest run, and from there to the next time that may be
abbrev pub step : List Run → ℕ → ℕ → ℕ
step rs n t = next (towards n (wanted rs) t) rs

-- the free run: on by the ticks, no further than the ceiling, and never back
abbrev pub onward : ℕ → ℕ → ℕ
onward n t = max t (min (t + n) ceiling)

-- a hand that shows nothing yet
abbrev pub fresh : Hand
fresh = record { time = None; free = false }

-- no world is left: from now on it runs freely
abbrev pub lost : ℕ → Hand → Hand
lost n h = record { time = option_map (onward n) h.time; free = true }

-- an ordinary step, if it shows a time
abbrev pub stepped : List Run → ℕ → Hand → Hand
stepped rs n h = record { time = option_map (step rs n) h.time; free = false }

-- a reply was accepted: with a world left the hand steps, or shows the least time that may be if it showed none, and runs freely no more
abbrev pub heard : List Run → ℕ → Hand → Hand
heard [] n h = lost n h
heard (r ∷ rs) n h = record { time = Some (unwrap_or (option_map (step (r ∷ rs) n) h.time) r.lo); free = false }

-- any other update: with a world left the hand steps, unless it runs freely
abbrev pub passed : List Run → ℕ → Hand → Hand
passed [] n h = lost n h
passed (r ∷ rs) n h = cond h.free (lost n h) (stepped (r ∷ rs) n h)

-- the hand shows a time that may be
abbrev pub sound_in : List Run → Option ℕ → Bool
sound_in rs None = false
sound_in rs (Some t) = in_runs t rs
