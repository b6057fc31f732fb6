-- The moments that a ring keeps, the oldest first.
use Rattle.std.specs.Prelude.{ℕ, ◌+◌, ◌≤◌, false, Some, None}
use Rattle.choice.specs.declared.case.Claim.{Claim}
use Rattle.trail.specs.declared.Moment.{Moment}

-- what is true of the memory of kept moments: where they begin, how many there are with those that are forgotten, and for how many there is room
pub record IsKept (start many room : ℕ) : Type 0 where
  pub within : start ≤ many
  pub few : many ≤ start + 1024
  pub short : many ≤ 2048
  pub roomy : 2048 ≤ room

-- what stands past the end of a list
abbrev pub nothing : Moment
nothing = record { count = 0; ticks = 0; marked = false; claim = None }

-- a moment with a claim put down at it
abbrev pub claimed : Claim → Moment → Moment
claimed c m = record { count = m.count; ticks = m.ticks; marked = m.marked; claim = Some c }
