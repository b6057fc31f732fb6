use Rattle.std.proofs.Common.{◌≡◌, drop}
use Rattle.trail.specs.Trail.{walked}
use Rattle.trail.proofs.walk_row.Given as goal

-- what is left to do gives the whole
abbrev pub invariant-loop-moment : goal.invariant-loop-moment
invariant-loop-moment l = walked l.drift.millionths (drop l.moment-index l.moments) l.row ≡ walked l.drift.millionths l.moments l.initial.row
