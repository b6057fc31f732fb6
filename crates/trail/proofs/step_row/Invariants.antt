use Rattle.std.proofs.Common.{◌≡◌, ◌++◌, take, drop}
use Rattle.choice.specs.Row.{over_row}
use Rattle.trail.specs.Trail.{stepped}
use Rattle.trail.proofs.step_row.Given as goal

-- what is done and what is left to do are the whole
abbrev pub invariant-loop-case : goal.invariant-loop-case
invariant-loop-case l =
    take l.case-index l.row ++ over_row (stepped l.fn.drift.millionths l.moment) (drop l.case-index l.row) ≡ over_row (stepped l.fn.drift.millionths l.moment) l.initial.row
