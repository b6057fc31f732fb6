use Rattle.std.proofs.Common.{◌≡◌, ◌≤◌, ◌++◌, take, drop}
use Rattle.choice.specs.Runs.{runs_in}
use Rattle.choice.proofs.runs.gather.Given as goal

-- what was put and what is left to look at are the whole
abbrev pub invariant-loop-case : goal.invariant-loop-case
invariant-loop-case l = (l.n ≤ l.case-index) × (take l.n l.room ++ runs_in (drop l.case-index l.row) ≡ runs_in l.row)
