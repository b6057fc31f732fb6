use Rattle.std.proofs.Common.{◌≡◌, ◌<◌, ◌++◌, take, drop}
use Rattle.choice.specs.Runs.{joined, joined_to}
use Rattle.choice.proofs.runs.join.Given as goal

-- what is closed, and what the run that may still grow and the runs that are left give, are the whole; those are as they were
abbrev pub invariant-loop-i : goal.invariant-loop-i
invariant-loop-i l = (l.n < l.i) × (take l.n l.runs ++ joined_to l.wide (drop l.i l.runs) ≡ joined l.initial.runs)
