use Rattle.std.proofs.Common.{◌≡◌, ◌++◌, take, drop}
use Rattle.hextext.specs.Hex.{pairs}
use Rattle.hextext.proofs.hex.read_pairs.Given as goal

-- the bytes so far are written, and nothing else
abbrev pub invariant-loop-i : goal.invariant-loop-i
invariant-loop-i l = l.out ≡ take l.i (pairs l.text) ++ drop l.i l.initial.out
