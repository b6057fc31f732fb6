use Rattle.std.proofs.Common.{◌≡◌, ◌*◌, ◌++◌, take, drop}
use Rattle.hextext.specs.Hex.{hex_of}
use Rattle.hextext.proofs.hex.write_digits.Given as goal

-- the digits so far are written, and nothing else
abbrev pub invariant-loop-i : goal.invariant-loop-i
invariant-loop-i l = l.out ≡ hex_of (take l.i l.bytes) ++ drop (2 * l.i) l.initial.out
