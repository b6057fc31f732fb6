-- The bytes so far are xored, and the others are as they were.
use Rattle.std.proofs.Common.{◌≡◌, ◌++◌, take, drop}
use Rattle.digest.specs.Hmac.{xored}
use Rattle.digest.proofs.block.masked.Given as goal

abbrev pub invariant-loop-byte : goal.invariant-loop-byte
invariant-loop-byte l =
    l.byte-items
    ≡ xored l.mask (take l.byte-index l.initial.byte-items) ++ drop l.byte-index l.initial.byte-items
