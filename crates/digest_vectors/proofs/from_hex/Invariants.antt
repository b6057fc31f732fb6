-- The text of the bytes so far, and then what is left, is the whole text.
use Rattle.std.proofs.Common.{◌≡◌, ◌++◌, length, vec_items}
use Rattle.digest_vectors.specs.Hex.{hex_of}
use Rattle.digest_vectors.proofs.from_hex.Given as goal

abbrev pub invariant-loop-left : goal.invariant-loop-left
invariant-loop-left l = hex_of (vec_items l.bytes) ++ l.left ≡ l.text

abbrev pub decreases-loop-left : goal.decreases-loop-left
decreases-loop-left l = length l.left
