-- The words so far are those of the block.
use Rattle.std.proofs.Common.{◌≡◌, ℕ, ◌<◌, length, get_or}
use Rattle.digest.specs.Sha256.{word_at}
use Rattle.digest.proofs.schedule.parse.Given as goal

abbrev pub invariant-loop-t : goal.invariant-loop-t
invariant-loop-t l = (length l.w ≡ 64) × ((k : ℕ) → k < l.t → get_or l.w k 0 ≡ word_at l.block k)
