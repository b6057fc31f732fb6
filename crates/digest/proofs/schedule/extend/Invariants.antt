-- The words so far, with those that come next, are the whole schedule.
use Rattle.std.proofs.Common.{◌≡◌, ◌-◌, length, take}
use Rattle.digest.specs.Sha256.{extended}
use Rattle.digest.proofs.schedule.extend.Given as goal

abbrev pub invariant-loop-t : goal.invariant-loop-t
invariant-loop-t l =
    (length l.w ≡ 64) × (extended (64 - l.t) (take l.t l.w) ≡ extended 48 (take 16 l.initial.w))
