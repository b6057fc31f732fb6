-- That the invariant holds, and that one byte more keeps it.
use Rattle.std.proofs.Common.{◌≡◌, length, refl, rules}
use Rattle.digest.specs.Hmac.{xored}
use Rattle.digest.proofs.Masks.{xored_more}
use Rattle.digest.proofs.block.masked.Goals as goal

pub loop-byte-init : goal.loop-byte-init
unfolding xored
loop-byte-init c = refl

pub loop-byte-preserved : goal.loop-byte-preserved
loop-byte-preserved c =
    let long : length c.args.block ≡ 64 = search rules in
    xored_more c.args.mask c.args.block c.loop-byte.byte-items c.loop-byte.byte-index long
    c.loop-byte-test.true c.loop-byte.invariant
