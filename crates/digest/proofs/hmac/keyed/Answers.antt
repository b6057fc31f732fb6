-- That to go on from the state after the masked key is to hash the two together.
use Rattle.std.proofs.Common.{◌≡◌, length, ap, ◌∙◌, rules}
use Rattle.digest.specs.Hmac.{xored}
use Rattle.digest.specs.Sha256.{compressed, ending, start}
use Rattle.digest.proofs.Blocks.{ending_block}
use Rattle.digest.proofs.Masks.{xored_long}
use Rattle.digest.proofs.hmac.keyed.Goals as goal

pub returns : goal.returns
returns c =
    let m = c.args.bytes.now in
    let block = xored c.args.mask c.args.block in
    let whole : length c.args.block ≡ 64 = search rules in
    let state : c.compress-state.result ≡ compressed start block
    = c.compress-state.ensures
    ∙ ap (λ s. compressed s c.masked.result) c.start.ensures
    ∙ ap (compressed start) c.masked.ensures in
    c.finish.ensures ∙ ap (λ s. ending s 64 m) state ∙ ending_block block m (xored_long c.args.mask c.args.block ∙ whole)
