-- That the code and then zeros stand there.
use Rattle.std.proofs.Common.{◌++◌, replicate, ap, ◌∙◌}
use Rattle.sign.specs.Stand.{stand_in}
use Rattle.sign.proofs.hmac.HmacSignaturesSignatures.sign.Goals as goal

pub returns : goal.returns
unfolding stand_in
returns c = record { accepted = ap (λ l. l ++ replicate 32 0) (c.copy_from_slice.ensures.after ∙ c.hmac_sha256.ensures.value) }
