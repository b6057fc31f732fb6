-- That the code is the function σ0 of the standard.
use Rattle.digest.specs.Sha256.{σ0, rotr, shr}
use Rattle.digest.proofs.words.small_sigma0.Goals as goal

pub returns : goal.returns
unfolding σ0 rotr shr
returns c = cc
