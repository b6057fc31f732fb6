-- That the code is the function σ1 of the standard.
use Rattle.digest.specs.Sha256.{σ1, rotr, shr}
use Rattle.digest.proofs.words.small_sigma1.Goals as goal

pub returns : goal.returns
unfolding σ1 rotr shr
returns c = cc
