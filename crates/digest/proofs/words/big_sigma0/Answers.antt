-- That the code is the function Σ0 of the standard.
use Rattle.digest.specs.Sha256.{Σ0, rotr}
use Rattle.digest.proofs.words.big_sigma0.Goals as goal

pub returns : goal.returns
unfolding Σ0 rotr
returns c = cc
