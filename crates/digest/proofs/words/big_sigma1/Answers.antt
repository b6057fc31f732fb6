-- That the code is the function Σ1 of the standard.
use Rattle.digest.specs.Sha256.{Σ1, rotr}
use Rattle.digest.proofs.words.big_sigma1.Goals as goal

pub returns : goal.returns
unfolding Σ1 rotr
returns c = cc
