use Rattle.std.proofs.Common.{refl}
use Rattle.hand.specs.Steady.{after}
use Rattle.hand.proofs.Hand.new.Goals as goal

pub returns : goal.returns
unfolding after
returns c = record { value = refl; stands = refl }
