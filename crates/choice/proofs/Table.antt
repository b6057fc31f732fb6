-- The table of worked cases, computed.
use Rattle.std.proofs.Common.{refl}
use lib.Count.{ones}
use Rattle.span.specs.Model.{moments, put, cut_all, through}
use Rattle.choice.specs.Choice.{choice_of, chosen}
use Rattle.choice.specs.Runs.{joined, joined_to}
use Rattle.choice.specs.Cases.{placed, sorted, Worked}

pub worked : Worked
unfolding moments put cut_all through choice_of chosen joined joined_to placed sorted ones
worked = ((refl, refl), ((refl, refl), ((refl, refl), (refl, ((refl, refl), ((refl, refl), ((refl, refl), tt)))))))
