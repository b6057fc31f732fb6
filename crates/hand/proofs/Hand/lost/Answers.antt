use Rattle.std.proofs.Common.{rules}
use Rattle.hand.specs.Steady.{Lost}
use Rattle.hand.proofs.Updates.{promised}
use Rattle.hand.proofs.Hand.lost.Goals as goal

pub returns-clause-stands : goal.returns-clause-stands
returns-clause-stands c = (promised (Lost c.args.ticks) c.args.self _ (search rules)).2
