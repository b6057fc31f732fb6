use Rattle.std.proofs.Common.{rules}
use Rattle.hand.proofs.Updates.{sound_exact}
use Rattle.hand.proofs.Hand.is_sound.Goals as goal

pub returns-clause-exact : goal.returns-clause-exact
returns-clause-exact c = sound_exact c.args.runs.now c.args.self _ (search rules)
