use Rattle.exchange.specs.State.{state_of, runs_of}
use Rattle.exchange.proofs.Saying.{names_worlds}
use Rattle.exchange.proofs.Exchange.named.Goals as goal

pub returns-clause-exact : goal.returns-clause-exact
returns-clause-exact c = names_worlds (state_of c.args.self.now) (runs_of c.args.self.now) c.named.result c.named.ensures.exact
