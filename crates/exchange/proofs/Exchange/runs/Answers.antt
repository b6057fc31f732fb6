use Rattle.std.proofs.Common.{sym, subst}
use Rattle.exchange.specs.State.{state_of, runs_of}
use Rattle.exchange.specs.Stands.{SaysWorlds}
use Rattle.exchange.proofs.Saying.{says_worlds}
use Rattle.exchange.proofs.Exchange.runs.Goals as goal

pub returns-clause-exact : goal.returns-clause-exact
returns-clause-exact c =
    let x = c.args.self.now in
    subst (SaysWorlds (state_of x) (runs_of x)) (sym c.deref.ensures.value) (says_worlds (state_of x) (runs_of x))
