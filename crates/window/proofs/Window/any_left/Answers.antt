use Rattle.std.proofs.Common.{subst}
use Rattle.choice.specs.Stands.{LeftExact}
use Rattle.window.proofs.Window.any_left.Goals as goal

pub returns-clause-exact : goal.returns-clause-exact
returns-clause-exact c = subst (λ row. LeftExact row c.any_left.result) c.deref.ensures.value c.any_left.ensures.exact
