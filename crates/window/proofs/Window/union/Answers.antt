use Rattle.std.proofs.Common.{take, subst}
use Rattle.choice.specs.Runs.{RunsExact}
use Rattle.window.proofs.Window.union.Goals as goal

pub returns-clause-exact : goal.returns-clause-exact
returns-clause-exact c = subst (λ row. RunsExact row (take c.union.result c.union.new.room)) c.deref.ensures.value c.union.ensures.exact
