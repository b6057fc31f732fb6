use Rattle.std.proofs.Common.{subst}
use Rattle.choice.specs.Stands.{NamesExact}
use Rattle.window.proofs.Window.named.Goals as goal

pub returns-clause-exact : goal.returns-clause-exact
returns-clause-exact c =
    subst (λ row. NamesExact c.args.self.now.servers.many row c.named.result) c.deref.ensures.value
    (subst (λ n. NamesExact n c.deref.result.now c.named.result) c.many.ensures.value c.named.ensures.exact)
