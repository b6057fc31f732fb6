use Rattle.std.proofs.Common.{subst}
use Rattle.choice.specs.Stands.{NamesExact}
use Rattle.ledger.proofs.Ledger.named.Goals as goal

pub returns : goal.returns
returns c = record {
  exact =
      subst (λ row. NamesExact c.args.self.now.servers.many row c.named.result) c.deref.ensures.value
      (subst (λ n. NamesExact n c.deref.result.now c.named.result) c.many.ensures.value c.named.ensures.exact);
}
