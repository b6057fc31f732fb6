use Rattle.std.proofs.Common.{not, ap, arith}
use Rattle.requests.specs.declared.request.Over.TheVariants.{Far}
use Rattle.requests.specs.Request.{over, reach_of}
use Rattle.exchange.proofs.Views.{reach_kept, reach_near}
use Rattle.exchange.proofs.Exchange.close_far.Goals as goal

pub invariant_of-self : goal.invariant_of-self
invariant_of-self c =
    let x = c.args.self.now in
    record {
      order = x.order;
      reach = omega (arith, ap (λ b. reach_of b.pending) c.close.ensures.value, reach_kept (λ q. not (over Far q)) x.requests.pending, x.reach);
      room = x.room;
    }

pub returns-clause-near : goal.returns-clause-near
returns-clause-near c = omega (arith, ap (λ b. reach_of b.pending) c.close.ensures.value, reach_near c.args.self.now.requests.pending)
