use Rattle.std.proofs.Common.{not, ap, arith}
use Rattle.requests.specs.declared.request.Over.TheVariants.{Age}
use Rattle.requests.specs.Request.{over, reach_of}
use Rattle.exchange.proofs.Views.{reach_kept}
use Rattle.exchange.proofs.Exchange.set_clock.Goals as goal

pub invariant_of-self : goal.invariant_of-self
invariant_of-self c =
    let x = c.args.self.now in
    record {
      order = omega (arith, x.order, c.requires);
      reach = omega (arith, ap (λ b. reach_of b.pending) c.close.ensures.value, reach_kept (λ q. not (over (Age c.args.count) q)) x.requests.pending, x.reach);
      room = x.room;
    }
