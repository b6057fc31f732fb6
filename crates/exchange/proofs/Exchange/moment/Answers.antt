use Rattle.std.proofs.Common.{length, ap, ◌∙◌, arith}
use Rattle.std.proofs.lemmas.List.{length-map}
use Rattle.requests.specs.Request.{reach_of}
use Rattle.requests.proofs.Reach.{reach_later}
use Rattle.window.specs.View.{view_of}
use Rattle.exchange.proofs.Views.{settled_lag, settled_here, roomy_lag, roomy_here}
use Rattle.exchange.proofs.Exchange.moment.Goals as goal

pub invariant_of-self : goal.invariant_of-self
invariant_of-self c =
    let x = c.args.self.now in
    let later = ap (λ b. reach_of b.pending) c.tick.ensures.value in
    let one = c.settle.ensures.value in
    let two = c.make_room-forgot.ensures.value in
    let three = c.make.ensures.value in
    let v = view_of c.settle.new.self in
    let lag = ap (λ w. w.lag) three in
    let lag_two = ap (λ w. w.lag) two ∙ roomy_lag x.count v in
    let lag_one = ap (λ w. w.lag) one ∙ settled_lag c.reach-reach.result (view_of x.window) in
    let many = ap (λ w. length w.here) three ∙ length-map _ _ in
    let many_two = ap (λ w. length w.here) two ∙ ap length (roomy_here x.count v) in
    let many_one = ap (λ w. length w.here) one ∙ ap length (settled_here c.reach-reach.result (view_of x.window)) in
    record {
      order = omega arith;
      reach = omega (arith, later, reach_later x.requests.pending, c.reach-reach.ensures.value, lag, lag_two, lag_one);
      room = omega (arith, many, many_two, many_one, x.room, x.window.here.ok.0, c.make.new.self.here.ok.0);
    }
