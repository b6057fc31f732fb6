use Rattle.std.proofs.Common.{length, ap, ◌∙◌, arith}
use Rattle.std.proofs.lemmas.List.{length-map}
use Rattle.requests.specs.Request.{reach_of}
use Rattle.exchange.proofs.Views.{none_left}
use Rattle.exchange.proofs.Exchange.begin_anew.Goals as goal

pub invariant_of-self : goal.invariant_of-self
unfolding reach_of
invariant_of-self c =
    let x = c.args.self.now in
    let none = ap (λ b. reach_of b.pending) c.close.ensures.value ∙ ap reach_of (none_left x.requests.pending) in
    let same = ap (λ v. length v.here) c.begin_anew.ensures.value ∙ length-map _ _ in
    record {
      order = x.order;
      reach = omega (arith, none);
      room = omega (arith, same, x.room, x.window.here.ok.0, c.begin_anew.new.self.here.ok.0);
    }
