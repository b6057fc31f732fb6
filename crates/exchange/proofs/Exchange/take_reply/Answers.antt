use Rattle.std.proofs.Common.{length, ap, ◌∙◌, arith}
use Rattle.requests.specs.Book.{oldest_like}
use Rattle.requests.specs.Request.{reach_of}
use Rattle.requests.proofs.Reach.{reach_each}
use Rattle.exchange.proofs.Views.{length_walked, reach_answered}
use Rattle.exchange.proofs.Exchange.take_reply.Goals as goal

pub answer-requires : goal.answer-requires
answer-requires c =
    let x = c.args.self.now in
    let ps = x.requests.pending in
    omega (arith, ap (λ q. q.since) c.answer-request.ensures.taken, reach_each ps (oldest_like c.args.place ps) c.answer-request.ensures.within, x.reach)

pub invariant_of-self : goal.invariant_of-self
invariant_of-self c =
    let x = c.args.self.now in
    let far = ap (λ b. reach_of b.pending) c.answer-request.ensures.value in
    let lag = ap (λ v. v.lag) c.answer.ensures.value in
    let many = ap (λ v. length v.here) c.answer.ensures.value ∙ length_walked x.window.drift.millionths _ _ in
    record {
      order = x.order;
      reach = omega (arith, far, reach_answered c.args.place x.requests, lag, x.reach);
      room = omega (arith, many, x.room, x.window.paired, x.window.here.ok.0, x.window.mark.ok.0, c.answer.new.self.here.ok.0);
    }
