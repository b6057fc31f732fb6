use Rattle.std.proofs.Common.{ap, ◌∙◌, arith}
use Rattle.requests.specs.declared.request.Request.{Request}
use Rattle.requests.specs.Request.{reach_of}
use Rattle.requests.proofs.Reach.{reach_push}
use Rattle.exchange.proofs.Exchange.wait_for.Goals as goal

pub invariant_of-self : goal.invariant_of-self
invariant_of-self c =
    let x = c.args.self.now in
    let new : Request = record { server = c.args.server; nonce = c.args.nonce; count = x.count; since = 0 } in
    let far = ap (λ b. reach_of b.pending) c.add.ensures.value ∙ reach_push x.requests.pending new in
    record { order = x.order; reach = omega (arith, far, x.reach, c.requires.wide); room = x.room }
