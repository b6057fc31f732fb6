use Rattle.std.proofs.Common.{[], ◌∷◌, length, ap, arith, length-append}
use Rattle.requests.specs.declared.request.Request.{Request}
use Rattle.requests.specs.Request.{known_upto, reach_of}
use Rattle.requests.proofs.Reach.{reach_push}
use Rattle.requests.proofs.Requests.add.Goals as goal

pub push-requires : goal.push-requires
push-requires c = omega (arith, c.requires 0, ap (λ b. length b.pending) c.self.view_is)

pub invariant_of-self : goal.invariant_of-self
invariant_of-self c =
    let q = c.self.inside in
    let kept = c.self.invariant in
    let new : Request = record { server = c.args.server; nonce = c.args.nonce; count = c.args.count; since = 0 } in
    record {
      near = omega (arith, ap reach_of c.push.ensures.waiting, reach_push q.pending new, kept.near);
      roomy = kept.roomy;
      few = λ k. omega (arith, ap length c.push.ensures.waiting, length-append q.pending (new ∷ []), c.requires k, ap (λ b. length b.pending) c.self.view_is, ap (λ b. known_upto k b.closed) c.self.view_is);
      fresh = kept.fresh;
    }
