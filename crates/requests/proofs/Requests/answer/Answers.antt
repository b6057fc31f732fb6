use Rattle.std.proofs.Common.{◌≡◌, length, ap, ◌∙◌, arith, length-set}
use Rattle.std.proofs.lemmas.List.Edits.{length-remove}
use Rattle.requests.specs.Request.{reach_of}
use Rattle.requests.proofs.Reach.{reach_removed, reach_renonced}
use Rattle.requests.proofs.Requests.answer.Goals as goal

pub invariant_of-self : goal.invariant_of-self
invariant_of-self c =
    let q = c.self.inside in
    let kept = c.self.invariant in
    let next = c.set_nonce.new.self in
    let at = c.oldest_like-oldest.result in
    let same : length next ≡ length q.pending = ap length c.set_nonce.ensures.waiting ∙ length-set q.pending c.args.place _ in
    let far : reach_of next ≡ reach_of q.pending = ap reach_of c.set_nonce.ensures.waiting ∙ reach_renonced q.pending c.args.place _ in
    let gone = c.remove.ensures.waiting in
    let less = length-remove next at (omega (arith, c.oldest_like-oldest.ensures.within, ap (λ b. length b.pending) c.self.view_is)) in
    record {
      near = omega (arith, ap reach_of gone, reach_removed next at, kept.near);
      roomy = kept.roomy;
      few = λ k. omega (arith, ap length gone, kept.few k);
      fresh = kept.fresh;
    }
