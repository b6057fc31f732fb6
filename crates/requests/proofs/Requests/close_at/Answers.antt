use Rattle.std.proofs.Common.{◌≡◌, ◌+◌, ◌≤◌, ℕ, length, refl, ap, arith}
use Rattle.std.proofs.lemmas.List.Edits.{length-remove}
use Rattle.std.proofs.lemmas.List.Elements.{All-push}
use Rattle.requests.specs.Request.{known_upto, reach_of}
use Rattle.requests.proofs.Reach.{reach_removed}
use Rattle.requests.proofs.Known.{known_all, known_more}
use Rattle.requests.proofs.Requests.close_at.Goals as goal

pub push_reserved-requires : goal.push_reserved-requires
push_reserved-requires c =
    let q = c.self.inside in
    let kept = c.self.invariant in
    omega (arith, kept.roomy, kept.few 64, known_all 64 q.closed.items kept.fresh, c.requires, ap (λ b. length b.pending) c.self.view_is, q.closed.ok.0)

pub invariant_of-self : goal.invariant_of-self
invariant_of-self c =
    let q = c.self.inside in
    let kept = c.self.invariant in
    let gone = c.remove-request.ensures.waiting in
    let less = length-remove q.pending c.args.place (omega (arith, c.requires, ap (λ b. length b.pending) c.self.view_is)) in
    let pushed = c.push_reserved.ensures.items in
    let more : (k : ℕ) → known_upto k c.push_reserved.new.self.items ≡ known_upto k q.closed.items + 1 = λ k. known_more k q.closed.items _ _ pushed refl in
    record {
      near = omega (arith, ap reach_of gone, reach_removed q.pending c.args.place, kept.near);
      roomy = omega (arith, kept.roomy, c.push_reserved.ensures.capacity);
      few = λ k. omega (arith, ap length gone, more k, kept.few k);
      fresh = rw pushed (All-push (λ r. r.since ≤ 64) q.closed.items _ kept.fresh (omega arith));
    }
