use Rattle.std.proofs.Common.{map, length, ap, arith}
use lib.ListN.{length-map}
use Rattle.requests.specs.Request.{known_upto, later_by, reach_of}
use Rattle.requests.proofs.Known.{few_later, kept_fresh}
use Rattle.requests.proofs.Reach.{reach_later}
use Rattle.requests.proofs.Requests.tick.Goals as goal

pub invariant_of-self : goal.invariant_of-self
invariant_of-self c =
    let q = c.self.inside in
    let kept = c.self.invariant in
    let later = c.later.ensures.waiting in
    let known = c.known_later.ensures.items in
    record {
      near = omega (arith, ap reach_of later, reach_later q.pending, c.requires, ap (λ b. reach_of b.pending) c.self.view_is);
      roomy = omega (arith, kept.roomy, c.known_later.ensures.room);
      few = λ k. omega (arith, ap length later, length-map q.pending later_by, ap (known_upto k) known, (few_later (length q.pending) q.closed.items kept.few k).0);
      fresh = rw known (kept_fresh (map later_by q.closed.items));
    }

pub returns-clause-spare : goal.returns-clause-spare
returns-clause-spare c =
    let q = c.self.inside in
    λ few k. omega (arith, ap length c.later.ensures.waiting, length-map q.pending later_by, ap (known_upto k) c.known_later.ensures.items, (few_later (length q.pending) q.closed.items c.self.invariant.few k).1 (omega (arith, few, ap (λ b. length b.pending) c.self.view_is)))
