use Rattle.std.proofs.Common.{length, ap, arith}
use Rattle.requests.specs.Request.{known_upto, reach_of}
use Rattle.requests.proofs.Requests.new.Goals as goal

pub invariant_of-result : goal.invariant_of-result
unfolding reach_of
invariant_of-result c =
    let none = c.new.ensures.waiting in
    let m = c.in_ok-with_capacity.ensures in
    record {
      near = omega (arith, ap reach_of none);
      roomy = m.capacity;
      few = λ k. omega (arith, ap length none, ap (known_upto k) m.items);
      fresh = λ k d h. absurd (omega (arith, ap length m.items));
    }
