use Rattle.std.proofs.Common.{◌≡◌, take, vec_items, vec_len, sym, refl, ap, ◌∙◌, subst, ap₂, arith, rules}
use Rattle.std.proofs.lemmas.List.{with_items_is}
use Rattle.requests.specs.Request.{reach_of}
use Rattle.exchange.specs.Stands.{Said}
use Rattle.exchange.proofs.Following.{fresh_stands}
use Rattle.exchange.proofs.Exchange.new.Goals as goal

pub invariant_of-result : goal.invariant_of-result
unfolding reach_of
invariant_of-result c =
    let w = c.in_ok-window.window in
    let none = ap (λ b. reach_of b.pending) c.in_ok-requests.ensures.value in
    let long : vec_len c.in_ok-runs.runs ≡ c.many.result = search rules in
    record {
      order = omega arith;
      reach = omega (arith, none);
      room = omega (arith, c.truncate.ensures.capacity, long, c.in_ok-runs.runs.ok.0, c.many.ensures.value, w.here.ok.0);
    }

pub returns : goal.returns
returns c =
    let w = c.in_ok-window.window in
    let after = c.union-many.new.room in
    let is = with_items_is c.in_ok-runs.runs after (c.union-many.auto.room ∙ c.deref_mut.ensures.len) in
    let said : Said (vec_items w.here) (vec_items c.truncate.new.self) =
    subst (Said (vec_items w.here)) (sym c.truncate.ensures.items)
    (subst (λ runs. Said (vec_items w.here) (take c.union-many.result runs)) (sym is) (record { apart = c.union-many.ensures.apart; same = c.union-many.ensures.same })) in
    record {
      begins = record {
        state = ap₂ (λ v b. record { servers = c.args.servers.many; window = v; book = b; last = 0; count = 0 }) c.in_ok-window.ensures.value c.in_ok-requests.ensures.value;
        says = said;
      };
      on = λ r n f l d t. fresh_stands r _ _ n (c.in_ok-window.ensures.begins r n f l d t) (ap (λ v. v.kept) c.in_ok-window.ensures.value) (ap (λ b. b.pending) c.in_ok-requests.ensures.value) refl said;
    }
