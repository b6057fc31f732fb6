use Rattle.std.proofs.Common.{◌≡◌, ◌+◌, ◌≤◌, max, All, fold, length, unwrap_or, subst, ap, ◌∙◌, rules, tests, arith}
use Rattle.std.proofs.lemmas.Iterator.{YieldsList-from_slice, YieldsList-from_map}
use Rattle.std.proofs.lemmas.Iterator.Consumers.{reduce_from_yields_List}
use Rattle.std.proofs.lemmas.List.Folds.{max_of_map}
use Rattle.requests.specs.declared.request.Request.{Request}
use Rattle.requests.specs.Request.{known_upto, reach_of}
use Rattle.requests.proofs.Reach.{reach_from}
use Rattle.requests.proofs.Requests.reach.Goals as goal

pub returns : goal.returns
returns c =
    let ps = c.self.inside.pending in
    let since = λ (q : Request). q.since + 1 in
    let greatest : c.unwrap_or.result ≡ fold (λ a q. max a (since q)) 0 ps =
    c.unwrap_or.ensures ∙ ap (λ o. unwrap_or o 0) (reduce_from_yields_List _ c.map-reaches.result _ c.max.ensures.ran (YieldsList-from_map _ since (YieldsList-from_slice ps cc) c.map-reaches.ensures.closure (λ x b q k. search (rules, tests)))) ∙ max_of_map since ps in
    record {
      value = omega (arith, greatest, reach_from 0 ps, ap (λ b. reach_of b.pending) c.self.view_is);
      near = omega (arith, greatest, reach_from 0 ps, c.self.invariant.near);
      few = λ k. omega (arith, c.self.invariant.few k, ap (λ b. length b.pending) c.self.view_is, ap (λ b. known_upto k b.closed) c.self.view_is);
      fresh = subst (λ b. All (λ q. q.since ≤ 64) b.closed) c.self.view_is c.self.invariant.fresh;
    }
