-- How far one has to go back to reach all requests.
use Rattle.std.proofs.Common.{◌≡◌, ℕ, zero, suc, ◌+◌, ◌<◌, ◌≤◌, max, List, [], ◌∷◌, ◌++◌, All, fold, map, length, get_or, set, refl, ap, arith}
use Rattle.std.specs.List.{remove}
use Rattle.std.proofs.lemmas.List.Elements.{All-from_get_or}
use Rattle.requests.specs.declared.request.Request.{Request}
use Rattle.requests.specs.Request.{reach_of, later_by, no_request, renonced}

pub reach_each : (qs : List Request) (k : ℕ) → k < length qs → (get_or qs k no_request).since < reach_of qs
unfolding reach_of
reach_each [] k h = absurd (omega arith)
reach_each (q ∷ qs) zero h = omega arith
reach_each (q ∷ qs) (suc k) h = omega (arith, reach_each qs k (omega arith))

pub reach_push : (qs : List Request) (q : Request) → reach_of (qs ++ q ∷ []) ≡ max (reach_of qs) (q.since + 1)
unfolding reach_of
reach_push [] q = omega arith
reach_push (x ∷ qs) q = omega (arith, reach_push qs q)

-- those that are at most 64 moments old
pub near_each : (qs : List Request) → reach_of qs ≤ 65 → All (λ q. q.since ≤ 64) qs
near_each qs h = All-from_get_or (λ q. q.since ≤ 64) qs no_request (λ i l. omega (arith, reach_each qs i l))

-- the reach as the greatest of numbers
pub reach_from : (a : ℕ) (qs : List Request) → fold (λ r q. max r (q.since + 1)) a qs ≡ max a (reach_of qs)
unfolding reach_of
reach_from a [] = omega arith
reach_from a (q ∷ qs) = omega (arith, reach_from (max a (q.since + 1)) qs)

-- the reach of some of the requests, and one moment later
pub reach_later : (qs : List Request) → reach_of (map later_by qs) ≤ reach_of qs + 1
unfolding reach_of
reach_later [] = omega arith
reach_later (q ∷ qs) = omega (arith, reach_later qs)

pub reach_removed : (qs : List Request) (i : ℕ) → reach_of (remove qs i) ≤ reach_of qs
unfolding reach_of
reach_removed [] zero = omega arith
reach_removed [] (suc i) = omega arith
reach_removed (q ∷ qs) zero = omega arith
reach_removed (q ∷ qs) (suc i) = omega (arith, reach_removed qs i)

pub reach_renonced : (qs : List Request) (i : ℕ) (n : List ℕ) → reach_of (set qs i (renonced n (get_or qs i no_request))) ≡ reach_of qs
unfolding reach_of
reach_renonced [] i n = refl
reach_renonced (q ∷ qs) zero n = refl
reach_renonced (q ∷ qs) (suc i) n = ap (λ r. max (q.since + 1) r) (reach_renonced qs i n)
