-- How many closed requests are known, and how many requests there are in all.
use Rattle.std.proofs.Common.{◌≡◌, ℕ, zero, suc, ◌+◌, ◌<◌, ◌≤◌, Bool, true, false, cond, leb, List, [], ◌∷◌, ◌++◌, All, map, length, filter, refl, ap, ◌∙◌, arith}
use Rattle.std.proofs.lemmas.Bool.{leb-true, le-leb}
use Rattle.std.proofs.lemmas.Bool.Decides.{nat_tests}
use Rattle.std.proofs.lemmas.List.Elements.{All-head, All-tail, All-weaker, filter_passes}
use Rattle.std.proofs.lemmas.List.Sums.{sum_by-cons, sum_by_push}
use Rattle.requests.specs.declared.request.Request.{Request}
use Rattle.requests.specs.Request.{known_upto, later_by}
use Rattle.requests.specs.Book.{is_known}

-- one more of them
known_cons : (k : ℕ) (c : Request) (cs : List Request) → known_upto k (c ∷ cs) ≡ cond (leb c.since k) 1 0 + known_upto k cs
known_cons k c cs = sum_by-cons (λ q. cond (leb q.since k) 1 0) c cs

-- one more is closed just now
pub known_more : (k : ℕ) (cs ds : List Request) (c : Request) → ds ≡ cs ++ c ∷ [] → c.since ≡ 0 → known_upto k ds ≡ known_upto k cs + 1
known_more k cs ds c e h = ap (known_upto k) e ∙ sum_by_push (λ q. cond (leb q.since k) 1 0) cs c ∙ ap (λ b. known_upto k cs + cond b 1 0) (le-leb c.since k (omega (arith, h)))

-- where each is known, all are
pub known_all : (k : ℕ) (cs : List Request) → All (λ c. c.since ≤ k) cs → known_upto k cs ≡ length cs
known_all k [] h = refl
known_all k (c ∷ cs) h =
    omega (arith, known_cons k c cs, ap {B = ℕ} (λ b. cond b 1 0) (le-leb c.since k (All-head (λ q. q.since ≤ k) c cs h)), known_all k cs (All-tail (λ q. q.since ≤ k) c cs h))

-- one moment later
known_none : (cs : List Request) → known_upto 0 (map later_by cs) ≡ 0
known_none [] = refl
known_none (c ∷ cs) = omega (arith, known_cons 0 (later_by c) (map later_by cs), ap {B = ℕ} (λ b. cond b 1 0) (off c.since), known_none cs) where
  off : (n : ℕ) → leb (n + 1) 0 ≡ false
  off n = grind (arith, nat_tests)

known_later : (k : ℕ) (cs : List Request) → known_upto (suc k) (map later_by cs) ≡ known_upto k cs
known_later k [] = refl
known_later k (c ∷ cs) = omega (arith, known_cons (suc k) (later_by c) (map later_by cs), known_cons k c cs, ap {B = ℕ} (λ b. cond b 1 0) (same c.since), known_later k cs) where
  same : (n : ℕ) → leb (n + 1) (suc k) ≡ leb n k
  same n = grind (arith, nat_tests)

-- those that are kept
kept_known : (k : ℕ) (cs : List Request) → known_upto k (filter is_known cs) ≤ known_upto k cs
kept_known k [] = omega arith
kept_known k (c ∷ cs) = go (is_known c) (kept_known k cs) where
  go : (b : Bool) → known_upto k (filter is_known cs) ≤ known_upto k cs → known_upto k (cond b (c ∷ filter is_known cs) (filter is_known cs)) ≤ known_upto k (c ∷ cs)
  go true h = omega (arith, known_cons k c (filter is_known cs), known_cons k c cs, h)
  go false h = omega (arith, known_cons k c cs, h)

pub kept_fresh : (cs : List Request) → All (λ c. c.since ≤ 64) (filter is_known cs)
kept_fresh cs = All-weaker (λ c. is_known c ≡ true) (λ c. c.since ≤ 64) (λ c e. leb-true c.since 64 e) (filter is_known cs) (filter_passes is_known cs)

-- of those that are pending or were closed in the last k moments there are no more a moment later
pub few_later : (many : ℕ) (cs : List Request) → ((k : ℕ) → many + known_upto k cs ≤ 16 + k) → (k : ℕ) → (many + known_upto k (filter is_known (map later_by cs)) ≤ 16 + k) × (many < 16 → many + known_upto k (filter is_known (map later_by cs)) + 1 ≤ 16 + k)
few_later many cs h zero =
    let none = known_none cs in
    let few = kept_known 0 (map later_by cs) in
    (omega (arith, h 0), λ l. omega arith)
few_later many cs h (suc k) =
    let less = known_later k cs in
    let few = kept_known (suc k) (map later_by cs) in
    (omega (arith, h k), λ l. omega (arith, h k))
