-- The oldest request like another.
use Rattle.std.proofs.Common.{◌≡◌, ℕ, ◌<◌, ◌≤◌, Bool, true, cond, List, length, get_or, Option, Some, None, position, unwrap_or, sym, ap, ◌∙◌, arith}
use Rattle.std.specs.List.{position_or_len}
use Rattle.std.proofs.lemmas.Bool.{both_ways, lt-ltb}
use Rattle.std.proofs.lemmas.Bool.Decides.{nat_tests}
use Rattle.std.proofs.lemmas.List.Quantifiers.{position-Some}
use Rattle.std.proofs.lemmas.List.Sums.{fails_before_first}
use Rattle.requests.specs.declared.request.Request.{Request}
use Rattle.requests.specs.Request.{alike, no_request}
use Rattle.requests.specs.Book.{oldest_like}

-- a request that is not far is like itself
pub like_self : (q : Request) → q.since < 64 → alike q q ≡ true
like_self q h = grind (arith, nat_tests)

-- the first that passes a test is not behind another that does
pub first_le : {X : Type 0} (p : X → Bool) (d : X) (xs : List X) (i : ℕ) → p (get_or xs i d) ≡ true → position_or_len p xs ≤ i
first_le p d xs i e = omega (arith, λ (l : i < position_or_len p xs). both_ways (p (get_or xs i d)) (fails_before_first p xs i d l) e)

pub oldest_within : (ps : List Request) (i : ℕ) → i < length ps → (get_or ps i no_request).since < 64 → oldest_like i ps < length ps
oldest_within ps i l near =
    omega (arith, first_le (alike (get_or ps i no_request)) no_request ps i (like_self (get_or ps i no_request) near))

-- what is found among those that are pending
pub oldest_found : (ps qs : List Request) (i : ℕ) (o : Option ℕ) → o ≡ position (alike (get_or qs i no_request)) ps → qs ≡ ps → i < length ps → (get_or ps i no_request).since < 64 → o ≡ Some (oldest_like i ps)
oldest_found ps qs i o e same l near =
    e
    ∙ ap (λ xs. position (alike (get_or xs i no_request)) ps) same
    ∙ ap (λ b. cond b (Some (oldest_like i ps)) None) (lt-ltb (oldest_like i ps) (length ps) (oldest_within ps i l near))

-- that, or the place itself where none is like it
pub oldest_or_place : (ps qs : List Request) (i : ℕ) (o : Option ℕ) → o ≡ position (alike (get_or qs i no_request)) ps → qs ≡ ps → i < length ps
    → ((get_or ps i no_request).since < 64 → unwrap_or o i ≡ oldest_like i ps) × (unwrap_or o i < length ps)
oldest_or_place ps qs i o e same l = (
  λ near. ap (λ x. unwrap_or x i) (oldest_found ps qs i o e same l near),
  inside o (e ∙ ap (λ xs. position (alike (get_or xs i no_request)) ps) same),
) where
  inside : (o : Option ℕ) → o ≡ position (alike (get_or ps i no_request)) ps → unwrap_or o i < length ps
  inside None e = l
  inside (Some k) e = (position-Some (alike (get_or ps i no_request)) ps k no_request (sym e)).0
