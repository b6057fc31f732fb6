-- What the steps of a window leave of its mark and of its spans now, and those of requests of their reach.
use Rattle.std.proofs.Common.{◌≡◌, ℕ, ◌+◌, ◌^◌, ◌<◌, ◌≤◌, max, Bool, true, false, cond, not, eqb, ltb, leb, List, [], ◌∷◌, length, get_or, set, filter, Ok, Err, Result, sym, refl, ◌∙◌, subst, ⊎_elim, arith}
use Rattle.std.proofs.lemmas.Bool.{eqb-true, eqb-false, leb-false, ltb-true, and_cases, cases_lt}
use Rattle.choice.specs.declared.case.Case.{Case}
use Rattle.choice.specs.Row.{over_row, respan}
use Rattle.trail.specs.declared.Moment.{Moment}
use Rattle.trail.specs.Trail.{stepped, walked}
use Rattle.window.specs.View.{View}
use Rattle.window.specs.Steps.{marked_here, marked_on, settled, forgot, aged, is_full, roomy}
use Rattle.requests.specs.declared.request.Request.{Request}
use Rattle.requests.specs.declared.request.Over.TheVariants.{Far, Any}
use Rattle.requests.specs.declared.request.Unfit.{Unfit}
use Rattle.requests.specs.declared.request.Unfit.TheVariants.{Unknown, Late}
use Rattle.requests.specs.Request.{over, is_for, reach_of, no_request, renonced}
use Rattle.std.specs.List.{list_any, position_or_len}
use Rattle.std.proofs.lemmas.List.{length-map}
use Rattle.std.proofs.lemmas.List.Sums.{passes_at_first}
use Rattle.requests.proofs.Reach.{reach_removed, reach_renonced}
use Rattle.requests.specs.Book as book
use Rattle.wire.specs.declared.input.Reading.{Reading}
use Rattle.span.specs.Span.{ceiling}
use Rattle.std.proofs.lemmas.Bool.Decides.{nat_tests}
use Rattle.exchange.specs.State.{State}
use Rattle.exchange.specs.Steps.{in_range}

pub settled_lag : (k : ℕ) (v : View) → (settled k v).lag ≡ k
settled_lag k v = go (eqb k 0) refl where
  go : (b : Bool) → eqb k 0 ≡ b → (cond b (marked_here v) (marked_on k v)).lag ≡ k
  go true e = sym (eqb-true k 0 e)
  go false e = refl

pub settled_here : (k : ℕ) (v : View) → (settled k v).here ≡ v.here
settled_here k v = go (eqb k 0) where
  go : (b : Bool) → (cond b (marked_here v) (marked_on k v)).here ≡ v.here
  go true = refl
  go false = refl

pub settled_kept : (k : ℕ) (v : View) → (settled k v).kept ≡ v.kept
settled_kept k v = go (eqb k 0) where
  go : (b : Bool) → (cond b (marked_here v) (marked_on k v)).kept ≡ v.kept
  go true = refl
  go false = refl

pub roomy_lag : (count : ℕ) (v : View) → (roomy count v).lag ≡ v.lag
roomy_lag count v = go (is_full (aged count v)) where
  go : (b : Bool) → (cond b (forgot 1 (aged count v)) (aged count v)).lag ≡ v.lag
  go true = refl
  go false = refl

pub roomy_here : (count : ℕ) (v : View) → (roomy count v).here ≡ v.here
roomy_here count v = go (is_full (aged count v)) where
  go : (b : Bool) → (cond b (forgot 1 (aged count v)) (aged count v)).here ≡ v.here
  go true = refl
  go false = refl

-- none is left if any is over
pub none_left : (qs : List Request) → filter (λ q. not (over Any q)) qs ≡ []
none_left [] = refl
none_left (q ∷ qs) = none_left qs

-- those that are left reach no further
pub reach_kept : (p : Request → Bool) (qs : List Request) → reach_of (filter p qs) ≤ reach_of qs
unfolding reach_of
reach_kept p [] = omega arith
reach_kept p (q ∷ qs) = go (p q) (reach_kept p qs) where
  go : (b : Bool) → reach_of (filter p qs) ≤ reach_of qs → reach_of (cond b (q ∷ filter p qs) (filter p qs)) ≤ max (q.since + 1) (reach_of qs)
  go true h = omega arith
  go false h = omega arith

pub reach_near : (qs : List Request) → reach_of (filter (λ q. not (over Far q)) qs) ≤ 64
unfolding reach_of
reach_near [] = omega arith
reach_near (q ∷ qs) = go (leb 64 q.since) refl (reach_near qs) where
  go : (b : Bool) → leb 64 q.since ≡ b → reach_of (filter (λ q. not (over Far q)) qs) ≤ 64 → reach_of (cond (not b) (q ∷ filter (λ q. not (over Far q)) qs) (filter (λ q. not (over Far q)) qs)) ≤ 64
  go true e h = h
  go false e h = omega (arith, leb-false 64 q.since e)

pub some_few : {X : Type 0} (p : X → Bool) (xs : List X) → length (filter p xs) ≤ length xs
some_few p [] = omega arith
some_few p (x ∷ xs) = go (p x) (some_few p xs) where
  go : (b : Bool) → length (filter p xs) ≤ length xs → length (cond b (x ∷ filter p xs) (filter p xs)) ≤ length (x ∷ xs)
  go true h = omega arith
  go false h = omega arith

-- fewer than sixteen are left where it is not full
pub far_few : (qs : List Request) → 64 < reach_of qs → length (filter (λ q. not (over Far q)) qs) < length qs
unfolding reach_of
far_few [] h = absurd (omega arith)
far_few (q ∷ qs) h = go (leb 64 q.since) refl (some_few (λ q. not (over Far q)) qs) (far_few qs) where
  go : (b : Bool) → leb 64 q.since ≡ b → length (filter (λ q. not (over Far q)) qs) ≤ length qs → (64 < reach_of qs → length (filter (λ q. not (over Far q)) qs) < length qs) → length (cond (not b) (q ∷ filter (λ q. not (over Far q)) qs) (filter (λ q. not (over Far q)) qs)) < length (q ∷ qs)
  go true e h r = omega arith
  go false e k r = let f = leb-false 64 q.since e in omega (arith, r (omega arith))

pub room_left : (qs : List Request) → length qs ≤ 16 → book.is_full qs ≡ false → length (filter (λ q. not (over Far q)) qs) < 16
room_left qs h e =
    let few = some_few (λ q. not (over Far q)) qs in
    ⊎_elim
    (λ l. omega (arith, l))
    (λ l.
    ⊎_elim
    (λ a. absurd (eqb-false (length qs) 16 a (omega (arith, l))))
    (λ f. omega (arith, far_few qs (leb-false (reach_of qs) 64 f)))
    (and_cases (eqb (length qs) 16) (leb (reach_of qs) 64) e))
    (cases_lt (length qs) 16)

-- a request that is answered is away
pub reach_answered : (i : ℕ) (b : book.Book) → reach_of (book.answered_at i b).pending ≤ reach_of b.pending
reach_answered i b =
    let j = book.oldest_like i b.pending in
    let n = (get_or b.pending j no_request).nonce in
    omega (arith, reach_removed (set b.pending i (renonced n (get_or b.pending i no_request))) j, reach_renonced b.pending i n)

-- a nonce that stands at a pending request is that request's, and the request is not far
abbrev pub StandsAt : ℕ → List ℕ → book.Book → ℕ → Type 0
StandsAt server nonce b p = (p < length b.pending) × ((get_or b.pending p no_request).since < 64) × (is_for server nonce (get_or b.pending p no_request) ≡ true)

stands_near : (server : ℕ) (nonce : List ℕ) (b : book.Book) (p f : ℕ) (c : Bool) → ltb (get_or b.pending f no_request).since 64 ≡ c → f < length b.pending → is_for server nonce (get_or b.pending f no_request) ≡ true → cond c (Ok f) (Err Late) ≡ Ok p → StandsAt server nonce b p
stands_near server nonce b p f true h l t e =
    let same : f ≡ p = cc in
    (subst (λ x. x < length b.pending) same l, subst (λ x. (get_or b.pending x no_request).since < 64) same (ltb-true _ 64 h), subst (λ x. is_for server nonce (get_or b.pending x no_request) ≡ true) same t)
stands_near server nonce b p f false h l t e = absurd (let z : ◌≡◌ {A = ℕ} 0 1 = cc in omega arith)

stands_none : (c : Bool) (p : ℕ) → ◌≡◌ {A = Result ℕ Unfit} (cond c (Err Late) (Err Unknown)) (Ok p) → ⊥
stands_none true p e = let z : ◌≡◌ {A = ℕ} 0 1 = cc in omega arith
stands_none false p e = let z : ◌≡◌ {A = ℕ} 0 1 = cc in omega arith

stands_first : (server : ℕ) (nonce : List ℕ) (b : book.Book) (p f : ℕ) (c : Bool) → ltb f (length b.pending) ≡ c → (f < length b.pending → is_for server nonce (get_or b.pending f no_request) ≡ true) → cond c (book.pending_at f b.pending) (cond (list_any (is_for server nonce) b.closed) (Err Late) (Err Unknown)) ≡ Ok p → StandsAt server nonce b p
stands_first server nonce b p f true h t e = let l = ltb-true f (length b.pending) h in stands_near server nonce b p f (ltb (get_or b.pending f no_request).since 64) refl l (t l) e
stands_first server nonce b p f false h t e = absurd (stands_none (list_any (is_for server nonce) b.closed) p e)

pub standing_at : (server : ℕ) (nonce : List ℕ) (b : book.Book) (p : ℕ) → book.standing_of server nonce b ≡ Ok p → StandsAt server nonce b p
standing_at server nonce b p e =
    let f = position_or_len (is_for server nonce) b.pending in
    stands_first server nonce b p f (ltb f (length b.pending)) refl (passes_at_first (is_for server nonce) b.pending no_request) e

-- a reply in range
pub in_range_lem : (q : Reading) (s : State) → in_range q s ≡ true → (q.server < s.servers) × (q.midpoint ≤ ceiling) × (q.radius ≤ 2 ^ 31)
in_range_lem q s e = (grind (arith, nat_tests), grind (arith, nat_tests), grind (arith, nat_tests))

-- a walk through moments leaves as many cases
pub length_walked : (d : ℕ) (w : List Moment) (row : List Case) → length (walked d w row) ≡ length row
unfolding walked
length_walked d [] row = refl
length_walked d (m ∷ w) row = length_walked d w (over_row (stepped d m) row) ∙ length-map row (respan (stepped d m))
