-- Closing the first that is over, and again, closes all that are over.
use Rattle.std.proofs.Common.{◌≡◌, ℕ, zero, suc, ◌<◌, ◌≤◌, Bool, ltb, true, false, cond, not, List, [], ◌∷◌, ◌++◌, All, map, length, get_or, Some, None, filter, position, sym, refl, ap, ◌∙◌, ap₂, append_assoc, append-nil, arith}
use Rattle.std.specs.List.{position_or_len, remove}
use Rattle.std.proofs.lemmas.Bool.{ltb-false}
use Rattle.std.proofs.lemmas.Option.{none-some}
use Rattle.std.proofs.lemmas.List.Elements.{All-head, All-tail}
use Rattle.std.proofs.lemmas.List.Sums.{fails_before_first}
use Rattle.std.proofs.lemmas.List.Quantifiers.{position-Some}
use Rattle.requests.specs.declared.request.Over.{Over}
use Rattle.requests.specs.Request.{over, closed_now, no_request}
use Rattle.requests.specs.Book.{Book, closed_at, closed_by}

module _ {X : Type 0} (p : X → Bool) (d : X) where
  -- without one that passes, the others are the same
  others : (xs : List X) (i : ℕ) → i < length xs → p (get_or xs i d) ≡ true → filter (λ x. not (p x)) (remove xs i) ≡ filter (λ x. not (p x)) xs
  others [] i h e = absurd (omega arith)
  others (x ∷ xs) zero h e = sym (ap (λ b. cond (not b) (x ∷ filter (λ y. not (p y)) xs) (filter (λ y. not (p y)) xs)) e)
  others (x ∷ xs) (suc i) h e = ap (λ l. cond (not (p x)) (x ∷ l) l) (others xs i (omega arith) e)

  -- the first that passes, and those that pass without it
  those : (xs : List X) (i : ℕ) → i < length xs → p (get_or xs i d) ≡ true → ((k : ℕ) → k < i → p (get_or xs k d) ≡ false) → filter p xs ≡ get_or xs i d ∷ filter p (remove xs i)
  those [] i h e before = absurd (omega arith)
  those (x ∷ xs) zero h e before = ap (λ b. cond b (x ∷ filter p xs) (filter p xs)) e
  those (x ∷ xs) (suc i) h e before =
      let fails : p x ≡ false = before 0 (omega arith) in
      ap (λ b. cond b (x ∷ filter p xs) (filter p xs)) fails
      ∙ those xs i (omega arith) e (λ k l. before (suc k) (omega arith))
      ∙ ap (λ l. get_or xs i d ∷ l) (sym (ap (λ b. cond b (x ∷ filter p (remove xs i)) (filter p (remove xs i))) fails))

-- where none passes, all are the others
none_kept : {X : Type 0} (p : X → Bool) (xs : List X) → All (λ x. p x ≡ false) xs → (filter p xs ≡ []) × (filter (λ x. not (p x)) xs ≡ xs)
none_kept p [] h = (refl, refl)
none_kept p (x ∷ xs) h =
    let fails = All-head (λ y. p y ≡ false) x xs h in
    let rest = none_kept p xs (All-tail (λ y. p y ≡ false) x xs h) in (
      ap (λ b. cond b (x ∷ filter p xs) (filter p xs)) fails ∙ rest.0,
      ap (λ b. cond (not b) (x ∷ filter (λ y. not (p y)) xs) (filter (λ y. not (p y)) xs)) fails ∙ ap (λ l. x ∷ l) rest.1,
    )

no_place : {X : Type 0} (p : X → Bool) (xs : List X) → position p xs ≡ None → length xs ≤ position_or_len p xs
no_place p xs e = go (ltb (position_or_len p xs) (length xs)) refl e where
  go : (b : Bool) → ltb (position_or_len p xs) (length xs) ≡ b → cond b (Some (position_or_len p xs)) None ≡ None → length xs ≤ position_or_len p xs
  go true f e = absurd (none-some (position_or_len p xs) (sym e))
  go false f e = ltb-false (position_or_len p xs) (length xs) f

pub close_step : (why : Over) (b : Book) (i : ℕ) → position (over why) b.pending ≡ Some i → closed_by why (closed_at i b) ≡ closed_by why b
close_step why b i e =
    let first = position-Some (over why) b.pending i no_request e in
    ap₂ (λ ps cs. record { pending = ps; closed = cs })
    (others (over why) no_request b.pending i first.0 first.1)
    (append_assoc b.closed (closed_now (get_or b.pending i no_request) ∷ []) (map closed_now (filter (over why) (remove b.pending i)))
    ∙ ap (λ l. b.closed ++ map closed_now l) (sym (those (over why) no_request b.pending i first.0 first.1 first.2)))

pub close_end : (why : Over) (b : Book) → position (over why) b.pending ≡ None → closed_by why b ≡ b
close_end why b e =
    let past = no_place (over why) b.pending e in
    let none = none_kept (over why) b.pending (λ k d l. fails_before_first (over why) b.pending k d (omega arith)) in
    ap₂ (λ ps cs. record { pending = ps; closed = b.closed ++ map closed_now cs }) none.1 none.0 ∙ ap (λ cs. record { pending = b.pending; closed = cs }) (append-nil b.closed)
