-- Reading a line word by word: what one step of a loop and one number more give.
use Rattle.std.proofs.Common.{◌≡◌, ℕ, ◌+◌, ◌*◌, ◌/◌, ◌%◌, ◌^◌, ◌<◌, ◌≤◌, Bool, true, false, cond, not, ltb, List, [], ◌∷◌, ◌++◌, length, get_or, drop, position, unwrap_or, Some, None, Ok, Err, Result, sym, refl, ap, ◌∙◌, add-one, append_assoc, append-nil, arith}
use Rattle.std.proofs.lemmas.Bool.Decides.{nat_tests}
use Rattle.std.specs.List.{position_or_len}
use Rattle.std.proofs.lemmas.Bool.{ltb-false}
use Rattle.std.proofs.lemmas.List.{at_drop_more, at_drop_all}
use Rattle.std.proofs.lemmas.List.Sums.{prefix_len-le-length}
use Rattle.std.proofs.lemmas.Fmt.{decimal_by_steps}
use Rattle.script.specs.declared.words.Unread.{Unread}
use Rattle.script.specs.Words.{and_then, digit, ended, numeral, number, numbers, NumbersRead}

pub then_err : {X Y : Type 0} (r : Result X Unread) (f : X → Result Y Unread) (e : Unread) → r ≡ Err e → and_then r f ≡ Err e
then_err r f e h = ap (λ x. and_then x f) h

pub then_ok : {X Y : Type 0} (r : Result X Unread) (f : X → Result Y Unread) (x : X) → r ≡ Ok x → and_then r f ≡ f x
then_ok r f x h = ap (λ y. and_then y f) h

-- the place of the first that passes a test, or the end
pub or_end : {X : Type 0} (p : X → Bool) (xs : List X) → unwrap_or (position p xs) (length xs) ≡ position_or_len p xs
or_end p xs = go (ltb (position_or_len p xs) (length xs)) refl where
  go : (b : Bool) → ltb (position_or_len p xs) (length xs) ≡ b → unwrap_or (cond b (Some (position_or_len p xs)) None) (length xs) ≡ position_or_len p xs
  go true e = refl
  go false e = omega (arith, ltb-false (position_or_len p xs) (length xs) e, prefix_len-le-length (λ x. not (p x)) xs)

pub numeral_err : (v : ℕ) (cs : List ℕ) (n : ℕ) (e : Unread) → n < length cs → digit v (get_or cs n 0) ≡ Err e → numeral v (drop n cs) ≡ Err e
unfolding numeral
numeral_err v cs n e h p = at_drop_more (numeral v) cs n 0 h ∙ then_err (digit v (get_or cs n 0)) (λ w. numeral w (drop (n + 1) cs)) e p

pub numeral_ok : (v : ℕ) (cs : List ℕ) (n w : ℕ) → n < length cs → digit v (get_or cs n 0) ≡ Ok w → numeral v (drop n cs) ≡ numeral w (drop (n + 1) cs)
unfolding numeral
numeral_ok v cs n w h p = at_drop_more (numeral v) cs n 0 h ∙ then_ok (digit v (get_or cs n 0)) (λ w. numeral w (drop (n + 1) cs)) w p

pub numeral_ends : (v : ℕ) (cs : List ℕ) (n : ℕ) → length cs ≤ n → numeral v (drop n cs) ≡ Ok v
unfolding numeral
numeral_ends v cs n h = at_drop_all (numeral v) cs n h

-- the numbers so far, and those that are read after them
abbrev pub onto : List ℕ → Result (List ℕ) Unread → Result (List ℕ) Unread
onto xs r = and_then r (λ ys. Ok (xs ++ ys))

onto_one : (xs : List ℕ) (x : ℕ) (r : Result (List ℕ) Unread) → onto xs (and_then r (λ ys. Ok (x ∷ ys))) ≡ onto (xs ++ x ∷ []) r
onto_one xs x (Ok ys) = ap (λ l. Ok l) (sym (append_assoc xs (x ∷ []) ys))
onto_one xs x (Err e) = refl

pub one_more : (n m : ℕ) (xs rest after : List ℕ) (x : ℕ) → n ≡ m + 1 → number rest ≡ Ok (x, after) → onto xs (numbers n rest) ≡ onto (xs ++ x ∷ []) (numbers m after)
unfolding numbers
one_more n m xs rest after x e h =
    ap (λ k. onto xs (numbers k rest)) (e ∙ add-one m)
    ∙ ap (onto xs) (then_ok (number rest) (λ y. and_then (numbers m y.1) (λ ys. Ok (y.0 ∷ ys))) (x, after) h)
    ∙ onto_one xs x (numbers m after)

pub none_more : (n m : ℕ) (xs rest : List ℕ) (e : Unread) → n ≡ m + 1 → number rest ≡ Err e → onto xs (numbers n rest) ≡ Err e
unfolding numbers
none_more n m xs rest e q h =
    ap (λ k. onto xs (numbers k rest)) (q ∙ add-one m)
    ∙ ap (onto xs) (then_err (number rest) (λ y. and_then (numbers m y.1) (λ ys. Ok (y.0 ∷ ys))) e h)

pub last_read : (n : ℕ) (xs rest : List ℕ) → n ≡ 0 → ended rest ≡ Ok tt → onto xs (numbers n rest) ≡ Ok xs
unfolding numbers
last_read n xs rest e h =
    ap (λ k. onto xs (numbers k rest)) e ∙ ap (onto xs) (then_ok (ended rest) (λ _. Ok []) tt h) ∙ ap (λ l. Ok l) (append-nil xs)

pub too_much : (n : ℕ) (xs rest : List ℕ) (e : Unread) → n ≡ 0 → ended rest ≡ Err e → onto xs (numbers n rest) ≡ Err e
unfolding numbers
too_much n xs rest e q h = ap (λ k. onto xs (numbers k rest)) q ∙ ap (onto xs) (then_err (ended rest) (λ _. Ok []) e h)

-- Every number is read as itself, as it is written in decimal digits.
numeral_push : (v : ℕ) (cs : List ℕ) (c : ℕ) → numeral v (cs ++ c ∷ []) ≡ and_then (numeral v cs) (λ w. digit w c)
unfolding numeral
numeral_push v [] c = last (digit v c) where
  last : (r : Result ℕ Unread) → and_then r (λ w. Ok w) ≡ r
  last (Ok x) = refl
  last (Err e) = refl
numeral_push v (x ∷ cs) c = go (λ w. numeral_push w cs c) (digit v x) where
  go : ((w : ℕ) → numeral w (cs ++ c ∷ []) ≡ and_then (numeral w cs) (λ w. digit w c)) → (r : Result ℕ Unread) → and_then r (λ w. numeral w (cs ++ c ∷ [])) ≡ and_then (and_then r (λ w. numeral w cs)) (λ w. digit w c)
  go h (Ok w) = h w
  go h (Err e) = refl

digit_is : (v d : ℕ) → d < 10 → v * 10 + d < 2 ^ 64 → digit v (48 + d) ≡ Ok (v * 10 + d)
digit_is v d h k = grind (arith, nat_tests)

abbrev ReadAs : ℕ → List ℕ → Type 0
ReadAs n ds = n < 2 ^ 64 → numeral 0 ds ≡ Ok n

pub numbers_read : NumbersRead
unfolding numeral
numbers_read n h = decimal_by_steps ReadAs one more n h h where
  one : (n : ℕ) → n < 10 → ReadAs n ((48 + n) ∷ [])
  one n small fits = then_ok (digit 0 (48 + n)) (λ w. Ok w) n (digit_is 0 n small (omega arith) ∙ ap (λ x. Ok x) (omega arith))

  more : (n : ℕ) (ds : List ℕ) → 10 ≤ n → ReadAs (n / 10) ds → ReadAs n (ds ++ ((48 + n % 10) ∷ []))
  more n ds large back fits =
      numeral_push 0 ds (48 + n % 10)
      ∙ then_ok (numeral 0 ds) (λ w. digit w (48 + n % 10)) (n / 10) (back (omega arith))
      ∙ digit_is (n / 10) (n % 10) (omega arith) (omega arith)
      ∙ ap (λ x. Ok x) (omega arith)
