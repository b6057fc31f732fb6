-- The words and numbers of a line of a script, the line being the list of its bytes.
use Rattle.std.specs.Prelude.{◌≡◌, ℕ, zero, suc, ◌+◌, ◌-◌, ◌*◌, ◌^◌, ◌<◌, Bool, cond, not, ◌&&◌, ◌||◌, List, [], ◌∷◌, length, take, drop, Ok, Err, decimal, Result, ◌==◌, nat_le, nat_lt}
use Rattle.std.specs.List.{position_or_len}
use Rattle.script.specs.declared.words.Unread.{Unread}
use Rattle.script.specs.declared.words.Unread.TheVariants.{MissingNumber, NoNumber, TooLarge, TooMuch}

-- words stand apart by spaces and tabs
abbrev pub is_blank : ℕ → Bool
is_blank c = c == 32 || c == 9

-- the line without the blanks at its front
abbrev pub trimmed : List ℕ → List ℕ
trimmed cs = drop (position_or_len (λ c. not (is_blank c)) cs) cs

-- the first word of a line, and what follows it
abbrev pub first_word : List ℕ → List ℕ
first_word cs = take (position_or_len is_blank (trimmed cs)) (trimmed cs)

abbrev pub after_word : List ℕ → List ℕ
after_word cs = drop (position_or_len is_blank (trimmed cs)) (trimmed cs)

-- go on with what was read, or stay with the first fault
abbrev pub and_then : {X Y : Type 0} → Result X Unread → (X → Result Y Unread) → Result Y Unread
and_then (Ok x) f = f x
and_then (Err e) f = Err e

-- one more digit, if the number still fits 64 bits
abbrev pub digit : ℕ → ℕ → Result ℕ Unread
digit v c = cond (nat_le 48 c && nat_le c 57) (cond (nat_lt (v * 10 + (c - 48)) (2 ^ 64)) (Ok (v * 10 + (c - 48))) (Err TooLarge)) (Err NoNumber)

-- the number that the digits write after those so far
unfoldable pub numeral : ℕ → List ℕ → Result ℕ Unread
numeral v [] = Ok v
numeral v (c ∷ cs) = and_then (digit v c) (λ w. numeral w cs)

-- the number that the first word of a line writes, and what follows it
unfoldable pub number : List ℕ → Result (ℕ × List ℕ) Unread
number cs = cond (length (first_word cs) == 0) (Err MissingNumber) (and_then (numeral 0 (first_word cs)) (λ v. Ok (v, after_word cs)))

-- nothing is left on the line
unfoldable pub ended : List ℕ → Result (Unit {0}) Unread
ended cs = cond (length (first_word cs) == 0) (Ok tt) (Err TooMuch)

-- just so many numbers are left on the line
unfoldable pub numbers : ℕ → List ℕ → Result (List ℕ) Unread
numbers zero cs = and_then (ended cs) (λ _. Ok [])
numbers (suc n) cs = and_then (number cs) (λ x. and_then (numbers n x.1) (λ ys. Ok (x.0 ∷ ys)))

-- every number of 64 bits is read as itself
abbrev pub NumbersRead : Type 0
NumbersRead = (n : ℕ) → n < 2 ^ 64 → numeral 0 (decimal n) ≡ Ok n
