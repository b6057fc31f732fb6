-- Bytes as text: two hexadecimal digits for each byte, the high one first. A line is read in either case and written
-- in lower case; a text is lines, each of which ends with the character 10.
use Rattle.std.specs.Prelude.{ℕ, ◌+◌, ◌-◌, ◌*◌, ◌/◌, ◌%◌, Bool, cond, ◌&&◌, List, [], ◌∷◌, ◌++◌, length, take, drop, Ok, Err, Result, ◌==◌, nat_le, nat_lt}
use Rattle.std.specs.List.{flat_map, list_all, position_or_len}
use Rattle.wire.specs.declared.refusal.Refusal.{Refusal}
use Rattle.wire.specs.declared.refusal.Refusal.TheVariants.{Malformed}

-- the digit that a character is: 0 to 9, a to f or A to F; 16 where it is none
unfoldable pub digit_of : ℕ → ℕ
digit_of c =
    cond (nat_le 48 c && nat_le c 57) (c - 48)
    (cond (nat_le 97 c && nat_le c 102) (c - 87)
    (cond (nat_le 65 c && nat_le c 70) (c - 55) 16))

-- the character of a digit
abbrev pub char_of : ℕ → ℕ
char_of d = cond (nat_lt d 10) (48 + d) (87 + d)

abbrev pub all_digits : List ℕ → Bool
all_digits text = list_all (λ c. nat_lt (digit_of c) 16) text

-- the bytes that pairs of digits are
unfoldable pub pairs : List ℕ → List ℕ
pairs [] = []
pairs (x ∷ []) = []
pairs (x ∷ (y ∷ cs)) = (16 * digit_of x + digit_of y) ∷ pairs cs

-- at least one pair of digits, nothing else, and not too many for so much room
abbrev pub readable : ℕ → List ℕ → Bool
readable room text = nat_le 1 (length text) && length text % 2 == 0 && nat_le (length text / 2) room && all_digits text

-- every text is one list of bytes or has one fault
abbrev pub line_of : ℕ → List ℕ → Result (List ℕ) Refusal
line_of room text = cond (readable room text) (Ok (pairs text)) (Err Malformed)

-- the digits of bytes, and a line of them with its end
abbrev pub byte_text : ℕ → List ℕ
byte_text b = char_of (b / 16) ∷ char_of (b % 16) ∷ []

abbrev pub hex_of : List ℕ → List ℕ
hex_of bs = flat_map byte_text bs

abbrev pub text_of : List ℕ → List ℕ
text_of bs = hex_of bs ++ 10 ∷ []

-- the first line of a text, and what follows it
abbrev pub line_length : List ℕ → ℕ
line_length text = position_or_len (λ c. c == 10) text

abbrev pub first_line : List ℕ → List ℕ
first_line text = take (line_length text) text

abbrev pub after_line : List ℕ → List ℕ
after_line text = drop (line_length text + 1) text

-- all lines of a text: a character before an end begins the first line
abbrev pub begun : ℕ → List (List ℕ) → List (List ℕ)
begun c [] = (c ∷ []) ∷ []
begun c (l ∷ ls) = (c ∷ l) ∷ ls

unfoldable pub lines_of : List ℕ → List (List ℕ)
lines_of [] = []
lines_of (c ∷ cs) = cond (c == 10) ([] ∷ lines_of cs) (begun c (lines_of cs))
