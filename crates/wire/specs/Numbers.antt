-- Numbers as bytes, the high byte first: the bytes of a number, and the number that the first bytes of a list are.
use Rattle.std.specs.Prelude.{ℕ, ◌+◌, ◌*◌, ◌/◌, ◌%◌, cond, List, [], ◌∷◌, length, Ok, Err, Result, ◌==◌, slice_index}
use Rattle.wire.specs.declared.refusal.Refusal.{Refusal}
use Rattle.wire.specs.declared.refusal.Refusal.TheVariants.{Malformed}

abbrev pub be2 : ℕ → List ℕ
be2 x = (x / 256 % 256) ∷ (x % 256) ∷ []

abbrev pub be4 : ℕ → List ℕ
be4 x = (x / 16777216 % 256) ∷ (x / 65536 % 256) ∷ (x / 256 % 256) ∷ (x % 256) ∷ []

abbrev pub be8 : ℕ → List ℕ
be8 x =
    (x / 72057594037927936 % 256) ∷ (x / 281474976710656 % 256) ∷ (x / 1099511627776 % 256) ∷ (x / 4294967296 % 256)
    ∷ (x / 16777216 % 256) ∷ (x / 65536 % 256) ∷ (x / 256 % 256) ∷ (x % 256) ∷ []

unfoldable pub number2 : List ℕ → ℕ
number2 bs = slice_index bs 0 * 256 + slice_index bs 1

unfoldable pub number4 : List ℕ → ℕ
number4 bs = slice_index bs 0 * 16777216 + slice_index bs 1 * 65536 + slice_index bs 2 * 256 + slice_index bs 3

unfoldable pub number8 : List ℕ → ℕ
number8 bs =
    slice_index bs 0 * 72057594037927936 + slice_index bs 1 * 281474976710656 + slice_index bs 2 * 1099511627776
    + slice_index bs 3 * 4294967296 + slice_index bs 4 * 16777216 + slice_index bs 5 * 65536 + slice_index bs 6 * 256 + slice_index bs 7

-- the one number that bytes are
abbrev pub sole_number : List ℕ → Result ℕ Refusal
sole_number bs = cond (length bs == 8) (Ok (number8 bs)) (Err Malformed)
