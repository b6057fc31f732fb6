-- Bytes xored one after the other.
use Rattle.std.proofs.Common.{◌≡◌, ℕ, ◌+◌, ◌<◌, List, ◌++◌, length, get_or, take, drop, set, ap, ◌∙◌, arith}
use lib.Bits.{bit_xor}
use Rattle.std.proofs.lemmas.List.Edits.{map_over_more}
use Rattle.std.proofs.lemmas.List.{get_or_default, length-append, length-drop, length-map, length-take}
use Rattle.digest.specs.Hmac.{xored}

pub xored_long : (mask : ℕ) (xs : List ℕ) → length (xored mask xs) ≡ length xs
unfolding xored
xored_long mask xs = length-map xs (λ b. bit_xor b mask)

pub xored_more :
    (mask : ℕ) (xs ys : List ℕ) (i : ℕ) → length xs ≡ 64 → i < 64 → ys ≡ xored mask (take i xs) ++ drop i xs
    → set ys i (bit_xor (get_or ys i 0) mask) ≡ xored mask (take (i + 1) xs) ++ drop (i + 1) xs
unfolding xored
xored_more mask xs ys i long h is =
    let same : length ys ≡ 64 = ap length is ∙ simp (length-append, length-map, length-take, length-drop) (omega arith) in
    map_over_more (λ b. bit_xor b mask) xs ys i (get_or ys i 0) (omega arith) is (get_or_default ys i 0 (get_or ys i 0) (omega arith))
