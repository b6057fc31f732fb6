-- Two lists of bytes differ nowhere exactly where no bit of their xors is set.
use Rattle.std.proofs.Common.{◌≡◌, ℕ, List, [], ◌∷◌, length, refl, ap, ◌∙◌, arith}
use lib.Bits.{bit_or, bit_xor, and_le_l, and_le_r, or_add_and, xor_add_and, xor_self}
use Rattle.std.specs.List.{fold, zip}

-- the bits that are set so far, and those where two bytes differ
abbrev pub marked : ℕ → ℕ × ℕ → ℕ
marked differs p = bit_or differs (bit_xor p.0 p.1)

xor_zero : (a b : ℕ) → bit_xor a b ≡ 0 → a ≡ b
xor_zero a b h = omega (arith, xor_add_and a b, and_le_l a b, and_le_r a b)

or_zero : (a b : ℕ) → bit_or a b ≡ 0 → (a ≡ 0) × (b ≡ 0)
or_zero a b h = omega (arith, or_add_and a b, and_le_l a b, and_le_r a b)

pub none_marked : (xs ys : List ℕ) (d : ℕ) → length xs ≡ length ys → fold marked d (zip xs ys) ≡ 0 → (d ≡ 0) × (xs ≡ ys)
none_marked [] [] d long none = (none, refl)
none_marked [] (y ∷ ys) d long none = absurd (omega arith)
none_marked (x ∷ xs) [] d long none = absurd (omega arith)
none_marked (x ∷ xs) (y ∷ ys) d long none =
    let rest = none_marked xs ys (marked d (x, y)) (omega arith) none in
    let both = or_zero d (bit_xor x y) rest.0 in
    let first : x ≡ y = xor_zero x y both.1 in
    let others : xs ≡ ys = rest.1 in
    (both.0, cc)

pub same_marked : (xs : List ℕ) → fold marked 0 (zip xs xs) ≡ 0
same_marked [] = refl
same_marked (x ∷ xs) = ap (λ d. fold marked (bit_or 0 d) (zip xs xs)) (xor_self x) ∙ same_marked xs
