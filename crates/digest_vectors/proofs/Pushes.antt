-- The text of bytes, and of one byte more.
use Rattle.std.proofs.Common.{◌≡◌, ℕ, ◌+◌, ◌-◌, ◌*◌, ◌/◌, ◌%◌, ◌<◌, ◌≤◌, List, [], ◌∷◌, ◌++◌, length, get_or, take, drop, sym, refl, ap, ◌∙◌, arith}
use Rattle.std.proofs.lemmas.List.{append_assoc, append-nil, drop_more, nil_from_length, take_rest}
use Rattle.digest_vectors.specs.Hex.{digit, hex_of}

hex_push : (xs : List ℕ) (b : ℕ) → hex_of (xs ++ b ∷ []) ≡ hex_of xs ++ (digit (b / 16) ∷ (digit (b % 16) ∷ []))
unfolding hex_of
hex_push [] b = refl
hex_push (x ∷ xs) b = ap (λ l. digit (x / 16) ∷ (digit (x % 16) ∷ l)) (hex_push xs b)

-- two characters more are read, and a byte more is made
pub hex_more :
    (xs rest text : List ℕ) (x y c d : ℕ) → x < 16 → y < 16 → digit x ≡ c → digit y ≡ d
    → hex_of xs ++ (c ∷ (d ∷ rest)) ≡ text → hex_of (xs ++ (x * 16 + y) ∷ []) ++ rest ≡ text
hex_more xs rest text x y c d hx hy ic id so =
    let high : (x * 16 + y) / 16 ≡ x = omega arith in
    let low : (x * 16 + y) % 16 ≡ y = omega arith in
    let two : digit ((x * 16 + y) / 16) ∷ (digit ((x * 16 + y) % 16) ∷ []) ≡ c ∷ (d ∷ [])
    = ap (λ n. digit n ∷ (digit ((x * 16 + y) % 16) ∷ [])) high
    ∙ ap (λ n. digit x ∷ (digit n ∷ [])) low
    ∙ ap (λ n. n ∷ (digit y ∷ [])) ic
    ∙ ap (λ n. c ∷ (n ∷ [])) id in
    ap (λ l. l ++ rest) (hex_push xs (x * 16 + y) ∙ ap (λ l. hex_of xs ++ l) two)
    ∙ append_assoc (hex_of xs) (c ∷ (d ∷ [])) rest
    ∙ so

-- the same of the slice that is left
pub hex_next :
    (xs left text bs : List ℕ) (x y : ℕ) → 2 ≤ length left → x < 16 → y < 16 → digit x ≡ get_or left 0 0
    → digit y ≡ get_or left 1 0 → bs ≡ xs ++ (x * 16 + y) ∷ [] → hex_of xs ++ left ≡ text
    → hex_of bs ++ take (length left - 2) (drop 2 left) ≡ text
hex_next xs left text bs x y two hx hy ic id is so =
    let split : left ≡ get_or left 0 0 ∷ (get_or left 1 0 ∷ drop 2 left)
    = drop_more left 0 0 (omega arith) ∙ ap (λ l. get_or left 0 0 ∷ l) (drop_more left 1 0 (omega arith)) in
    ap (λ l. hex_of l ++ take (length left - 2) (drop 2 left)) is
    ∙ ap (λ l. hex_of (xs ++ (x * 16 + y) ∷ []) ++ l) (take_rest left 2)
    ∙ hex_more xs (drop 2 left) text x y (get_or left 0 0) (get_or left 1 0) hx hy ic id
    (ap (λ l. hex_of xs ++ l) (sym split) ∙ so)

-- nothing is left
pub hex_all : (xs left text : List ℕ) → length left ≡ 0 → hex_of xs ++ left ≡ text → hex_of xs ≡ text
hex_all xs left text none so =
    sym (append-nil (hex_of xs)) ∙ ap (λ l. hex_of xs ++ l) (sym (nil_from_length left none)) ∙ so
