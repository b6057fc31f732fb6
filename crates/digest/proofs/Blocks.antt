-- A message as blocks: the first block and the rest, and the last ones with the padding.
use Rattle.std.proofs.Common.{◌≡◌, ℕ, zero, suc, ◌+◌, ◌-◌, ◌*◌, ◌/◌, ◌%◌, ◌^◌, ◌<◌, ◌≤◌, List, [], ◌∷◌, ◌++◌, length, take, drop, replicate, sym, refl, ap, ◌∙◌, arith}
use native.Mathlib.Nat.{div-add-mod, mul-add-mod_self_left}
use Rattle.std.specs.List.{fold}
use Rattle.std.specs.Simd.{first_chunks}
use Rattle.std.proofs.lemmas.List.{append_assoc, append-nil, drop_at, drop-drop, length-append, length-drop, length-replicate, length-take, length-take-le, replicate-append-replicate, take-append-drop, take_at}
use Rattle.digest.specs.declared.state.State.{State}
use Rattle.digest.specs.Sha256.{absorbed, absorbed_all, be64, compressed, ending, padded, padding, sha256, start, state_bytes, zeros}

-- one block, and then the rest
absorbed_block :
    (s : State) (b x : List ℕ) → length b ≡ 64 → absorbed_all s (b ++ x) ≡ absorbed_all (compressed s b) x
unfolding absorbed_all absorbed
absorbed_block s b x long =
    let many : length (b ++ x) / 64 ≡ suc (length x / 64) = omega (arith, length-append b x) in
    let front : take 64 (b ++ x) ≡ b = take_at b x 64 long in
    let back : drop 64 (b ++ x) ≡ x = drop_at b x 64 long in
    let step :
    absorbed (suc (length x / 64)) s (b ++ x) ≡ absorbed (length x / 64) (compressed s (take 64 (b ++ x))) (drop 64 (b ++ x))
    = refl in
    cc

-- one block, and nothing else
absorbed_one : (s : State) (b : List ℕ) → length b ≡ 64 → absorbed_all s b ≡ compressed s b
unfolding absorbed_all absorbed
absorbed_one s b long = ap (absorbed_all s) (sym (append-nil b)) ∙ absorbed_block s b [] long

-- a block that holds what is left of a message, the byte that ends it, and zeros
abbrev pub mark : List ℕ → List ℕ
mark rest = rest ++ 0x80 ∷ replicate (63 - length rest) 0

mark_long : (rest : List ℕ) → length rest < 64 → length (mark rest) ≡ 64
mark_long rest h = simp (length-append, length-replicate) (omega arith)

closed_long : (b : List ℕ) (x : ℕ) → length b ≡ 64 → length (take 56 b ++ be64 x) ≡ 64
unfolding be64
closed_long b x long = simp (length-append, length-take) (omega arith)

abbrev blank : ℕ → List ℕ
blank n = replicate n 0

blank_add : (m n k : ℕ) → m + n ≡ k → blank k ≡ blank m ++ blank n
blank_add m n k is = ap blank (sym is) ∙ sym (replicate-append-replicate m n 0)

-- what is left, z zeros and eight bytes in one block
fits_one :
    (rest tail : List ℕ) (z : ℕ) → length rest + z ≡ 55
    → rest ++ (0x80 ∷ (blank z ++ tail)) ≡ take 56 (mark rest) ++ tail
fits_one rest tail z is =
    let long : length (rest ++ 0x80 ∷ blank z) ≡ 56 = simp (length-append, length-replicate) (omega arith) in
    let whole : mark rest ≡ (rest ++ 0x80 ∷ blank z) ++ blank 8
    = ap (λ l. rest ++ 0x80 ∷ l) (blank_add z 8 (63 - length rest) (omega arith))
    ∙ sym (append_assoc rest (0x80 ∷ blank z) (blank 8)) in
    sym (append_assoc rest (0x80 ∷ blank z) tail)
    ∙ ap (λ l. l ++ tail) (sym (ap (take 56) whole ∙ take_at (rest ++ 0x80 ∷ blank z) (blank 8) 56 long))

-- the same in two
fits_two :
    (rest tail : List ℕ) (z : ℕ) → length rest + z ≡ 119 → length rest < 64
    → rest ++ (0x80 ∷ (blank z ++ tail)) ≡ mark rest ++ (blank 56 ++ tail)
fits_two rest tail z is h =
    let first = blank (63 - length rest) in
    ap (λ l. rest ++ (0x80 ∷ (l ++ tail))) (blank_add (63 - length rest) 56 z (omega arith))
    ∙ ap (λ l. rest ++ (0x80 ∷ l)) (append_assoc first (blank 56) tail)
    ∙ sym (append_assoc rest (0x80 ∷ first) (blank 56 ++ tail))

padding_is :
    (n : ℕ) → padding n ≡ 0x80 ∷ (blank (zeros n) ++ be64 ((n * 8) % 2 ^ 64))
unfolding padding
padding_is n = let bits : 8 * n ≡ n * 8 = omega arith in ap (λ x. 0x80 ∷ (blank (zeros n) ++ be64 (x % 2 ^ 64))) bits

-- what is left of a message and its padding as one block, or as two
ends_short :
    (rest : List ℕ) (n : ℕ) → length rest ≡ n % 64 → length rest < 56
    → rest ++ padding n ≡ take 56 (mark rest) ++ be64 ((n * 8) % 2 ^ 64)
unfolding zeros
ends_short rest n is h =
    ap (λ l. rest ++ l) (padding_is n) ∙ fits_one rest (be64 ((n * 8) % 2 ^ 64)) (zeros n) (omega arith)

ends_long :
    (rest : List ℕ) (n : ℕ) → length rest ≡ n % 64 → 56 ≤ length rest
    → rest ++ padding n ≡ mark rest ++ (blank 56 ++ be64 ((n * 8) % 2 ^ 64))
unfolding zeros
ends_long rest n is h =
    ap (λ l. rest ++ l) (padding_is n) ∙ fits_two rest (be64 ((n * 8) % 2 ^ 64)) (zeros n) (omega arith) (omega arith)

-- the padding asks of a length only what it is modulo 2 ^ 64
pub padding_mod : (n : ℕ) → padding (n % 2 ^ 64) ≡ padding n
unfolding padding zeros
padding_mod n =
    let parts = div-add-mod n (2 ^ 64) in
    let eight : 2 ^ 64 * (8 * (n / 2 ^ 64)) + 8 * (n % 2 ^ 64) ≡ 8 * n = omega arith in
    let bits : (8 * (n % 2 ^ 64)) % 2 ^ 64 ≡ (8 * n) % 2 ^ 64
    = sym (mul-add-mod_self_left (2 ^ 64) (8 * (n / 2 ^ 64)) (8 * (n % 2 ^ 64))) ∙ ap (λ x. x % 2 ^ 64) eight in
    let whole : 64 * (2 ^ 58 * (n / 2 ^ 64)) + n % 2 ^ 64 ≡ n = omega arith in
    let low : n % 2 ^ 64 % 64 ≡ n % 64
    = sym (mul-add-mod_self_left 64 (2 ^ 58 * (n / 2 ^ 64)) (n % 2 ^ 64)) ∙ ap (λ x. x % 64) whole in
    ap (λ x. 0x80 ∷ (replicate ((119 - x) % 64) 0 ++ be64 ((8 * (n % 2 ^ 64)) % 2 ^ 64))) low
    ∙ ap (λ x. 0x80 ∷ (replicate ((119 - n % 64) % 64) 0 ++ be64 x)) bits

-- the state after the last block, or the last two
pub close_short :
    (s : State) (rest b : List ℕ) (n : ℕ) → length rest ≡ n % 64 → length rest < 56
    → b ≡ take 56 (mark rest) ++ be64 ((n * 8) % 2 ^ 64) → compressed s b ≡ absorbed_all s (rest ++ padding n)
close_short s rest b n is h so =
    let whole = closed_long (mark rest) ((n * 8) % 2 ^ 64) (mark_long rest (omega arith)) in
    ap (compressed s) so
    ∙ sym (absorbed_one s (take 56 (mark rest) ++ be64 ((n * 8) % 2 ^ 64)) whole)
    ∙ ap (absorbed_all s) (sym (ends_short rest n is h))

pub close_long :
    (s : State) (rest a b : List ℕ) (n : ℕ) → length rest ≡ n % 64 → 56 ≤ length rest → a ≡ mark rest
    → b ≡ replicate 56 0 ++ be64 ((n * 8) % 2 ^ 64)
    → compressed (compressed s a) b ≡ absorbed_all s (rest ++ padding n)
close_long s rest a b n is h first second =
    let last = replicate 56 0 ++ be64 ((n * 8) % 2 ^ 64) in
    let whole : length last ≡ 64 = closed_long (replicate 64 0) ((n * 8) % 2 ^ 64) refl in
    ap (λ x. compressed (compressed s x) b) first
    ∙ ap (compressed (compressed s (mark rest))) second
    ∙ sym (absorbed_one (compressed s (mark rest)) last whole)
    ∙ sym (absorbed_block s (mark rest) last (mark_long rest (omega arith)))
    ∙ ap (absorbed_all s) (sym (ends_long rest n is h))

-- the first block, and what is left then
absorbed_first :
    (s : State) (m tail : List ℕ) → 64 ≤ length m
    → absorbed_all s (m ++ tail) ≡ absorbed_all (compressed s (take 64 m)) (drop 64 m ++ tail)
absorbed_first s m tail h =
    ap (λ l. absorbed_all s (l ++ tail)) (sym (take-append-drop 64 m))
    ∙ ap (absorbed_all s) (append_assoc (take 64 m) (drop 64 m) tail)
    ∙ absorbed_block s (take 64 m) (drop 64 m ++ tail) (length-take-le 64 m h)

-- so many blocks, and what is left then
pub absorbed_chunks :
    (n : ℕ) (s : State) (m tail : List ℕ) → n * 64 ≤ length m
    → absorbed_all s (m ++ tail) ≡ absorbed_all (fold compressed s (first_chunks 64 n m)) (drop (n * 64) m ++ tail)
absorbed_chunks zero s m tail h = refl
absorbed_chunks (suc n) s m tail h =
    absorbed_first s m tail (omega arith)
    ∙ absorbed_chunks n (compressed s (take 64 m)) (drop 64 m) tail (omega (arith, length-drop 64 m))
    ∙ ap (λ l. absorbed_all (fold compressed (compressed s (take 64 m)) (first_chunks 64 n (drop 64 m))) (l ++ tail))
    (drop-drop (n * 64) 64 m ∙ ap (λ k. drop k m) (omega arith))

-- a message that begins with a block, from the state after that block
pub ending_block : (b m : List ℕ) → length b ≡ 64 → ending (compressed start b) 64 m ≡ sha256 (b ++ m)
unfolding ending sha256 padded
ending_block b m long =
    let n : 64 + length m ≡ length (b ++ m) = omega (arith, length-append b m) in
    ap state_bytes
    (
    ap (λ k. absorbed_all (compressed start b) (m ++ padding k)) n
    ∙ sym (absorbed_block start b (m ++ padding (length (b ++ m))) long)
    ∙ ap (absorbed_all start) (sym (append_assoc b m (padding (length (b ++ m)))))
    )
