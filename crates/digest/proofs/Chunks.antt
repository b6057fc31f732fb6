-- The words of a block: four bytes each.
use Rattle.std.proofs.Common.{◌≡◌, ℕ, zero, suc, ◌+◌, ◌*◌, ◌^◌, ◌<◌, List, [], get_or, slice_index, take, drop, ap, ◌∙◌, add-zero, suc-mul, arith}
use Rattle.std.specs.Simd.{first_chunks}
use Rattle.std.proofs.lemmas.List.{drop-drop, get_or-drop, get_or-take}
use Rattle.digest.specs.Sha256.{word_at}

-- a chunk of so many
chunk_at : (n k : ℕ) (xs : List ℕ) (i : ℕ) (d : List ℕ) → i < k → get_or (first_chunks n k xs) i d ≡ take n (drop (i * n) xs)
chunk_at n zero xs i d h = absurd (omega arith)
chunk_at n (suc k) xs zero d h = let start : 0 ≡ 0 * n = omega arith in ap (λ m. take n (drop m xs)) start
chunk_at n (suc k) xs (suc i) d h =
    let start : n + i * n ≡ suc i * n = omega (arith, suc-mul i n) in
    chunk_at n k (drop n xs) i d (omega arith) ∙ ap (take n) (drop-drop (i * n) n xs ∙ ap (λ m. drop m xs) start)

-- a byte of a chunk of four
in_chunk :
    (k : ℕ) (xs : List ℕ) (i j : ℕ) → i < k → j < 4 → get_or (get_or (first_chunks 4 k xs) i []) j 0 ≡ get_or xs (4 * i + j) 0
in_chunk k xs i j h low =
    ap (λ l. get_or l j 0) (chunk_at 4 k xs i [] h)
    ∙ get_or-take 4 (drop (i * 4) xs) j 0 low
    ∙ get_or-drop (i * 4) xs j 0
    ∙ ap (λ n. get_or xs n 0) (omega arith)

-- the number in four bytes is a word of the block
pub word_in :
    (m : List ℕ) (fours : List (List ℕ)) (t r : ℕ) → t < 16 → fours ≡ first_chunks 4 16 m
    → r ≡ slice_index (get_or fours t []) 0 * 2 ^ 24 + slice_index (get_or fours t []) 1 * 2 ^ 16 + slice_index (get_or fours t []) 2 * 2 ^ 8 + slice_index (get_or fours t []) 3
    → r ≡ word_at m t
unfolding word_at
word_in m fours t r h are is =
    let b0 = in_chunk 16 m t 0 h (omega arith) in
    let b1 = in_chunk 16 m t 1 h (omega arith) in
    let b2 = in_chunk 16 m t 2 h (omega arith) in
    let b3 = in_chunk 16 m t 3 h (omega arith) in
    is ∙ simp (are, b0, b1, b2, b3, add-zero)
