-- Digits, pairs of digits and lines: the steps of the loops over them.
use Rattle.std.proofs.Common.{◌≡◌, ℕ, zero, suc, ◌+◌, ◌-◌, ◌*◌, ◌/◌, ◌%◌, ◌<◌, ◌≤◌, Bool, true, false, cond, not, ◌&&◌, eqb, ltb, Option, Some, None, unwrap_or, List, [], ◌∷◌, ◌++◌, length, get_or, take, drop, set, sym, refl, ap, ◌∙◌, add-zero, arith}
use Rattle.std.proofs.lemmas.List.{append_assoc, drop_all, get_or-drop, get_or-take, drop-drop, drop_more, nil_from_length, flat_map_more, length-append, length-take-le, set_at, take_at, take_more, take_rest}
use Rattle.std.proofs.lemmas.List.Sums.{prefix_len-le-length}
use Rattle.std.proofs.lemmas.Bool.{eqb-true}
use Rattle.std.proofs.lemmas.Bool.Decides.{nat_tests}
use Rattle.std.specs.Simd.{first_chunks}
use Rattle.hextext.specs.Hex.{after_line, all_digits, begun, byte_text, char_of, digit_of, first_line, hex_of, line_length, lines_of, pairs}

-- a table of digits from a number up to 255
abbrev pub tabled : ℕ → List ℕ → Bool
tabled n [] = eqb n 256
tabled n (x ∷ xs) = eqb x (digit_of n) && tabled (n + 1) xs

both_true : (a b : Bool) → a && b ≡ true → (a ≡ true) × (b ≡ true)
both_true true b h = (refl, h)
both_true false b h = grind arith

tabled_at : (n : ℕ) (xs : List ℕ) (k : ℕ) → tabled n xs ≡ true → n + k < 256 → get_or xs k 0 ≡ digit_of (n + k)
tabled_at n [] k h l = let e = eqb-true n 256 h in absurd (omega arith)
tabled_at n (x ∷ xs) zero h l = let e : n ≡ n + 0 = omega arith in eqb-true x (digit_of n) (both_true _ _ h).0 ∙ ap digit_of e
tabled_at n (x ∷ xs) (suc k) h l = tabled_at (n + 1) xs k (both_true _ _ h).1 (omega arith) ∙ ap digit_of (let e : n + 1 + k ≡ n + suc k = omega arith in e)

pub digit_read : (xs : List ℕ) (c : ℕ) → tabled 0 xs ≡ true → c < 256 → get_or xs c 0 ≡ digit_of c
digit_read xs c h l = let e : 0 + c ≡ c = omega arith in tabled_at 0 xs c h (omega arith) ∙ ap digit_of e

-- every character is a digit
digit_below : (text : List ℕ) (i : ℕ) → all_digits text ≡ true → i < length text → digit_of (get_or text i 0) < 16
digit_below [] i h l = absurd (omega arith)
digit_below (c ∷ cs) zero h l = let p = (both_true _ _ h).0 in let q : ltb (digit_of c) 16 ≡ true = p in below (digit_of c) q where
  below : (d : ℕ) → ltb d 16 ≡ true → d < 16
  below d e = grind (arith, nat_tests)
digit_below (c ∷ cs) (suc i) h l = digit_below cs i (both_true _ _ h).1 (omega arith)

-- both digits of a pair
pair_below : (text : List ℕ) (i : ℕ) → all_digits text ≡ true → i < length text / 2
    → (digit_of (get_or text (2 * i) 0) < 16) × (digit_of (get_or text (2 * i + 1) 0) < 16)
pair_below text i h l = (digit_below text (2 * i) h (omega arith), digit_below text (2 * i + 1) h (omega arith))

-- pairs of digits
pub length_pairs : (text : List ℕ) → length (pairs text) ≡ length text / 2
unfolding pairs
length_pairs [] = refl
length_pairs (x ∷ []) = refl
length_pairs (x ∷ (y ∷ cs)) = let e = length_pairs cs in omega arith

pair_at : (text : List ℕ) (i : ℕ) → 2 * i + 1 < length text → get_or (pairs text) i 0 ≡ 16 * digit_of (get_or text (2 * i) 0) + digit_of (get_or text (2 * i + 1) 0)
unfolding pairs
pair_at [] i h = absurd (omega arith)
pair_at (x ∷ []) i h = absurd (omega arith)
pair_at (x ∷ (y ∷ cs)) zero h = refl
pair_at (x ∷ (y ∷ cs)) (suc i) h =
    let even : 2 * suc i ≡ suc (suc (2 * i)) = omega arith in
    let odd : 2 * suc i + 1 ≡ suc (suc (2 * i + 1)) = omega arith in
    pair_at cs i (omega arith)
    ∙ ap (λ n. 16 * digit_of (get_or (x ∷ (y ∷ cs)) n 0) + digit_of (get_or cs (2 * i + 1) 0)) (sym even)
    ∙ ap (λ n. 16 * digit_of (get_or (x ∷ (y ∷ cs)) (2 * suc i) 0) + digit_of (get_or (x ∷ (y ∷ cs)) n 0)) (sym odd)

-- the characters of a pair
pair_chunk : (k : ℕ) (text : List ℕ) (i : ℕ) → i < k → get_or (first_chunks 2 k text) i [] ≡ take 2 (drop (2 * i) text)
pair_chunk zero text i h = absurd (omega arith)
pair_chunk (suc k) text zero h = refl
pair_chunk (suc k) text (suc i) h =
    let start : 2 + 2 * i ≡ 2 * suc i = omega arith in
    pair_chunk k (drop 2 text) i (omega arith) ∙ ap (take 2) (drop-drop (2 * i) 2 text ∙ ap (λ n. drop n text) start)

in_pair : (chunks : List (List ℕ)) (text : List ℕ) (i : ℕ) → chunks ≡ first_chunks 2 (length text / 2) text → i < length text / 2
    → (get_or (get_or chunks i []) 0 0 ≡ get_or text (2 * i) 0) × (get_or (get_or chunks i []) 1 0 ≡ get_or text (2 * i + 1) 0)
in_pair chunks text i are h =
    let here : get_or chunks i [] ≡ take 2 (drop (2 * i) text) = ap (λ l. get_or l i []) are ∙ pair_chunk (length text / 2) text i h in (
      ap (λ l. get_or l 0 0) here ∙ get_or-take 2 (drop (2 * i) text) 0 0 (omega arith) ∙ get_or-drop (2 * i) text 0 0 ∙ ap (λ n. get_or text n 0) (add-zero (2 * i)),
      ap (λ l. get_or l 1 0) here ∙ get_or-take 2 (drop (2 * i) text) 1 0 (omega arith) ∙ get_or-drop (2 * i) text 1 0,
    )

-- both digits of a pair are small, in whichever order they are taken
pub chunk_below : (chunks : List (List ℕ)) (text : List ℕ) (i : ℕ) → all_digits text ≡ true
    → chunks ≡ first_chunks 2 (length text / 2) text → i < length text / 2
    → (digit_of (get_or (get_or chunks i []) 0 0) < 16) × (digit_of (get_or (get_or chunks i []) 1 0) < 16)
chunk_below chunks text i digits are h =
    let at = in_pair chunks text i are h in
    let below = pair_below text i digits h in
    let first : digit_of (get_or (get_or chunks i []) 0 0) ≡ digit_of (get_or text (2 * i) 0) = ap digit_of at.0 in
    let second : digit_of (get_or (get_or chunks i []) 1 0) ≡ digit_of (get_or text (2 * i + 1) 0) = ap digit_of at.1 in
    (omega arith, omega arith)

-- the digits that were read of a pair make its byte
pub pair_read : (chunks : List (List ℕ)) (text : List ℕ) (i high low : ℕ)
    → chunks ≡ first_chunks 2 (length text / 2) text → i < length text / 2
    → high ≡ digit_of (get_or (get_or chunks i []) 0 0) → low ≡ digit_of (get_or (get_or chunks i []) 1 0)
    → 16 * high + low ≡ get_or (pairs text) i 0
pair_read chunks text i high low are h high_is low_is =
    let at = in_pair chunks text i are h in
    let first : high ≡ digit_of (get_or text (2 * i) 0) = high_is ∙ ap digit_of at.0 in
    let second : low ≡ digit_of (get_or text (2 * i + 1) 0) = low_is ∙ ap digit_of at.1 in
    ap (λ d. 16 * d + low) first ∙ ap (λ d. 16 * digit_of (get_or text (2 * i) 0) + d) second ∙ sym (pair_at text i (omega arith))

-- one element more is written
pub one_more : (ps xs ys : List ℕ) (i v : ℕ) → i < length ps → i < length xs → ys ≡ take i ps ++ drop i xs → v ≡ get_or ps i 0 → set ys i v ≡ take (i + 1) ps ++ drop (i + 1) xs
one_more ps xs ys i v h l so_far is =
    let long = length-take-le i ps (omega arith) in
    ap (λ z. set z i v) (so_far ∙ ap (λ r. take i ps ++ r) (drop_more xs i 0 l))
    ∙ set_at (take i ps) (get_or xs i 0) (drop (i + 1) xs) v i long
    ∙ ap (λ z. take i ps ++ z ∷ drop (i + 1) xs) is
    ∙ sym (append_assoc (take i ps) (get_or ps i 0 ∷ []) (drop (i + 1) xs))
    ∙ ap (λ z. z ++ drop (i + 1) xs) (sym (take_more ps i 0 h))

-- the digits of one byte more are written
length_hex : (bs : List ℕ) → length (hex_of bs) ≡ 2 * length bs
length_hex [] = refl
length_hex (b ∷ bs) = let e = length_hex bs in omega arith

two_more : (fs xs : List ℕ) (k v w : ℕ) → length fs ≡ k → k + 1 < length xs → set (set (fs ++ drop k xs) k v) (k + 1) w ≡ (fs ++ (v ∷ w ∷ [])) ++ drop (k + 2) xs
two_more fs xs k v w long h =
    ap (λ r. set (set (fs ++ r) k v) (k + 1) w) (drop_more xs k 0 (omega arith))
    ∙ ap (λ r. set r (k + 1) w) (set_at fs (get_or xs k 0) (drop (k + 1) xs) v k long)
    ∙ ap (λ r. set (fs ++ v ∷ r) (k + 1) w) (drop_more xs (k + 1) 0 h)
    ∙ ap (λ r. set r (k + 1) w) (sym (append_assoc fs (v ∷ []) (get_or xs (k + 1) 0 ∷ drop (k + 1 + 1) xs)))
    ∙ set_at (fs ++ v ∷ []) (get_or xs (k + 1) 0) (drop (k + 1 + 1) xs) w (k + 1) (length-append fs (v ∷ []) ∙ ap (λ n. n + 1) long)
    ∙ append_assoc fs (v ∷ []) (w ∷ drop (k + 1 + 1) xs)
    ∙ ap (λ n. fs ++ (v ∷ w ∷ drop n xs)) (omega arith)
    ∙ sym (append_assoc fs (v ∷ w ∷ []) (drop (k + 2) xs))

pub digits_written : (bs xs ys : List ℕ) (i v w : ℕ) → i < length bs → 2 * length bs ≤ length xs → ys ≡ hex_of (take i bs) ++ drop (2 * i) xs
    → v ≡ char_of (get_or bs i 0 / 16) → w ≡ char_of (get_or bs i 0 % 16) → set (set ys (2 * i) v) (2 * i + 1) w ≡ hex_of (take (i + 1) bs) ++ drop (2 * (i + 1)) xs
digits_written bs xs ys i v w h fits so_far high low =
    let long : length (hex_of (take i bs)) ≡ 2 * i = length_hex (take i bs) ∙ ap (λ n. 2 * n) (length-take-le i bs (omega arith)) in
    let more : hex_of (take i bs) ++ byte_text (get_or bs i 0) ≡ hex_of (take (i + 1) bs) = flat_map_more byte_text [] (take i bs) (get_or bs i 0) ∙ ap hex_of (sym (take_more bs i 0 h)) in
    ap (λ z. set (set z (2 * i) v) (2 * i + 1) w) so_far
    ∙ two_more (hex_of (take i bs)) xs (2 * i) v w long (omega arith)
    ∙ ap (λ z. (hex_of (take i bs) ++ (z ∷ w ∷ [])) ++ drop (2 * i + 2) xs) high
    ∙ ap (λ z. (hex_of (take i bs) ++ (char_of (get_or bs i 0 / 16) ∷ z ∷ [])) ++ drop (2 * i + 2) xs) low
    ∙ ap (λ z. z ++ drop (2 * i + 2) xs) more
    ∙ ap (λ n. hex_of (take (i + 1) bs) ++ drop n xs) (omega arith)

-- the length of the first line
pub first_end : (text : List ℕ) (place : Option ℕ) → place ≡ cond (ltb (line_length text) (length text)) (Some (line_length text)) None
    → unwrap_or place (length text) ≡ line_length text
first_end text place is = ap (λ o. unwrap_or o (length text)) is ∙ at (line_length text) (prefix_len-le-length (λ c. not (eqb c 10)) text) where
  at : (n : ℕ) → n ≤ length text → unwrap_or (cond (ltb n (length text)) (Some n) None) (length text) ≡ n
  at n within = grind (arith, nat_tests)

-- the lines of a text are the first line and those after it
lines_first : (c : ℕ) (cs : List ℕ) → lines_of (c ∷ cs) ≡ first_line (c ∷ cs) ∷ lines_of (after_line (c ∷ cs))
unfolding lines_of
lines_first c [] = go (eqb c 10) where
  go : (b : Bool) → cond b ([] ∷ lines_of []) (begun c (lines_of [])) ≡ take (cond (not b) (1 + line_length []) 0) (c ∷ []) ∷ lines_of (drop (cond (not b) (1 + line_length []) 0 + 1) (c ∷ []))
  go true = refl
  go false = refl
lines_first c (d ∷ ds) = go (eqb c 10) (lines_first d ds) where
  go : (b : Bool) → lines_of (d ∷ ds) ≡ first_line (d ∷ ds) ∷ lines_of (after_line (d ∷ ds))
      → cond b ([] ∷ lines_of (d ∷ ds)) (begun c (lines_of (d ∷ ds)))
      ≡ take (cond (not b) (1 + line_length (d ∷ ds)) 0) (c ∷ (d ∷ ds)) ∷ lines_of (drop (cond (not b) (1 + line_length (d ∷ ds)) 0 + 1) (c ∷ (d ∷ ds)))
  go true ih = refl
  go false ih =
      let n = line_length (d ∷ ds) in
      let one : suc n ≡ 1 + n = omega arith in
      let two : suc (n + 1) ≡ 1 + n + 1 = omega arith in
      ap (begun c) ih
      ∙ ap (λ k. take k (c ∷ (d ∷ ds)) ∷ lines_of (drop (suc (n + 1)) (c ∷ (d ∷ ds)))) one
      ∙ ap (λ k. take (1 + n) (c ∷ (d ∷ ds)) ∷ lines_of (drop k (c ∷ (d ∷ ds)))) two

pub next_is : (text line rest : List ℕ) → 0 < length text → line ≡ first_line text → rest ≡ after_line text
    → (line ≡ first_line text) × (rest ≡ after_line text) × (lines_of text ≡ line ∷ lines_of rest)
next_is [] line rest h l r = absurd (omega arith)
next_is (c ∷ cs) line rest h l r = (l, r, lines_first c cs ∙ ap (λ z. z ∷ lines_of (after_line (c ∷ cs))) (sym l) ∙ ap (λ z. line ∷ lines_of z) (sym r))

-- what follows the line, where it is the last and has no end, and where it has one
pub after_none : (text rest : List ℕ) → rest ≡ drop (line_length text) text → length rest ≡ 0 → length rest + line_length text ≡ length text → rest ≡ after_line text
after_none text rest is none all = nil_from_length rest none ∙ sym (drop_all (line_length text + 1) text (omega arith))

pub after_end : (text rest : List ℕ) → rest ≡ drop (line_length text) text → take (length rest - 1) (drop 1 rest) ≡ after_line text
after_end text rest is = take_rest rest 1 ∙ ap (drop 1) is ∙ drop-drop 1 (line_length text) text

-- the front of the memory that a line was read to
pub read_front : (text xs ys : List ℕ) (n : ℕ) → n ≡ length text / 2 → ys ≡ pairs text ++ drop n xs → take (n - 0) (drop 0 ys) ≡ pairs text
read_front text xs ys n h is =
    let all : n - 0 ≡ n = omega arith in
    ap (λ k. take k ys) all ∙ ap (take n) is ∙ take_at (pairs text) (drop n xs) n (length_pairs text ∙ sym h)
