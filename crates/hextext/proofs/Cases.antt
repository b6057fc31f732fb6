-- Lines of text are read back, in either case, and cut at their ends.
use Rattle.std.proofs.Common.{◌≡◌, ℕ, ◌+◌, ◌*◌, ◌/◌, ◌%◌, ◌<◌, Bool, true, false, cond, ◌&&◌, eqb, leb, ltb, List, [], ◌∷◌, ◌++◌, map, length, Ok, Err, sym, refl, ap, ◌∙◌, subst, arith}
use Rattle.std.proofs.lemmas.Bool.Decides.{nat_tests}
use Rattle.hextext.specs.Hex.{all_digits, begun, char_of, digit_of, hex_of, lines_of, pairs, readable}
use Rattle.wire.specs.Laws.{Bytes}
use Rattle.hextext.specs.Laws.{lowered, TextInEitherCase, TextLaws, TextReadBack}
use Rattle.wire.specs.declared.refusal.Refusal.TheVariants.{Malformed}

-- a digit's character in either case
either_digit : (c d : ℕ) → d < 16 → lowered c ≡ char_of d → digit_of c ≡ d
unfolding digit_of
either_digit c d h e = grind (arith, nat_tests)

lowered_char : (d : ℕ) → d < 16 → lowered (char_of d) ≡ char_of d
lowered_char d h = grind (arith, nat_tests)

no_end : (d : ℕ) → eqb (char_of d) 10 ≡ false
no_end d = grind (arith, nat_tests)

small_digit : (x d : ℕ) → digit_of x ≡ d → d < 16 → ltb (digit_of x) 16 ≡ true
small_digit x d e h = subst (λ n. ltb n 16 ≡ true) (sym e) (grind (arith, nat_tests))

-- the pairs of a text that is the digits of bytes, but for capital letters
record Reads (text bs : List ℕ) : Type 0 where
  same : pairs text ≡ bs
  digits : all_digits text ≡ true
  long : length text ≡ 2 * length bs

reads : (bs text : List ℕ) → Bytes bs → map lowered text ≡ hex_of bs → Reads text bs
unfolding pairs Bytes
reads [] [] b e = record { same = refl; digits = refl; long = refl }
reads [] (c ∷ cs) b e = let z : ◌≡◌ {A = ℕ} 0 1 = cc in absurd (omega arith)
reads (b ∷ bs) [] h e = let z : ◌≡◌ {A = ℕ} 0 1 = cc in absurd (omega arith)
reads (b ∷ bs) (x ∷ []) h e = let z : ◌≡◌ {A = ℕ} 0 1 = cc in absurd (omega arith)
reads (b ∷ bs) (x ∷ (y ∷ cs)) (small, h) e =
    let high : lowered x ≡ char_of (b / 16) = ap (first 0) e in
    let low : lowered y ≡ char_of (b % 16) = ap (λ l. first 0 (rest l)) e in
    let ih = reads bs cs h (ap (λ l. rest (rest l)) e) in
    let dx = either_digit x (b / 16) (omega arith) high in
    let dy = either_digit y (b % 16) (omega arith) low in
    let byte : 16 * digit_of x + digit_of y ≡ b = ap (λ n. 16 * n + digit_of y) dx ∙ ap (λ n. 16 * (b / 16) + n) dy ∙ whole b in
    record {
      same = ap (λ n. n ∷ pairs cs) byte ∙ ap (λ l. b ∷ l) ih.same;
      digits =
          ap (λ t. t && (ltb (digit_of y) 16 && all_digits cs)) (small_digit x (b / 16) dx (omega arith))
          ∙ ap (λ t. t && all_digits cs) (small_digit y (b % 16) dy (omega arith))
          ∙ ih.digits;
      long = let l = ih.long in omega arith;
    } where
      first : ℕ → List ℕ → ℕ
      first d [] = d
      first d (z ∷ zs) = z

      rest : List ℕ → List ℕ
      rest [] = []
      rest (z ∷ zs) = zs

      whole : (n : ℕ) → 16 * (n / 16) + n % 16 ≡ n
      whole n = omega arith

in_either_case : TextInEitherCase
in_either_case room bs text b some fits e =
    let r = reads bs text b e in
    let l = r.long in
    let one : leb 1 (length text) ≡ true = grind (arith, nat_tests) in
    let half : length text / 2 ≡ length bs = omega arith in
    let pair : length text % 2 ≡ 0 = omega arith in
    let even : eqb (length text % 2) 0 ≡ true = grind (arith, nat_tests) in
    let room_is : leb (length text / 2) room ≡ true = grind (arith, nat_tests) in
    let all : readable room text ≡ true = and4 _ _ _ _ one even room_is r.digits in
    ap (λ t. cond t (Ok (pairs text)) (Err Malformed)) all ∙ ap (λ p. Ok p) r.same where
      and4 : (a b c d : Bool) → a ≡ true → b ≡ true → c ≡ true → d ≡ true → (a && b && c && d) ≡ true
      and4 a b c d p q r s = cc

lowered_hex : (bs : List ℕ) → Bytes bs → map lowered (hex_of bs) ≡ hex_of bs
unfolding Bytes
lowered_hex [] b = refl
lowered_hex (b ∷ bs) (small, h) =
    ap (λ c. c ∷ (lowered (char_of (b % 16)) ∷ map lowered (hex_of bs))) (lowered_char (b / 16) (omega arith))
    ∙ ap (λ c. char_of (b / 16) ∷ (c ∷ map lowered (hex_of bs))) (lowered_char (b % 16) (omega arith))
    ∙ ap (λ l. char_of (b / 16) ∷ (char_of (b % 16) ∷ l)) (lowered_hex bs h)

pub text_back : TextReadBack
text_back room bs b some fits = in_either_case room bs (hex_of bs) b some fits (lowered_hex bs b)

pub text_laws : TextLaws
text_laws = record { back = text_back; either = in_either_case }

-- the first line of a text that begins with one
step : (c : ℕ) (cs l : List ℕ) (ls : List (List ℕ)) → eqb c 10 ≡ false → lines_of cs ≡ l ∷ ls → lines_of (c ∷ cs) ≡ (c ∷ l) ∷ ls
unfolding lines_of
step c cs l ls e h = ap (λ t. cond t ([] ∷ lines_of cs) (begun c (lines_of cs))) e ∙ ap (begun c) h

pub line_cut : (bs rest : List ℕ) → lines_of (hex_of bs ++ 10 ∷ rest) ≡ hex_of bs ∷ lines_of rest
unfolding lines_of
line_cut [] rest = refl
line_cut (b ∷ bs) rest =
    step (char_of (b / 16)) (char_of (b % 16) ∷ (hex_of bs ++ 10 ∷ rest)) (char_of (b % 16) ∷ hex_of bs) (lines_of rest) (no_end (b / 16))
    (step (char_of (b % 16)) (hex_of bs ++ 10 ∷ rest) (hex_of bs) (lines_of rest) (no_end (b % 16)) (line_cut bs rest))
