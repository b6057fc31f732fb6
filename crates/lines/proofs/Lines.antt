-- A reckoned line and its runs, read part by part.
use Rattle.std.proofs.Common.{◌≡◌, ℕ, suc, ◌+◌, ◌-◌, ◌*◌, ◌/◌, ◌<◌, List, [], ◌∷◌, length, get_or, take, drop, Ok, Result, refl, ap, ◌∙◌, arith}
use Rattle.std.proofs.lemmas.List.{get_or-drop, drop-drop}
use Rattle.std.proofs.lemmas.Bool.{eq-eqb}
use Rattle.wire.specs.Numbers.{number2, number8}
use Rattle.lines.specs.Lines.{Entry, reckoned, reckoned_of, runs_from, runs_of}
use Rattle.wire.specs.declared.refusal.Refusal.{Refusal}
use Rattle.wire.proofs.Parts.{Left, left_then}

pub reckoned_read : (bs r1 r2 runs last : List ℕ) (count named : ℕ) → count ≡ number8 bs → Left 8 bs r1 → Left 1 r1 r2
    → runs ≡ take (length r2 - 2) r2 → last ≡ drop (length r2 - 2) r2 → length runs + 2 ≡ length r2 → length runs ≡ 16 * get_or r1 0 0 → named ≡ number2 last
    → ◌≡◌ {A = Result Entry Refusal} (Ok (reckoned (record { count = count; runs = runs_of runs; named = named }))) (reckoned_of bs)
reckoned_read bs r1 r2 runs last count named c p1 p2 r l all many d =
    let at2 = left_then 8 1 bs r1 r2 p1 p2 in
    let n_is : get_or r1 0 0 ≡ get_or bs 8 0 = ap (λ x. get_or x 0 0) p1.0 ∙ get_or-drop 8 bs 0 0 in
    let len_is : length r2 - 2 ≡ 16 * get_or bs 8 0 = omega arith in
    let all_is : length bs ≡ 11 + 16 * get_or bs 8 0 = omega arith in
    let runs_is : runs ≡ take (16 * get_or bs 8 0) (drop 9 bs) = r ∙ ap (λ n. take n r2) len_is ∙ ap (take (16 * get_or bs 8 0)) at2.0 in
    let last_is : last ≡ drop (9 + 16 * get_or bs 8 0) bs = l ∙ ap (λ n. drop n r2) len_is ∙ ap (drop (16 * get_or bs 8 0)) at2.0 ∙ drop-drop (16 * get_or bs 8 0) 9 bs in
    let named_is : named ≡ number2 (drop (9 + 16 * get_or bs 8 0) bs) = d ∙ ap number2 last_is in
    rw (eq-eqb (length bs) (11 + 16 * get_or bs 8 0) all_is, runs_is, named_is, c)

-- the runs one after another
pub no_run : (bs : List ℕ) → length bs < 16 → runs_of bs ≡ []
unfolding runs_from
no_run bs h = let none : length bs / 16 ≡ 0 = omega arith in ap (λ n. runs_from n bs) none

pub one_run : (bs r1 r2 : List ℕ) (lo hi : ℕ) → lo ≡ number8 bs → Left 8 bs r1 → hi ≡ number8 r1 → Left 8 r1 r2
    → runs_of bs ≡ record { lo = lo; hi = hi } ∷ runs_of r2
unfolding runs_from
one_run bs r1 r2 lo hi f p1 t p2 =
    let at2 = left_then 8 8 bs r1 r2 p1 p2 in
    let more : length bs / 16 ≡ suc (length r2 / 16) = omega arith in
    let hi_is : hi ≡ number8 (drop 8 bs) = t ∙ ap number8 p1.0 in
    ap (λ n. runs_from n bs) more ∙ (rw (at2.0, f, hi_is) refl)
