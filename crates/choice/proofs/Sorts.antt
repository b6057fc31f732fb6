-- Runs that were sorted are in increasing order, and hold what they held.
use Rattle.std.proofs.Common.{◌≡◌, ℕ, suc, ◌+◌, ◌<◌, ◌≤◌, Bool, true, false, cond, ◌||◌, ltb, List, [], ◌∷◌, length, get_or, sum_by, Ordering, Less, sym, refl, ap, ◌∙◌, subst, ⊎_elim, arith}
use Rattle.std.specs.Cmp.{nat_cmp_is}
use Rattle.std.specs.Ordering.{is_lt, ordering_then, nat_cmp}
use Rattle.std.specs.List.Sorted.{IsPermutation, IsSortedWithin}
use Rattle.std.proofs.lemmas.List.Sums.{sum_by-cons}
use Rattle.std.proofs.lemmas.List.Sorted.{sum_by-IsPermutation}
use Rattle.std.proofs.ByRecursion.{all_shuffled}
use Rattle.std.proofs.lemmas.Bool.{both_ways, cases_lt}
use Rattle.std.proofs.lemmas.Bool.Decides.{nat_tests}
use Rattle.choice.specs.declared.runs.Run.{Run}
use Rattle.choice.specs.Runs.{in_run, in_runs, Ordered, Apart, joined}
use Rattle.choice.proofs.Joins.{LowFrom, joined_same, joined_apart}

-- the order of runs is that of their ends, the lower first
abbrev pub by_ends : Run → Run → Ordering
by_ends x y = ordering_then (nat_cmp x.lo y.lo) (nat_cmp x.hi y.hi)

-- a time is in one of the runs exactly if they that have it are more than none
abbrev hit : ℕ → Run → ℕ
hit t r = cond (in_run t r) 1 0

counted : (t : ℕ) (rs : List Run) → in_runs t rs ≡ ltb 0 (sum_by (hit t) rs)
counted t [] = refl
counted t (r ∷ rs) = go (in_run t r) (counted t rs) ∙ ap (ltb 0) (sym (sum_by-cons (hit t) r rs)) where
  go : (b : Bool) → in_runs t rs ≡ ltb 0 (sum_by (hit t) rs) → (b || in_runs t rs) ≡ ltb 0 (cond b 1 0 + sum_by (hit t) rs)
  go true h = grind (arith, nat_tests)
  go false h = h ∙ ap (ltb 0) (omega arith)

pub shuffled_same : (t : ℕ) (rs ss : List Run) → IsPermutation rs ss → in_runs t ss ≡ in_runs t rs
shuffled_same t rs ss h = counted t ss ∙ ap (ltb 0) (sum_by-IsPermutation (hit t) rs ss h) ∙ sym (counted t rs)

-- sorted runs rise by their lower ends
not_below : (x y : Run) → is_lt (by_ends y x) ≡ false → x.lo ≤ y.lo
not_below x y h = ⊎_elim (λ less. absurd (both_ways (is_lt (by_ends y x)) h (below less))) (λ k. k) (cases_lt y.lo x.lo) where
  below : y.lo < x.lo → is_lt (by_ends y x) ≡ true
  below l = ap (λ k. is_lt (ordering_then k (nat_cmp y.hi x.hi))) (sym (nat_cmp_is y.lo x.lo Less l))

abbrev Up : List Run → Type 0
Up rs = IsSortedWithin (λ x y. is_lt (by_ends x y)) rs 0 (length rs)

up_rest : (r : Run) (rs : List Run) → Up (r ∷ rs) → Up rs
up_rest r rs up k d l h =
    let e : suc k + 1 ≡ suc (k + 1) = omega arith in
    subst (λ i. is_lt (by_ends (get_or (r ∷ rs) i d) (get_or rs k d)) ≡ false) e (up (suc k) d (omega arith) (omega arith))

nexts : (r : Run) (rs : List Run) → Ordered (r ∷ rs) → Up (r ∷ rs) → LowFrom r.lo rs
nexts r [] o up = tt
nexts r (s ∷ ss) o up = (not_below r s (up 0 r (omega arith) (omega arith)), o.1.0, nexts s ss o.1 (up_rest r (s ∷ ss) up))

-- so that joined they are apart, and hold what was held
pub joined_sorted : (rs ss : List Run) → Ordered rs → IsPermutation rs ss → Up ss → Apart 0 (joined ss) × ((t : ℕ) → in_runs t (joined ss) ≡ in_runs t rs)
unfolding joined Apart
joined_sorted rs ss o moved up =
    let each = all_shuffled (λ r. r.lo ≤ r.hi) rs ss moved o in
    (apart ss each up, λ t. same ss each up t ∙ shuffled_same t rs ss moved)
  where
    apart : (ss : List Run) → Ordered ss → Up ss → Apart 0 (joined ss)
    apart [] o up = tt
    apart (s ∷ ss) o up = joined_apart 0 s ss (omega arith) o.0 (nexts s ss o up)

    same : (ss : List Run) → Ordered ss → Up ss → (t : ℕ) → in_runs t (joined ss) ≡ in_runs t ss
    same [] o up t = refl
    same (s ∷ ss) o up t = joined_same t s ss o.0 (nexts s ss o up)
