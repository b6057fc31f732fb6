-- What may be and what is next, for runs in increasing order and apart; and what follows for a step.
use Rattle.std.proofs.Common.{◌≡◌, ℕ, zero, suc, ◌+◌, ◌<◌, ◌≤◌, max, Bool, true, false, cond, not, ◌||◌, leb, ◌⊎◌, List, [], ◌∷◌, length, get_or, Decides, sym, refl, ap, ◌∙◌, subst, inl, inr, ⊎_elim, le_refl, arith}
use Rattle.std.proofs.lemmas.List.MinMax.{IsFirstBest-from_best_of, IsStrictWeakOrder-flip, IsStrictWeakOrder-by_number}
use Rattle.std.proofs.lemmas.List.{get_or_default}
use Rattle.std.proofs.lemmas.Bool.{le-leb, lt-leb, leb-true, leb-false, false≢true, both_ways, not-true, not_from_false, and_from, and_left, and_right, and_parts, or_from, or_left, or_right, or_cases, cases_Bool, cases_lt}
use Rattle.span.specs.Span.{ceiling}
use Rattle.choice.specs.declared.runs.Run.{Run}
use Rattle.choice.specs.Runs.{in_run, in_runs, Apart}
use Rattle.hand.specs.Hand.{length_of, longest, middle, wanted, towards, next, step}
use Rattle.hand.specs.Steady.{Behind, Least, Upto, Middle, Step}

-- no time before the runs may be
below : (b v : ℕ) (rs : List Run) → Apart b rs → v < b → in_runs v rs ≡ false
unfolding Apart
below b v [] a h = refl
below b v (r ∷ rs) a h =
    or_from _ _ (and_left _ _ (lt-leb r.lo v (omega (arith, a.0)))) (below (r.hi + 2) v rs a.2 (omega (arith, a.0, a.1)))

-- the least time of the first run is the least of all
pub first_least : (r : Run) (rs : List Run) → Apart 0 (r ∷ rs) → Least (r ∷ rs) r.lo
unfolding Apart
first_least r rs a = (
  or_left _ _ (and_from _ _ (le-leb r.lo r.lo (le_refl r.lo)) (le-leb r.lo r.hi a.1)),
  λ v h. ⊎_elim
      (λ k. absurd (both_ways (in_runs v (r ∷ rs)) (below r.lo v (r ∷ rs) (le_refl r.lo, a.1, a.2) k) h))
      (λ k. k)
      (cases_lt v r.lo),
)

pub next_ahead : (t : ℕ) (rs : List Run) → t ≤ next t rs
unfolding next
next_ahead t [] = le_refl t
next_ahead t (r ∷ rs) = go (leb t r.hi) (next_ahead t rs) where
  go : (b : Bool) → t ≤ next t rs → t ≤ cond b (max t r.lo) (next t rs)
  go true h = omega arith
  go false h = h

-- nothing may be between a time and the next
next_clear : (b t : ℕ) (rs : List Run) → Apart b rs → (v : ℕ) → t ≤ v → v < next t rs → in_runs v rs ≡ false
unfolding next Apart
next_clear b t [] a v l h = refl
next_clear b t (r ∷ rs) a v l h = go (leb t r.hi) refl h (λ k. next_clear (r.hi + 2) t rs a.2 v l k) where
  go : (q : Bool) → leb t r.hi ≡ q → v < cond q (max t r.lo) (next t rs) → (v < next t rs → in_runs v rs ≡ false) → (in_run v r || in_runs v rs) ≡ false
  go true e k more =
      let low : v < r.lo = omega arith in
      or_from _ _ (and_left _ _ (lt-leb r.lo v low)) (below (r.hi + 2) v rs a.2 (omega (arith, a.1)))
  go false e k more = or_from _ _ (and_right _ _ (lt-leb v r.hi (omega (arith, leb-false t r.hi e)))) (more k)

-- the next time may be, or there is none
pub next_may : (b t : ℕ) (rs : List Run) → Apart b rs → (in_runs (next t rs) rs ≡ true) ⊎ ((next t rs ≡ t) × Behind rs t)
unfolding next Apart
next_may b t [] a = inr (refl, λ v h. absurd (false≢true h))
next_may b t (r ∷ rs) a = go (leb t r.hi) refl (next_may (r.hi + 2) t rs a.2) where
  le_lt : {x y z : ℕ} → x ≤ y → y < z → x < z
  le_lt h k = omega arith

  go : (q : Bool) → leb t r.hi ≡ q → (in_runs (next t rs) rs ≡ true) ⊎ ((next t rs ≡ t) × Behind rs t) →
      ((in_run (cond q (max t r.lo) (next t rs)) r || in_runs (cond q (max t r.lo) (next t rs)) rs) ≡ true)
      ⊎ ((cond q (max t r.lo) (next t rs) ≡ t) × ((v : ℕ) → (in_run v r || in_runs v rs) ≡ true → v < t))
  go true e h = inl (or_left _ _ (and_from _ _ (le-leb r.lo _ (omega arith)) (le-leb _ r.hi (omega (arith, a.1, leb-true t r.hi e)))))
  go false e (inl h) = inl (or_right _ _ h)
  go false e (inr h) = inr (
    h.0,
    λ v k. ⊎_elim
        (λ x. le_lt (leb-true v r.hi (and_parts (leb r.lo v) (leb v r.hi) x).1) (leb-false t r.hi e))
        (λ x. h.1 v x)
        (or_cases _ _ k),
  )

-- it is not past a time that may be
pub next_not_past : (t x : ℕ) (rs : List Run) → Apart 0 rs → in_runs x rs ≡ true → t ≤ x → next t rs ≤ x
next_not_past t x rs a h l = ⊎_elim (λ k. absurd (both_ways (in_runs x rs) (next_clear 0 t rs a x l k) h)) (λ k. k) (cases_lt x (next t rs))

-- a time that may be is sound; and the next time is, or there is none
pub may_sound : (t : ℕ) (rs : List Run) → in_runs t rs ≡ true → Decides (not (in_runs t rs)) (Behind rs t)
may_sound t rs h = (λ k. absurd (both_ways (in_runs t rs) (not-true _ k) h), λ k. absurd (omega (arith, k t h)))

pub next_sound : (t : ℕ) (rs : List Run) → Apart 0 rs → Decides (not (in_runs (next t rs) rs)) (Behind rs (next t rs))
next_sound t rs a = ⊎_elim (λ h. may_sound (next t rs) rs h) (λ h. out h.0 h.1) (next_may 0 t rs a) where
  out : next t rs ≡ t → Behind rs t → Decides (not (in_runs (next t rs) rs)) (Behind rs (next t rs))
  out e b = let past : Behind rs (next t rs) = subst (Behind rs) (sym e) b in
      (λ _. past, λ _. ⊎_elim (λ k. absurd (omega (arith, past (next t rs) k))) (λ k. not_from_false _ k) (cases_Bool (in_runs (next t rs) rs)))

-- every time of a run may be, so its middle does
middle_may : (b : ℕ) (rs : List Run) → Apart b rs → (k : ℕ) (d : Run) → k < length rs → in_runs (middle (get_or rs k d)) rs ≡ true
unfolding Apart
middle_may b [] a k d l = absurd (omega arith)
middle_may b (r ∷ rs) a zero d l = or_left _ _ (and_from _ _ (le-leb r.lo _ (omega (arith, a.1))) (le-leb _ r.hi (omega (arith, a.1))))
middle_may b (r ∷ rs) a (suc k) d l = or_right _ _ (middle_may (r.hi + 2) rs a.2 k d (omega arith))

pub wants_middle : (r : Run) (rs : List Run) → Apart 0 (r ∷ rs) → Middle (r ∷ rs) (wanted (r ∷ rs))
unfolding wanted longest
wants_middle r rs a =
    let h = IsFirstBest-from_best_of (IsStrictWeakOrder-flip _ (IsStrictWeakOrder-by_number length_of)) r rs in
    let at = h.0 in
    let is : middle (get_or (r ∷ rs) at r) ≡ middle (longest r rs) = ap middle h.2 in
    record {
      place = at;
      best = h.1;
      value = λ d. sym is ∙ ap middle (get_or_default (r ∷ rs) at r d h.1.0);
      may = subst (λ t. in_runs t (r ∷ rs) ≡ true) is (middle_may 0 (r ∷ rs) a at r h.1.0);
    }

-- an ordinary step, where what is wanted may be
pub step_well : (rs : List Run) (n t : ℕ) → Apart 0 rs → in_runs (wanted rs) rs ≡ true → Step rs n t (step rs n t)
step_well rs n t a may =
    let w = wanted rs in
    let v = towards n w t in
    let on = next_ahead v rs in
    record {
      ahead = omega arith;
      sound = next_sound v rs a;
      forced = λ h. (
        h,
        ⊎_elim (λ k. k) (λ k. absurd (omega (arith, k.0))) (next_may 0 v rs a),
        λ x l k. next_clear 0 v rs a x (omega arith) k,
      );
      arrives = λ h k. let s : next v rs ≤ w = next_not_past v w rs a may (omega arith) in omega arith;
      short = λ h. next_not_past v w rs a may (omega arith);
      still = λ h m. let s : next v rs ≤ t = next_not_past v t rs a m (omega arith) in omega arith;
    }

-- a step stays under the ceiling if every time that may be is
pub step_under : (rs : List Run) (n t : ℕ) → Apart 0 rs → in_runs (wanted rs) rs ≡ true → Upto rs → t ≤ ceiling → step rs n t ≤ ceiling
step_under rs n t a may upto h =
    let w = wanted rs in
    let v = towards n w t in
    let low : w ≤ ceiling = upto w may in
    ⊎_elim (λ k. upto (next v rs) k) (λ k. omega (arith, k.0)) (next_may 0 v rs a)
