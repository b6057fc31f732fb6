-- Each update keeps what is promised of the hand, and so does every history.
use Rattle.std.proofs.Common.{◌≡◌, ℕ, ◌<◌, ◌≤◌, Bool, true, false, not, ◌&&◌, ◌||◌, eqb, leb, List, [], ◌∷◌, ◌++◌, length, get_or, is_some, Some, None, Decides, Option, unwrap_or, sym, refl, ap, ◌∙◌, subst, inl, inr, ⊎_elim, le_trans, le_refl, arith}
use Rattle.std.specs.Option.{option_map}
use Rattle.std.proofs.lemmas.Bool.{true≢false, false≢true, cond-true, cond-false, cases_Bool, cases_lt, not_from_false, eqb-true, or_cases, or_parts}
use Rattle.std.proofs.lemmas.Bool.Decides.{nat_tests}
use Rattle.span.specs.Span.{ceiling}
use Rattle.choice.specs.declared.runs.Run.{Run}
use Rattle.choice.specs.Runs.{in_runs, Apart}
use Rattle.hand.specs.declared.Hand.{Hand}
use Rattle.hand.specs.Hand.{reach, towards, step, onward, wanted, lost, stepped, heard, passed, sound_in}
use Rattle.hand.specs.Steady.{Behind, Least, Step, NeverBack, Kept, Update, Heard, Passed, Lost, runs_of, ticks_of, updated, after, Stands, any_showing, free_after, ticks_in, Forced, SomewhereForced, AlwaysKept, NeverGoesBack, SlowUnlessForced, FreeUntilHeard, ShowsOnceHeard, NeverPastCeiling, OneRun, SoundExact}
use Rattle.hand.proofs.Looks.{none}
use Rattle.hand.proofs.Steps.{first_least, next_ahead, may_sound, wants_middle, step_well, step_under}

some_is : {t u : ℕ} → ◌≡◌ {A = Option ℕ} (Some t) (Some u) → t ≡ u
some_is e = cc

none_some : {u : ℕ} → ◌≡◌ {A = Option ℕ} None (Some u) → ⊥
none_some e = let z : ◌≡◌ {A = ℕ} 0 1 = cc in omega arith

-- What each method gives is the model's.
pub heard_none : (rs : List Run) (n : ℕ) (h k : Hand) → length rs ≡ 0 → k ≡ lost n h → k ≡ heard rs n h
heard_none [] n h k l e = e
heard_none (r ∷ rs) n h k l e = absurd (omega arith)

pub heard_some : (rs : List Run) (n t : ℕ) (h k : Hand) → 0 < length rs → k ≡ stepped rs n h → t ≡ unwrap_or k.time (get_or rs 0 none).lo → ◌≡◌ {A = Hand} (record { time = Some t; free = false }) (heard rs n h)
heard_some [] n t h k l e p = absurd (omega arith)
heard_some (r ∷ rs) n t h k l e p = ap (λ x. record { time = Some x; free = false }) (p ∙ ap (λ x. unwrap_or x.time r.lo) e)

pub passed_lost : (rs : List Run) (n : ℕ) (h k : Hand) → (eqb (length rs) 0 || h.free) ≡ true → k ≡ lost n h → k ≡ passed rs n h
passed_lost [] n h k f e = e
passed_lost (r ∷ rs) n h k f e = e ∙ sym (cond-true h.free (lost n h) (stepped (r ∷ rs) n h) (⊎_elim some (λ x. x) (or_cases (eqb (length (r ∷ rs)) 0) h.free f))) where
  some : eqb (length (r ∷ rs)) 0 ≡ true → h.free ≡ true
  some z = absurd (omega (arith, eqb-true (length (r ∷ rs)) 0 z))

pub passed_steps : (rs : List Run) (n : ℕ) (h k : Hand) → (eqb (length rs) 0 || h.free) ≡ false → k ≡ stepped rs n h → k ≡ passed rs n h
passed_steps [] n h k f e = absurd (true≢false f)
passed_steps (r ∷ rs) n h k f e = e ∙ sym (cond-false h.free (lost n h) (stepped (r ∷ rs) n h) (or_parts _ _ f).1)

-- Never back.
mapped_back : (f : ℕ → ℕ) → ((t : ℕ) → t ≤ f t) → (o : Option ℕ) (t : ℕ) → o ≡ Some t → (u : ℕ) × (option_map f o ≡ Some u) × (t ≤ u)
mapped_back f more None t e = absurd (none_some e)
mapped_back f more (Some s) t e = (f s, refl, subst (λ x. x ≤ f s) (some_is e) (more s))

step_ahead : (rs : List Run) (n t : ℕ) → t ≤ step rs n t
step_ahead rs n t = omega (arith, next_ahead (towards n (wanted rs) t) rs)

pub updated_back : (e : Update) (h : Hand) → NeverBack h (updated e h)
updated_back (Lost n) h = mapped_back (onward n) (λ t. omega arith) h.time
updated_back (Heard [] n) h = mapped_back (onward n) (λ t. omega arith) h.time
updated_back (Passed [] n) h = mapped_back (onward n) (λ t. omega arith) h.time
updated_back (Heard (r ∷ rs) n) h = go h.time where
  go : (o : Option ℕ) → NeverBack (record { time = o; free = h.free }) (heard (r ∷ rs) n (record { time = o; free = h.free }))
  go None t e = absurd (none_some e)
  go (Some s) t e = (step (r ∷ rs) n s, refl, subst (λ x. x ≤ step (r ∷ rs) n s) (some_is e) (step_ahead (r ∷ rs) n s))
updated_back (Passed (r ∷ rs) n) h = go h.free where
  go : (f : Bool) → NeverBack h (passed (r ∷ rs) n (record { time = h.time; free = f }))
  go true = mapped_back (onward n) (λ t. omega arith) h.time
  go false = mapped_back (step (r ∷ rs) n) (step_ahead (r ∷ rs) n) h.time

-- The free run.
lost_keeps : (rs : List Run) (n : ℕ) (h : Hand) → Kept rs n h (lost n h)
lost_keeps rs n h = go h.time where
  go : (o : Option ℕ) → Kept rs n (record { time = o; free = h.free }) (lost n (record { time = o; free = h.free }))
  go None = record {
    first = λ _ u e. absurd (none_some e);
    steps = λ f. absurd (true≢false f);
    sound = λ f. absurd (true≢false f);
    freely = λ _ t u e. absurd (none_some e);
    under = λ _ _ u e. absurd (none_some e);
  }
  go (Some s) = record {
    first = λ e. absurd (none_some (sym e));
    steps = λ f. absurd (true≢false f);
    sound = λ f. absurd (true≢false f);
    freely = λ _ t u e k. let a = some_is e in let b = some_is k in record { ahead = omega arith; slow = omega arith; whole = omega arith };
    under = λ _ low u k. let a = some_is k in let b = low s refl in omega arith;
  }

-- An ordinary step, with a world left.
stepped_keeps : (r : Run) (rs : List Run) (n s : ℕ) (f : Bool) → Apart 0 (r ∷ rs) → Kept (r ∷ rs) n (record { time = Some s; free = f }) (record { time = Some (step (r ∷ rs) n s); free = false })
stepped_keeps r rs n s f a =
    let may = (wants_middle r rs a).may in
    let well = step_well (r ∷ rs) n s a may in
    record {
      first = λ e. absurd (none_some (sym e));
      steps = λ _ t u e k. subst (λ x. Step (r ∷ rs) n t x) (some_is k) (subst (λ x. Step (r ∷ rs) n x (step (r ∷ rs) n s)) (some_is e) well);
      sound = λ _ u k. subst (λ x. Decides (not (in_runs x (r ∷ rs))) (Behind (r ∷ rs) x)) (some_is k) well.sound;
      freely = λ g. absurd (false≢true g);
      under = λ upto low u k. subst (λ x. x ≤ ceiling) (some_is k) (step_under (r ∷ rs) n s a may upto (low s refl));
    }

-- The first showing.
first_keeps : (r : Run) (rs : List Run) (n : ℕ) (f : Bool) → Apart 0 (r ∷ rs) → Kept (r ∷ rs) n (record { time = None; free = f }) (record { time = Some r.lo; free = false })
first_keeps r rs n f a =
    let least = first_least r rs a in
    record {
      first = λ _ u k. subst (Least (r ∷ rs)) (some_is k) least;
      steps = λ _ t u e. absurd (none_some e);
      sound = λ _ u k. subst (λ x. Decides (not (in_runs x (r ∷ rs))) (Behind (r ∷ rs) x)) (some_is k) (may_sound r.lo (r ∷ rs) least.0);
      freely = λ g. absurd (false≢true g);
      under = λ upto _ u k. subst (λ x. x ≤ ceiling) (some_is k) (upto r.lo least.0);
    }

hidden_keeps : (rs : List Run) (n : ℕ) (f g : Bool) → Kept rs n (record { time = None; free = f }) (record { time = None; free = g })
hidden_keeps rs n f g = record {
  first = λ _ u k. absurd (none_some k);
  steps = λ _ t u e. absurd (none_some e);
  sound = λ _ u k. absurd (none_some k);
  freely = λ _ t u e. absurd (none_some e);
  under = λ _ _ u k. absurd (none_some k);
}

pub updated_keeps : (e : Update) (h : Hand) → Apart 0 (runs_of e) → Kept (runs_of e) (ticks_of e) h (updated e h)
updated_keeps (Lost n) h a = lost_keeps [] n h
updated_keeps (Heard [] n) h a = lost_keeps [] n h
updated_keeps (Passed [] n) h a = lost_keeps [] n h
updated_keeps (Heard (r ∷ rs) n) h a = go h.time where
  go : (o : Option ℕ) → Kept (r ∷ rs) n (record { time = o; free = h.free }) (heard (r ∷ rs) n (record { time = o; free = h.free }))
  go None = first_keeps r rs n h.free a
  go (Some s) = stepped_keeps r rs n s h.free a
updated_keeps (Passed (r ∷ rs) n) h a = go h.free h.time where
  go : (f : Bool) (o : Option ℕ) → Kept (r ∷ rs) n (record { time = o; free = f }) (passed (r ∷ rs) n (record { time = o; free = f }))
  go true o = lost_keeps (r ∷ rs) n (record { time = o; free = true })
  go false None = hidden_keeps (r ∷ rs) n false false
  go false (Some s) = stepped_keeps r rs n s false a

-- What a call with this update promises of the hand that it gives.
pub promised : (e : Update) (h k : Hand) → k ≡ updated e h → NeverBack h k × (Apart 0 (runs_of e) → Kept (runs_of e) (ticks_of e) h k) × ((es : List Update) → Stands es h → Stands (e ∷ es) k)
unfolding after
promised e h k p = (
  subst (NeverBack h) (sym p) (updated_back e h),
  λ a. subst (Kept (runs_of e) (ticks_of e) h) (sym p) (updated_keeps e h a),
  λ es s. p ∙ ap (updated e) s,
)

-- Histories.
pub always_kept : AlwaysKept
unfolding after
always_kept es e a = updated_keeps e (after es) a

pub never_goes_back : NeverGoesBack
unfolding after
never_goes_back es [] t h = (t, h, le_refl t)
never_goes_back es (e ∷ more) t h =
    let k = never_goes_back es more t h in
    let l = updated_back e (after (more ++ es)) k.0 k.1 in
    (l.0, l.1, le_trans k.2 l.2)

pub slow_unless_forced : SlowUnlessForced
unfolding after ticks_in SomewhereForced
slow_unless_forced es [] all t u h k = let same = some_is (sym h ∙ k) in inl (omega arith)
slow_unless_forced es (e ∷ more) all t u h k =
    let before = never_goes_back es more t h in
    let s = before.0 in
    let shows = before.1 in
    let keeps = updated_keeps e (after (more ++ es)) all.0 in
    ⊎_elim
    (λ l. ⊎_elim
    (λ past. inr (inl (s, u, shows, k, forced keeps s past shows)))
    (λ slow. inl (omega arith))
    (cases_lt (reach (ticks_of e) s) u))
    (λ f. inr (inr f))
    (slow_unless_forced es more all.1 t s h shows)
  where
    forced : Kept (runs_of e) (ticks_of e) (after (more ++ es)) (updated e (after (more ++ es))) → (s : ℕ) → reach (ticks_of e) s < u → (after (more ++ es)).time ≡ Some s → Forced (runs_of e) (ticks_of e) s u
    forced keeps s past shows = ⊎_elim
        (λ f. let slow = (keeps.freely f s u shows k).slow in absurd (omega arith))
        (λ f. (keeps.steps f s u shows k).forced past)
        (cases_Bool (updated e (after (more ++ es))).free)

pub free_until_heard : FreeUntilHeard
unfolding after free_after
free_until_heard [] = refl
free_until_heard (e ∷ es) = go e (after es) (free_until_heard es) where
  go : (e : Update) (h : Hand) → h.free ≡ free_after es → (updated e h).free ≡ free_after (e ∷ es)
  go (Lost n) h k = refl
  go (Heard [] n) h k = refl
  go (Heard (r ∷ rs) n) h k = refl
  go (Passed [] n) h k = refl
  go (Passed (r ∷ rs) n) h k = by h.free ∙ k where
    by : (f : Bool) → (passed (r ∷ rs) n (record { time = h.time; free = f })).free ≡ f
    by true = refl
    by false = refl

pub shows_once_heard : ShowsOnceHeard
unfolding after any_showing
shows_once_heard [] = refl
shows_once_heard (e ∷ es) = go e (after es) (shows_once_heard es) where
  same : (f : ℕ → ℕ) (o : Option ℕ) → is_some (option_map f o) ≡ is_some o
  same f None = refl
  same f (Some t) = refl

  go : (e : Update) (h : Hand) → is_some h.time ≡ any_showing es → is_some (updated e h).time ≡ any_showing (e ∷ es)
  go (Lost n) h k = same (onward n) h.time ∙ k
  go (Heard [] n) h k = same (onward n) h.time ∙ k
  go (Heard (r ∷ rs) n) h k = refl
  go (Passed [] n) h k = same (onward n) h.time ∙ k
  go (Passed (r ∷ rs) n) h k = by h.free where
    by : (f : Bool) → is_some (passed (r ∷ rs) n (record { time = h.time; free = f })).time ≡ any_showing es
    by true = same (onward n) h.time ∙ k
    by false = same (step (r ∷ rs) n) h.time ∙ k

pub never_past_ceiling : NeverPastCeiling
unfolding after
never_past_ceiling [] all t h = absurd (none_some h)
never_past_ceiling (e ∷ es) all t h =
    (updated_keeps e (after es) all.0.0).under all.0.1 (λ s k. never_past_ceiling es all.1 s k) t h

pub one_run : OneRun
one_run r t h = go r.lo r.hi h where
  go : (lo hi : ℕ) → lo ≤ t → Decides (not (in_runs t (record { lo = lo; hi = hi } ∷ []))) (Behind (record { lo = lo; hi = hi } ∷ []) t)
  go lo hi h = (λ k v m. past k v m, λ b. out b) where
    past : not ((leb lo t && leb t hi) || false) ≡ true → (v : ℕ) → ((leb lo v && leb v hi) || false) ≡ true → v < t
    past k v m = grind (arith, nat_tests)

    out : Behind (record { lo = lo; hi = hi } ∷ []) t → not ((leb lo t && leb t hi) || false) ≡ true
    out b = ⊎_elim (λ k. absurd (omega (arith, b t k))) (λ k. not_from_false _ k) (cases_Bool ((leb lo t && leb t hi) || false))

-- What a hand says of its soundness, asked with the runs of the latest update.
pub sound_exact : (rs : List Run) (h : Hand) (answer : Bool) → answer ≡ sound_in rs h.time → SoundExact rs h answer
sound_exact rs h answer p es e s q a f u l =
    let keeps : Kept (runs_of e) (ticks_of e) (after es) h = subst (Kept (runs_of e) (ticks_of e) (after es)) (sym s) (always_kept es e (subst (Apart 0) (sym q) a)) in
    let there : Decides (not (in_runs u rs)) (Behind rs u) = subst (λ x. Decides (not (in_runs u x)) (Behind x u)) q (keeps.sound f u l) in
    subst (λ b. Decides (not b) (Behind rs u)) (sym (p ∙ ap (sound_in rs) l)) there
