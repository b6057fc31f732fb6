-- For known faulty servers: the span through all moments is exactly the times to which true time can have gone.
use Rattle.std.proofs.Common.{◌≡◌, ℕ, zero, suc, ◌≤◌, max, Bool, true, false, cond, T, List, [], ◌∷◌, get_or, sym, refl, subst, le_trans, arith}
use Rattle.std.proofs.lemmas.Bool.Decides.{nat_tests}
use Rattle.std.proofs.lemmas.Bool.{both_ways}
use Rattle.span.specs.Rate.{Fits}
use Rattle.span.specs.Span.{is_in, at_most, at_least, ceiling}
use Rattle.span.specs.World.{Deed, Event, Rules, Faulty, Made, Told, Way, Shows, Marks, Asks, Accepts, begins, goes}
use Rattle.span.specs.Model.{Claim, Moment, AtMost, AtLeast, put, lowest, moments_by, moments, cut_by, cut_all, through}
use Rattle.span.specs.Known.{BoundsLoseNothing, KnownExact, MoreFaultyWider}
use Rattle.span.specs.declared.Span.{Span}
use Rattle.span.proofs.Products.{fits_between}
use Rattle.span.proofs.Steps.{step_exact, at_most_exact, at_least_exact, in_upto, of_upto}

-- a time meets a claim
abbrev pub Meets : Faulty → Claim → ℕ → Type 0
Meets who (AtMost v x) t = who v ≡ false → t ≤ x
Meets who (AtLeast v x) t = who v ≡ false → x ≤ t

abbrev pub MeetsAll : Faulty → List Claim → ℕ → Type 0
MeetsAll who [] t = Unit {0}
MeetsAll who (c ∷ cs) t = Meets who c t × MeetsAll who cs t

-- times that fit all moments, the latest first; a time before the first moment
abbrev pub Path : Rules → Faulty → List Moment → ℕ → List ℕ → Type 0
Path r who [] t [] = (t ≤ r.latest) × (t ≤ ceiling)
Path r who [] t (x ∷ ts) = ⊥
Path r who (m ∷ ms) u [] = ⊥
Path r who (m ∷ ms) u (x ∷ ts) = (x ≡ u) × ((t : ℕ) × Path r who ms t ts × Fits r.drift m.ticks t u) × (u ≤ ceiling) × MeetsAll who m.claims u

-- Cuts.
cut_in : (who : Faulty) (c : Claim) (t : ℕ) (s : Span) → Meets who c t → T (is_in t s) → T (is_in t (cut_by who c s))
cut_in who (AtMost v x) t s m i = go (who v) refl where
  go : (b : Bool) → who v ≡ b → T (is_in t (cond b s (at_most x s)))
  go true e = i
  go false e = (at_most_exact x s).kept t i (m e)
cut_in who (AtLeast v x) t s m i = go (who v) refl where
  go : (b : Bool) → who v ≡ b → T (is_in t (cond b s (at_least x s)))
  go true e = i
  go false e = (at_least_exact x s).kept t i (m e)

of_cut : (who : Faulty) (c : Claim) (t : ℕ) (s : Span) → T (is_in t (cut_by who c s)) → Meets who c t × T (is_in t s)
of_cut who (AtMost v x) t s i = go (who v) refl i where
  go : (b : Bool) → who v ≡ b → T (is_in t (cond b s (at_most x s))) → (who v ≡ false → t ≤ x) × T (is_in t s)
  go true e j = (λ f. absurd (both_ways (who v) f e), j)
  go false e j = let k = (at_most_exact x s).only t j in (λ _. k.1, k.0)
of_cut who (AtLeast v x) t s i = go (who v) refl i where
  go : (b : Bool) → who v ≡ b → T (is_in t (cond b s (at_least x s))) → (who v ≡ false → x ≤ t) × T (is_in t s)
  go true e j = (λ f. absurd (both_ways (who v) f e), j)
  go false e j = let k = (at_least_exact x s).only t j in (λ _. k.1, k.0)

pub all_in : (who : Faulty) (cs : List Claim) (t : ℕ) (s : Span) → MeetsAll who cs t → T (is_in t s) → T (is_in t (cut_all who cs s))
unfolding cut_all
all_in who [] t s m i = i
all_in who (c ∷ cs) t s m i = cut_in who c t (cut_all who cs s) m.0 (all_in who cs t s m.1 i)

pub of_all : (who : Faulty) (cs : List Claim) (t : ℕ) (s : Span) → T (is_in t (cut_all who cs s)) → MeetsAll who cs t × T (is_in t s)
unfolding cut_all
of_all who [] t s i = (tt, i)
of_all who (c ∷ cs) t s i =
    let k = of_cut who c t (cut_all who cs s) i in
    let l = of_all who cs t s k.1 in
    ((k.0, l.0), l.1)

-- The span through all moments holds just the times at the end of a path.
pub path_in : (r : Rules) (who : Faulty) (ms : List Moment) (t : ℕ) (ts : List ℕ) → Path r who ms t ts → T (is_in t (through r who ms))
unfolding through
path_in r who [] t [] p = in_upto r.latest t p.0 p.1
path_in r who [] t (x ∷ ts) p = elim p [ ]
path_in r who (m ∷ ms) u [] p = elim p [ ]
path_in r who (m ∷ ms) u (x ∷ ts) p =
    let back = p.1 in
    all_in who m.claims u _ p.3 ((step_exact r.drift m.ticks (through r who ms)).holds back.0 u (path_in r who ms back.0 ts back.1) back.2 p.2)

pub in_path : (r : Rules) (who : Faulty) (ms : List Moment) (t : ℕ) → T (is_in t (through r who ms)) → (ts : List ℕ) × Path r who ms t ts
unfolding through
in_path r who [] t i = ([], of_upto r.latest t i)
in_path r who (m ∷ ms) u i =
    let met = of_all who m.claims u _ i in
    let step = (step_exact r.drift m.ticks (through r who ms)).reached u met.1 in
    let before = in_path r who ms step.0 step.1 in
    (u ∷ before.0, (refl, (step.0, before.1, step.2), step.3, met.0))

-- No time on a path is later than its end.
pub path_rises : (r : Rules) (who : Faulty) (ms : List Moment) (t : ℕ) (ts : List ℕ) → Path r who ms t ts → (k : ℕ) → get_or ts k 0 ≤ t
path_rises r who [] t [] p k = omega arith
path_rises r who [] t (x ∷ ts) p k = elim p [ ]
path_rises r who (m ∷ ms) u [] p k = elim p [ ]
path_rises r who (m ∷ ms) u (x ∷ ts) p zero = omega (arith, p.0)
path_rises r who (m ∷ ms) u (x ∷ ts) p (suc k) =
    let back = p.1 in
    let rise = fits_between r.drift m.ticks back.0 u back.2 in
    omega (arith, path_rises r who ms back.0 ts back.1 k)

-- An upper bound put down at a moment is met by just the paths that meet it there.
pub put_path : (r : Rules) (who : Faulty) (ms : List Moment) (t : ℕ) (ts : List ℕ) (k v x : ℕ) → Path r who (put k v x ms) t ts → Path r who ms t ts × (who v ≡ false → get_or ts k 0 ≤ x)
unfolding put
put_path r who [] t [] k v x p = (p, λ _. omega arith)
put_path r who [] t (y ∷ ts) k v x p = elim p [ ]
put_path r who (m ∷ ms) u [] zero v x p = elim p [ ]
put_path r who (m ∷ ms) u [] (suc k) v x p = elim p [ ]
put_path r who (m ∷ ms) u (y ∷ ts) zero v x p = ((p.0, p.1, p.2, p.3.1), λ e. omega (arith, p.0, p.3.0 e))
put_path r who (m ∷ ms) u (y ∷ ts) (suc k) v x p =
    let back = p.1 in
    let h = put_path r who ms back.0 ts k v x back.1 in
    ((p.0, (back.0, h.0, back.2), p.2, p.3), h.1)

pub path_put : (r : Rules) (who : Faulty) (ms : List Moment) (t : ℕ) (ts : List ℕ) (k v x : ℕ) → Path r who ms t ts → (who v ≡ false → get_or ts k 0 ≤ x) → Path r who (put k v x ms) t ts
unfolding put
path_put r who [] t ts k v x p h = p
path_put r who (m ∷ ms) u [] k v x p h = elim p [ ]
path_put r who (m ∷ ms) u (y ∷ ts) zero v x p h = (p.0, p.1, p.2, (λ e. subst (λ z. z ≤ x) p.0 (h e), p.3))
path_put r who (m ∷ ms) u (y ∷ ts) (suc k) v x p h =
    let back = p.1 in
    (p.0, (back.0, path_put r who ms back.0 ts k v x back.1 h, back.2), p.2, p.3)

-- A reply was made between its asking and now, within what it says, exactly if its two bounds are met.
made_low : (asked came lo hi : ℕ) → Made asked came lo hi → lowest lo hi ≤ came
made_low asked came lo hi m =
    let at = m.at in
    let a = m.low in
    let b = m.high in
    let c = m.before in
    low lo hi came (omega arith) (omega arith)
  where
    low : (lo hi came : ℕ) → lo ≤ hi → lo ≤ came → lowest lo hi ≤ came
    low lo hi came h k = grind (arith, nat_tests)

low_made : (asked came lo hi : ℕ) → asked ≤ came → came ≤ ceiling → asked ≤ hi → lowest lo hi ≤ came → Made asked came lo hi
low_made asked came lo hi h c a l =
    let k = parts lo hi came c l in
    record { at = max asked lo; after = omega arith; before = omega arith; low = omega arith; high = omega arith }
  where
    parts : (lo hi came : ℕ) → came ≤ ceiling → lowest lo hi ≤ came → (lo ≤ hi) × (lo ≤ came)
    parts lo hi came c l = grind (arith, nat_tests)

-- A way of a run is a path of its moments, and a path is a way.
pub way_path : {r : Rules} {who : Faulty} {es : List Event} {t : ℕ} {ts : List ℕ} → Way r who es t ts → Path r who (moments es) t ts
unfolding moments
way_path (begins h k) = (h, k)
way_path {r} {who} (goes {es = es} {e = e} {t = t} {u = u} {ts = ts} w f c d) = by e.deed d (way_path w) where
  by : (deed : Deed) → Told who deed ts u → Path r who (moments es) t ts → Path r who (moments_by e.ticks deed (moments es)) u (u ∷ ts)
  by Shows d p = (refl, (t, p, f), c, tt)
  by Marks d p = (refl, (t, p, f), c, tt)
  by (Asks v) d p = (refl, (t, p, f), c, tt)
  by (Accepts v since lo hi) d p = (
    refl,
    (t, path_put r who (moments es) t ts since v hi p (λ h. let m = d h in le_trans m.after m.high), f),
    c,
    (λ h. made_low (get_or ts since 0) u lo hi (d h), tt),
  )

one_more : {r : Rules} {who : Faulty} {es : List Event} {e : Event} {t u : ℕ} {ts : List ℕ} (x : ℕ) (deed : Deed) → x ≡ u → e.deed ≡ deed → Way r who es t ts → Fits r.drift e.ticks t u → u ≤ ceiling → Told who deed ts u → Way r who (e ∷ es) u (x ∷ ts)
one_more {r} {who} {es} {e} {t} {u} {ts} x deed h q w f c d =
    subst (λ y. Way r who (e ∷ es) u (y ∷ ts)) (sym h) (goes w f c (subst (λ y. Told who y ts u) (sym q) d))

pub path_way : (r : Rules) (who : Faulty) (es : List Event) (t : ℕ) (ts : List ℕ) → Path r who (moments es) t ts → Way r who es t ts
unfolding moments
path_way r who [] t [] p = begins p.0 p.1
path_way r who [] t (x ∷ ts) p = elim p [ ]
path_way r who (e ∷ es) u ts p = by (λ t ts p. path_way r who es t ts p) e.deed refl ts p where
  by : ((t : ℕ) (ts : List ℕ) → Path r who (moments es) t ts → Way r who es t ts) → (deed : Deed) → e.deed ≡ deed → (ts : List ℕ) → Path r who (moments_by e.ticks deed (moments es)) u ts → Way r who (e ∷ es) u ts
  by back Shows q [] p = elim p [ ]
  by back Shows q (x ∷ ts) p = one_more x Shows p.0 q (back p.1.0 ts p.1.1) p.1.2 p.2 tt
  by back Marks q [] p = elim p [ ]
  by back Marks q (x ∷ ts) p = one_more x Marks p.0 q (back p.1.0 ts p.1.1) p.1.2 p.2 tt
  by back (Asks v) q [] p = elim p [ ]
  by back (Asks v) q (x ∷ ts) p = one_more x (Asks v) p.0 q (back p.1.0 ts p.1.1) p.1.2 p.2 tt
  by back (Accepts v since lo hi) q [] p = elim p [ ]
  by back (Accepts v since lo hi) q (x ∷ ts) p =
      let t = p.1.0 in
      let before = put_path r who (moments es) t ts since v hi p.1.1 in
      let rise = fits_between r.drift e.ticks t u p.1.2 in
      let asked : get_or ts since 0 ≤ u = omega (arith, path_rises r who (moments es) t ts before.0 since) in
      one_more x (Accepts v since lo hi) p.0 q (back t ts before.0) p.1.2 p.2
      (λ h. low_made (get_or ts since 0) u lo hi asked p.2 (before.1 h) (p.3.0 h))

pub known_exact : KnownExact
known_exact r who es t = (
  λ i. let p = in_path r who (moments es) t i in (p.0, path_way r who es t p.0 p.1),
  λ ts w. path_in r who (moments es) t ts (way_path w),
)

pub bounds_lose_nothing : BoundsLoseNothing
bounds_lose_nothing r who es t u n ts w f v since lo hi honest order =
    let asked = path_rises r who (moments es) t ts (way_path w) since in
    let rise = fits_between r.drift n t u f in (
      λ told. let m = told honest in (le_trans m.after m.high, le_trans m.low m.before),
      λ b _. let x = b.0 in let y = b.1 in record { at = max (get_or ts since 0) lo; after = omega arith; before = omega arith; low = omega arith; high = omega arith },
    )

-- With more faulty servers fewer claims count, so that every path stays one.
abbrev Within : Faulty → Faulty → Type 0
Within few many = (v : ℕ) → few v ≡ true → many v ≡ true

honest : (few many : Faulty) → Within few many → (v : ℕ) → many v ≡ false → few v ≡ false
honest few many more v h = go (few v) refl where
  go : (b : Bool) → few v ≡ b → few v ≡ false
  go true e = absurd (both_ways (many v) h (more v e))
  go false e = e

wider_meets : (few many : Faulty) → Within few many → (cs : List Claim) (t : ℕ) → MeetsAll few cs t → MeetsAll many cs t
wider_meets few many more [] t m = tt
wider_meets few many more (AtMost v x ∷ cs) t m = (λ h. m.0 (honest few many more v h), wider_meets few many more cs t m.1)
wider_meets few many more (AtLeast v x ∷ cs) t m = (λ h. m.0 (honest few many more v h), wider_meets few many more cs t m.1)

pub wider_path : (r : Rules) (few many : Faulty) → Within few many → (ms : List Moment) (t : ℕ) (ts : List ℕ) → Path r few ms t ts → Path r many ms t ts
wider_path r few many more [] t [] p = p
wider_path r few many more [] t (x ∷ ts) p = elim p [ ]
wider_path r few many more (m ∷ ms) u [] p = elim p [ ]
wider_path r few many more (m ∷ ms) u (x ∷ ts) p =
    (p.0, (p.1.0, wider_path r few many more ms p.1.0 ts p.1.1, p.1.2), p.2, wider_meets few many more m.claims u p.3)

pub wider_span : (r : Rules) (few many : Faulty) → Within few many → (ms : List Moment) (t : ℕ) → T (is_in t (through r few ms)) → T (is_in t (through r many ms))
wider_span r few many more ms t i =
    let p = in_path r few ms t i in
    path_in r many ms t p.0 (wider_path r few many more ms t p.0 p.1)

pub more_faulty_wider : MoreFaultyWider
more_faulty_wider r few many more es t i = wider_span r few many more (moments es) t i
