-- For known faulty servers: the span of a past moment is exactly the times that true time can have been then.
use Rattle.std.proofs.Common.{◌≡◌, ℕ, zero, suc, ◌<◌, ◌≤◌, T, List, [], ◌∷◌, length, get_or, take, drop, sym, refl, ap, ◌∙◌, subst, arith}
use Rattle.span.specs.Rate.{Fits}
use Rattle.span.specs.World.{Deed, Event, Rules, Faulty, Shows, Marks, Asks, Accepts}
use Rattle.span.specs.Span.{is_in, ceiling, upto, earlier}
use Rattle.span.specs.Model.{Moment, put, moments_by, moments, cut_all, through}
use Rattle.span.specs.Past.{back_through, past_of, KnownPastExact, MoreFaultyPastWider}
use Rattle.span.specs.declared.Span.{Span}
use Rattle.span.proofs.Products.{fits_between}
use Rattle.span.proofs.Steps.{back_exact, meet_exact, in_upto, of_upto}
use Rattle.span.proofs.Paths.{Path, all_in, of_all, path_in, in_path, way_path, path_way, wider_path}

-- each event is a moment
length_put : (since v t : ℕ) (ms : List Moment) → length (put since v t ms) ≡ length ms
unfolding put
length_put since v t [] = refl
length_put zero v t (m ∷ ms) = refl
length_put (suc since) v t (m ∷ ms) = ap suc (length_put since v t ms)

pub length_moments : (es : List Event) → length (moments es) ≡ length es
unfolding moments
length_moments [] = refl
length_moments (e ∷ es) = by e.deed ∙ ap suc (length_moments es) where
  by : (deed : Deed) → length (moments_by e.ticks deed (moments es)) ≡ suc (length (moments es))
  by Shows = refl
  by Marks = refl
  by (Asks v) = refl
  by (Accepts v since lo hi) = ap suc (length_put since v hi (moments es))

-- A path is at each past moment in the span up to it, and in what is left on the way back from any span that has its end.
pub path_back : (r : Rules) (who : Faulty) (ms : List Moment) (k u : ℕ) (ts : List ℕ) (b : Span) → k < length ms → Path r who ms u ts → T (is_in u b) → T (is_in (get_or ts k 0) (through r who (drop k ms))) × T (is_in (get_or ts k 0) (back_through r who (take k ms) b))
unfolding back_through
path_back r who [] k u ts b l p i = absurd (omega arith)
path_back r who (m ∷ ms) k u [] b l p i = elim p [ ]
path_back r who (m ∷ ms) zero u (x ∷ ts) b l p i = (
  subst (λ y. T (is_in y (through r who (m ∷ ms)))) (sym p.0) (path_in r who (m ∷ ms) u (x ∷ ts) p),
  subst (λ y. T (is_in y b)) (sym p.0) i,
)
path_back r who (m ∷ ms) (suc k) u (x ∷ ts) b l p i =
    let before = p.1 in
    let cut = cut_all who m.claims b in
    path_back r who ms k before.0 ts (earlier r.drift m.ticks cut) (omega arith) before.1
    ((back_exact r.drift m.ticks cut).holds before.0 u (all_in who m.claims u b p.3 i) before.2)

-- A time in both is one of a path that ends in the span from which the way back began.
abbrev Back : Rules → Faulty → List Moment → ℕ → ℕ → Span → Type 0
Back r who ms k t b = (u : ℕ) × (ts : List ℕ) × Path r who ms u ts × (get_or ts k 0 ≡ t) × T (is_in u b)

pub back_path : (r : Rules) (who : Faulty) (ms : List Moment) (k t : ℕ) (b : Span) → k < length ms → ((x : ℕ) → T (is_in x b) → x ≤ ceiling) → T (is_in t (through r who (drop k ms))) → T (is_in t (back_through r who (take k ms) b)) → Back r who ms k t b
unfolding back_through
back_path r who [] k t b l top i j = absurd (omega arith)
back_path r who (m ∷ ms) zero t b l top i j = let p = in_path r who (m ∷ ms) t i in here p.0 p.1 where
  here : (ts : List ℕ) → Path r who (m ∷ ms) t ts → Back r who (m ∷ ms) 0 t b
  here [] p = elim p [ ]
  here (x ∷ ts) p = (t, x ∷ ts, p, p.0, j)
back_path r who (m ∷ ms) (suc k) t b l top i j =
    let cut = cut_all who m.claims b in
    let before = earlier r.drift m.ticks cut in
    let step : (x : ℕ) → T (is_in x before) → (u : ℕ) × T (is_in u cut) × Fits r.drift m.ticks x u = λ x h. (back_exact r.drift m.ticks cut).reaches x h in
    let low : (x : ℕ) → T (is_in x before) → x ≤ ceiling = λ x h.
    let s = step x h in
    let rise = fits_between r.drift m.ticks x s.0 s.2 in
    omega (arith, top s.0 (of_all who m.claims s.0 b s.1).1) in
    let w = back_path r who ms k t before (omega arith) low i j in
    let s = step w.0 w.4 in
    let met = of_all who m.claims s.0 b s.1 in
    (s.0, s.0 ∷ w.1, (refl, (w.0, w.2, s.2), top s.0 met.1, met.0), w.3, met.1)

-- the end of a path is not above the ceiling
path_top : (r : Rules) (who : Faulty) (ms : List Moment) (u : ℕ) (ts : List ℕ) → Path r who ms u ts → u ≤ ceiling
path_top r who [] u [] p = p.1
path_top r who [] u (x ∷ ts) p = elim p [ ]
path_top r who (m ∷ ms) u [] p = elim p [ ]
path_top r who (m ∷ ms) u (x ∷ ts) p = p.2

module _ (r : Rules) (who : Faulty) (es : List Event) (k : ℕ) (l : k < length es) where
  there : k < length (moments es)
  there = omega (arith, length_moments es)

  pub past_path : (t : ℕ) → T (is_in t (past_of r who k es)) → (u : ℕ) × (ts : List ℕ) × Path r who (moments es) u ts × (get_or ts k 0 ≡ t)
  past_path t i =
      let both = (meet_exact (through r who (drop k (moments es))) (back_through r who (take k (moments es)) (upto ceiling))).only t i in
      let w = back_path r who (moments es) k t (upto ceiling) there (λ x h. (of_upto ceiling x h).1) both.0 both.1 in
      (w.0, w.1, w.2, w.3)

  pub path_past : (t u : ℕ) (ts : List ℕ) → Path r who (moments es) u ts → get_or ts k 0 ≡ t → T (is_in t (past_of r who k es))
  path_past t u ts p e =
      let top = path_top r who (moments es) u ts p in
      let both = path_back r who (moments es) k u ts (upto ceiling) there p (in_upto ceiling u top top) in
      subst (λ x. T (is_in x (past_of r who k es))) e ((meet_exact (through r who (drop k (moments es))) (back_through r who (take k (moments es)) (upto ceiling))).kept (get_or ts k 0) both.0 both.1)

pub known_past_exact : KnownPastExact
known_past_exact r who es k l t = (
  λ i. let w = past_path r who es k l t i in (w.0, w.1, path_way r who es w.0 w.1 w.2, w.3),
  λ u ts w e. path_past r who es k l t u ts (way_path w) e,
)

pub more_faulty_past_wider : MoreFaultyPastWider
more_faulty_past_wider r few many more es k l t i =
    let w = past_path r few es k l t i in
    path_past r many es k l t w.0 w.1 (wider_path r few many more (moments es) w.0 w.1 w.2) w.3
