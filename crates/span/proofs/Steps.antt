-- A step through the drift and the cuts of a span are exact.
use Rattle.std.proofs.Common.{◌≡◌, ℕ, ◌+◌, ◌-◌, ◌^◌, ◌≤◌, min, max, T, refl, arith}
use Rattle.std.proofs.lemmas.Bool.Decides.{nat_tests}
use Rattle.span.specs.Rate.{Fits, Strides, least, most}
use Rattle.span.specs.Span.{is_in, moved, later, earlier, moved_back, upto, at_most, at_least, meet, span, ceiling}
use Rattle.span.specs.Exact.{StepExact, BackExact, CutExact}
use Rattle.span.specs.declared.Span.{Span}
use Rattle.span.specs.declared.Span.TheVariants.{Between, Empty}
use Rattle.span.proofs.Products.{least_ticks, ticks_most, fits_between, between_fits}

in_span : (t lo hi : ℕ) → lo ≤ t → t ≤ hi → T (is_in t (span lo hi))
in_span t lo hi h k = grind (arith, nat_tests)

of_span : (t lo hi : ℕ) → T (is_in t (span lo hi)) → (lo ≤ t) × (t ≤ hi)
of_span t lo hi h = grind (arith, nat_tests)

pub of_ends : (t lo hi : ℕ) → T (is_in t (Between lo hi)) → (lo ≤ t) × (t ≤ hi)
of_ends t lo hi h = grind (arith, nat_tests)

pub in_ends : (t lo hi : ℕ) → lo ≤ t → t ≤ hi → T (is_in t (Between lo hi))
in_ends t lo hi h k = grind (arith, nat_tests)

pub in_upto : (l t : ℕ) → t ≤ l → t ≤ ceiling → T (is_in t (upto l))
in_upto l t h k = grind (arith, nat_tests)

pub of_upto : (l t : ℕ) → T (is_in t (upto l)) → (t ≤ l) × (t ≤ ceiling)
of_upto l t h = grind (arith, nat_tests)

of_later : (d n u lo hi : ℕ) → T (is_in u (later d n (Between lo hi))) → (lo ≤ hi) × (lo + least d n ≤ u) × (u ≤ hi + most d n) × (u ≤ ceiling)
of_later d n u lo hi h = grind (arith, nat_tests)

in_later : (d n u lo hi : ℕ) → lo ≤ hi → lo + least d n ≤ u → u ≤ hi + most d n → u ≤ ceiling → T (is_in u (later d n (Between lo hi)))
in_later d n u lo hi a b c e = grind (arith, nat_tests)

reached : (d n u : ℕ) (s : Span) → T (is_in u (later d n s)) → (t : ℕ) × T (is_in t s) × Fits d n t u × (u ≤ ceiling)
reached d n u (Between lo hi) h =
    let f = of_later d n u lo hi h in
    let a = least_ticks d n in
    let b = ticks_most d n in
    (max lo (u - most d n), in_ends _ lo hi (omega arith) (omega arith), between_fits d n _ u (omega arith) (omega arith), f.3)
reached d n u Empty h = elim h [ ]

held : (d n t u : ℕ) (s : Span) → T (is_in t s) → Fits d n t u → u ≤ ceiling → T (is_in u (later d n s))
held d n t u (Between lo hi) h f c =
    let a = of_ends t lo hi h in
    let b = fits_between d n t u f in
    in_later d n u lo hi (omega arith) (omega arith) (omega arith) c
held d n t u Empty h f c = elim h [ ]

pub step_exact : (d n : ℕ) (s : Span) → StepExact d n s (later d n s)
step_exact d n s = record { reached = λ u h. reached d n u s h; holds = λ t u h f c. held d n t u s h f c }

-- the lower end, held below the largest number, gives the same span
pub moved_held : (lo hi a e l h : ℕ) → lo ≤ hi → l ≡ min (lo + a) (2 ^ 64 - 1) → h ≡ min (min (hi + e) (2 ^ 64 - 1)) ceiling → span l h ≡ moved a e (Between lo hi)
moved_held lo hi a e l h o p q = grind (arith, nat_tests)

-- and so does the most that true time goes on
pub stride_later : (d n a e : ℕ) (s : Span) → Strides d n a e → moved a e s ≡ later d n s
stride_later d n a e (Between lo hi) k = same lo hi (least d n) (most d n) a e k.low_is k.high_is where
  same : (lo hi least most a e : ℕ) → a ≡ least → e ≡ min most (2 ^ 64 - 1) → moved a e (Between lo hi) ≡ moved least most (Between lo hi)
  same lo hi least most a e p q = grind (arith, nat_tests)
stride_later d n a e Empty k = refl

-- The step back is the inverse of the step on.
of_earlier : (d n t lo hi : ℕ) → T (is_in t (earlier d n (Between lo hi))) → (lo ≤ hi) × (lo ≤ t + most d n) × (t + least d n ≤ hi)
of_earlier d n t lo hi h = grind (arith, nat_tests)

in_earlier : (d n t lo hi : ℕ) → lo ≤ hi → lo ≤ t + most d n → t + least d n ≤ hi → T (is_in t (earlier d n (Between lo hi)))
in_earlier d n t lo hi a b c = grind (arith, nat_tests)

reaches : (d n t : ℕ) (s : Span) → T (is_in t (earlier d n s)) → (u : ℕ) × T (is_in u s) × Fits d n t u
reaches d n t (Between lo hi) h =
    let f = of_earlier d n t lo hi h in
    let a = least_ticks d n in
    let b = ticks_most d n in
    (max lo (t + least d n), in_ends _ lo hi (omega arith) (omega arith), between_fits d n t _ (omega arith) (omega arith))
reaches d n t Empty h = elim h [ ]

left_back : (d n t u : ℕ) (s : Span) → T (is_in u s) → Fits d n t u → T (is_in t (earlier d n s))
left_back d n t u (Between lo hi) h f =
    let a = of_ends u lo hi h in
    let b = fits_between d n t u f in
    in_earlier d n t lo hi (omega arith) (omega arith) (omega arith)
left_back d n t u Empty h f = elim h [ ]

pub back_exact : (d n : ℕ) (s : Span) → BackExact d n s (earlier d n s)
back_exact d n s = record { reaches = λ t h. reaches d n t s h; holds = λ t u h f. left_back d n t u s h f }

-- the most, held below the largest number, gives the same span
pub back_held : (d n lo hi a e l h : ℕ) → Strides d n a e → lo ≤ 2 ^ 64 - 1 → lo ≤ hi → a ≤ hi → l ≡ lo - e → h ≡ hi - a → span l h ≡ earlier d n (Between lo hi)
back_held d n lo hi a e l h k f o b p q = same (least d n) (most d n) k.low_is k.high_is where
  same : (low high : ℕ) → a ≡ low → e ≡ min high (2 ^ 64 - 1) → span l h ≡ moved_back low high (Between lo hi)
  same low high u v = grind (arith, nat_tests)

at_most_only : (u t lo hi : ℕ) → T (is_in t (at_most u (Between lo hi))) → T (is_in t (Between lo hi)) × (t ≤ u)
at_most_only u t lo hi h = let f = of_span t lo (min hi u) h in (in_ends t lo hi (omega arith) (omega arith), omega arith)

at_least_only : (u t lo hi : ℕ) → T (is_in t (at_least u (Between lo hi))) → T (is_in t (Between lo hi)) × (u ≤ t)
at_least_only u t lo hi h = let f = of_span t (max lo u) hi h in (in_ends t lo hi (omega arith) (omega arith), omega arith)

pub at_most_exact : (u : ℕ) (s : Span) → CutExact (λ t. t ≤ u) s (at_most u s)
at_most_exact u (Between lo hi) = record {
  kept = λ t h k. let f = of_ends t lo hi h in in_span t lo (min hi u) (omega arith) (omega arith);
  only = λ t h. at_most_only u t lo hi h;
}
at_most_exact u Empty = record { kept = λ t h k. h; only = λ t h. elim h [ ] }

pub at_least_exact : (u : ℕ) (s : Span) → CutExact (λ t. u ≤ t) s (at_least u s)
at_least_exact u (Between lo hi) = record {
  kept = λ t h k. let f = of_ends t lo hi h in in_span t (max lo u) hi (omega arith) (omega arith);
  only = λ t h. at_least_only u t lo hi h;
}
at_least_exact u Empty = record { kept = λ t h k. h; only = λ t h. elim h [ ] }

in_both : (t lo hi from to : ℕ) → T (is_in t (Between lo hi)) → T (is_in t (Between from to)) → T (is_in t (meet (Between lo hi) (Between from to)))
in_both t lo hi from to h k =
    let f = of_ends t lo hi h in
    let g = of_ends t from to k in
    in_span t (max lo from) (min hi to) (omega arith) (omega arith)

of_both : (t lo hi from to : ℕ) → T (is_in t (meet (Between lo hi) (Between from to))) → T (is_in t (Between lo hi)) × T (is_in t (Between from to))
of_both t lo hi from to h =
    let f = of_span t (max lo from) (min hi to) h in
    (in_ends t lo hi (omega arith) (omega arith), in_ends t from to (omega arith) (omega arith))

pub meet_exact : (s o : Span) → CutExact (λ t. T (is_in t o)) s (meet s o)
meet_exact (Between lo hi) (Between from to) = record { kept = λ t h k. in_both t lo hi from to h k; only = λ t h. of_both t lo hi from to h }
meet_exact (Between lo hi) Empty = record { kept = λ t h k. k; only = λ t h. elim h [ ] }
meet_exact Empty o = record { kept = λ t h k. h; only = λ t h. elim h [ ] }
