-- Gathering spans and joining runs, step by step; and what joined runs hold.
use Rattle.std.proofs.Common.{◌≡◌, ℕ, suc, ◌+◌, ◌-◌, ◌<◌, ◌≤◌, max, Bool, true, false, cond, ◌&&◌, ◌||◌, leb, List, [], ◌∷◌, ◌++◌, filter, map, length, get_or, take, drop, set, Some, None, Option, ◌==◌, sym, refl, ap, ◌∙◌, subst, ap₂, ⊎_elim, append_assoc, append-nil, arith}
use Rattle.std.proofs.lemmas.List.{drop_all, take_more_set, drop-set-lt, at_drop_more}
use Rattle.std.proofs.lemmas.Bool.{le-leb, lt-leb, ne_eqb, leb-true, leb-false, both_ways, and_parts, or_cases, or_left, or_right}
use Rattle.std.proofs.lemmas.Bool.Decides.{nat_tests}
use Rattle.span.specs.declared.Span.TheVariants.{Between, Empty}
use Rattle.span.specs.Span.{is_in}
use Rattle.choice.specs.Row.{any_span}
use Rattle.choice.specs.declared.case.Case.{Case}
use Rattle.choice.specs.declared.runs.Run.{Run}
use Rattle.choice.specs.Runs.{in_run, in_runs, joined_to, joined, run_in, runs_in, Apart, Bounds, bounds_of, Ordered}

abbrev pub none : Run
none = record { lo = 0; hi = 0 }

abbrev pub no_case : Case
no_case = record { choice = 0; lo = 0; hi = 0 }

abbrev has_run : Case → Bool
has_run k = leb k.lo k.hi

pub gather_put : (k n : ℕ) (row : List Case) (room : List Run) → k < length row → n < length room → (get_or row k no_case).lo ≤ (get_or row k no_case).hi → take (n + 1) (set room n (run_in (get_or row k no_case))) ++ runs_in (drop (k + 1) row) ≡ take n room ++ runs_in (drop k row)
gather_put k n row room h l o =
    let here = get_or row k no_case in
    let rest = filter has_run (drop (k + 1) row) in
    ap (λ x. x ++ map run_in rest) (take_more_set room n (run_in here) l)
    ∙ append_assoc (take n room) (run_in here ∷ []) (map run_in rest)
    ∙ ap (λ x. take n room ++ x) (sym (at_drop_more runs_in row k no_case h ∙ ap (λ b. map run_in (cond b (here ∷ rest) rest)) (le-leb here.lo here.hi o)))

pub gather_skip : (k : ℕ) (row : List Case) → k < length row → (get_or row k no_case).hi < (get_or row k no_case).lo → runs_in (drop (k + 1) row) ≡ runs_in (drop k row)
gather_skip k row h o =
    let here = get_or row k no_case in
    let rest = filter has_run (drop (k + 1) row) in
    sym (at_drop_more runs_in row k no_case h ∙ ap (λ b. map run_in (cond b (here ∷ rest) rest)) (lt-leb here.lo here.hi o))

pub gather_end : (k n : ℕ) (row : List Case) (room : List Run) → length row ≤ k → take n room ++ runs_in (drop k row) ≡ take n room
gather_end k n row room h = ap (λ l. take n room ++ runs_in l) (drop_all k row h) ∙ append-nil (take n room)

pub join_starts : (rs : List Run) → 0 < length rs → joined_to (get_or rs 0 none) (drop 1 rs) ≡ joined rs
unfolding joined
join_starts [] h = absurd (omega arith)
join_starts (r ∷ rs) h = refl

pub join_closes : (n i : ℕ) (rs : List Run) (wide : Run) → n < i → i < length rs → 1 < (get_or rs i none).lo - wide.hi → take (n + 1) (set rs n wide) ++ joined_to (get_or rs i none) (drop (i + 1) (set rs n wide)) ≡ take n rs ++ joined_to wide (drop i rs)
unfolding joined_to
join_closes n i rs wide h l apart =
    let next = get_or rs i none in
    ap₂ (λ x y. x ++ joined_to next y) (take_more_set rs n wide (omega arith)) (drop-set-lt (i + 1) rs n wide (omega arith))
    ∙ append_assoc (take n rs) (wide ∷ []) (joined_to next (drop (i + 1) rs))
    ∙ ap (λ x. take n rs ++ x) (sym (at_drop_more (joined_to wide) rs i none l ∙ ap (λ b. cond b (joined_to (record { lo = wide.lo; hi = max wide.hi next.hi }) (drop (i + 1) rs)) (wide ∷ joined_to next (drop (i + 1) rs))) (lt-leb (next.lo - wide.hi) 1 apart)))

pub join_grows : (n i : ℕ) (rs : List Run) (wide : Run) → i < length rs → (get_or rs i none).lo - wide.hi ≤ 1 → take n rs ++ joined_to (record { lo = wide.lo; hi = max wide.hi (get_or rs i none).hi }) (drop (i + 1) rs) ≡ take n rs ++ joined_to wide (drop i rs)
unfolding joined_to
join_grows n i rs wide l beside =
    let next = get_or rs i none in
    ap (λ x. take n rs ++ x) (sym (at_drop_more (joined_to wide) rs i none l ∙ ap (λ b. cond b (joined_to (record { lo = wide.lo; hi = max wide.hi next.hi }) (drop (i + 1) rs)) (wide ∷ joined_to next (drop (i + 1) rs))) (le-leb (next.lo - wide.hi) 1 beside)))

pub join_ends : (n i : ℕ) (rs : List Run) (wide : Run) → n < length rs → length rs ≤ i → take (n + 1) (set rs n wide) ≡ take n rs ++ joined_to wide (drop i rs)
unfolding joined_to
join_ends n i rs wide h l = take_more_set rs n wide h ∙ ap (λ x. take n rs ++ x) (sym (ap (joined_to wide) (drop_all i rs l)))

-- What joined runs hold: just what the runs held, if those were in order.
abbrev pub LowFrom : ℕ → List Run → Type 0
LowFrom b [] = Unit {0}
LowFrom b (r ∷ rs) = (b ≤ r.lo) × (r.lo ≤ r.hi) × LowFrom r.lo rs

lower : (b c : ℕ) (rs : List Run) → c ≤ b → LowFrom b rs → LowFrom c rs
lower b c [] l h = tt
lower b c (q ∷ qs) l h = (omega (arith, h.0), h.1, h.2)

or_assoc : (a b c : Bool) → ((a || b) || c) ≡ (a || (b || c))
or_assoc true b c = refl
or_assoc false b c = refl

two_in_one : (t : ℕ) (r s : Run) → r.lo ≤ r.hi → s.lo ≤ s.hi → r.lo ≤ s.lo → s.lo - r.hi ≤ 1 → in_run t (record { lo = r.lo; hi = max r.hi s.hi }) ≡ (in_run t r || in_run t s)
two_in_one t r s a b c d = go r.lo r.hi s.lo s.hi a b c d where
  go : (x y u v : ℕ) → x ≤ y → u ≤ v → x ≤ u → u - y ≤ 1 → (leb x t && leb t (max y v)) ≡ ((leb x t && leb t y) || (leb u t && leb t v))
  go x y u v a b c d = grind (arith, nat_tests)

pub joined_same : (t : ℕ) (r : Run) (rs : List Run) → r.lo ≤ r.hi → LowFrom r.lo rs → in_runs t (joined_to r rs) ≡ (in_run t r || in_runs t rs)
unfolding joined_to
joined_same t r [] o h = refl
joined_same t r (s ∷ ss) o h = go (leb (s.lo - r.hi) 1) refl (joined_same t (record { lo = r.lo; hi = max r.hi s.hi }) ss (omega arith) (lower s.lo r.lo ss h.0 h.2)) (joined_same t s ss h.1 h.2) where
  go : (b : Bool) → leb (s.lo - r.hi) 1 ≡ b → in_runs t (joined_to (record { lo = r.lo; hi = max r.hi s.hi }) ss) ≡ (in_run t (record { lo = r.lo; hi = max r.hi s.hi }) || in_runs t ss) → in_runs t (joined_to s ss) ≡ (in_run t s || in_runs t ss) → in_runs t (cond b (joined_to (record { lo = r.lo; hi = max r.hi s.hi }) ss) (r ∷ joined_to s ss)) ≡ (in_run t r || (in_run t s || in_runs t ss))
  go true e one two = one ∙ ap (λ b. b || in_runs t ss) (two_in_one t r s o h.1 h.0 (leb-true _ 1 e)) ∙ or_assoc (in_run t r) (in_run t s) (in_runs t ss)
  go false e one two = ap (λ b. in_run t r || b) two

pub joined_apart : (b : ℕ) (r : Run) (rs : List Run) → b ≤ r.lo → r.lo ≤ r.hi → LowFrom r.lo rs → Apart b (joined_to r rs)
unfolding joined_to Apart
joined_apart b r [] l o h = (l, o, tt)
joined_apart b r (s ∷ ss) l o h = go (leb (s.lo - r.hi) 1) refl (joined_apart b (record { lo = r.lo; hi = max r.hi s.hi }) ss l (omega arith) (lower s.lo r.lo ss h.0 h.2)) (λ c k. joined_apart c s ss k h.1 h.2) where
  go : (a : Bool) → leb (s.lo - r.hi) 1 ≡ a → Apart b (joined_to (record { lo = r.lo; hi = max r.hi s.hi }) ss) → ((c : ℕ) → c ≤ s.lo → Apart c (joined_to s ss)) → Apart b (cond a (joined_to (record { lo = r.lo; hi = max r.hi s.hi }) ss) (r ∷ joined_to s ss))
  go true e one two = one
  go false e one two = (l, o, two (r.hi + 2) (omega (arith, leb-false _ 1 e)))

-- The spans of a row that have times hold what its spans hold.
pub runs_ordered : (row : List Case) → Ordered (runs_in row)
runs_ordered [] = tt
runs_ordered (k ∷ row) = go (has_run k) refl (runs_ordered row) where
  go : (b : Bool) → has_run k ≡ b → Ordered (runs_in row) → Ordered (map run_in (cond b (k ∷ filter has_run row) (filter has_run row)))
  go true e h = (leb-true k.lo k.hi e, h)
  go false e h = h

pub runs_any : (t : ℕ) (row : List Case) → in_runs t (runs_in row) ≡ any_span (is_in t) row
runs_any t [] = refl
runs_any t (k ∷ row) = go (has_run k) (runs_any t row) where
  go : (b : Bool) → in_runs t (runs_in row) ≡ any_span (is_in t) row → in_runs t (map run_in (cond b (k ∷ filter has_run row) (filter has_run row))) ≡ (is_in t (cond b (Between k.lo k.hi) Empty) || any_span (is_in t) row)
  go true h = ap (λ x. (leb k.lo t && leb t k.hi) || x) h
  go false h = h

pub runs_few : (row : List Case) → length (runs_in row) ≤ length row
runs_few [] = omega arith
runs_few (k ∷ row) = go (has_run k) (runs_few row) where
  go : (b : Bool) → length (runs_in row) ≤ length row → length (map run_in (cond b (k ∷ filter has_run row) (filter has_run row))) ≤ suc (length row)
  go true h = omega arith
  go false h = omega arith

-- The ends of runs that are apart bound all that they hold.
abbrev last_high : Run → List Run → ℕ
last_high r [] = r.hi
last_high r (s ∷ ss) = last_high s ss

last_is : (r : Run) (rs : List Run) → (get_or (r ∷ rs) (length rs) none).hi ≡ last_high r rs
last_is r [] = refl
last_is r (s ∷ ss) = last_is s ss

last_high_lem : (b : ℕ) (r : Run) (rs : List Run) → Apart b (r ∷ rs) → r.hi ≤ last_high r rs
unfolding Apart
last_high_lem b r [] a = omega arith
last_high_lem b r (s ∷ ss) a = omega (arith, last_high_lem (r.hi + 2) s ss a.2, a.2.0, a.2.1)

ends_in : (r : Run) → r.lo ≤ r.hi → (in_run r.lo r ≡ true) × (in_run r.hi r ≡ true)
ends_in r h = ((go r.lo r.hi h).0, (go r.lo r.hi h).1) where
  go : (x y : ℕ) → x ≤ y → ((leb x x && leb x y) ≡ true) × ((leb x y && leb y y) ≡ true)
  go x y h = (grind (arith, nat_tests), grind (arith, nat_tests))

last_in : (b : ℕ) (r : Run) (rs : List Run) → Apart b (r ∷ rs) → in_runs (last_high r rs) (r ∷ rs) ≡ true
unfolding Apart
last_in b r [] a = or_left (in_run r.hi r) false (ends_in r a.1).1
last_in b r (s ∷ ss) a = or_right (in_run (last_high s ss) r) (in_runs (last_high s ss) (s ∷ ss)) (last_in (r.hi + 2) s ss a.2)

in_run_lem : (t : ℕ) (r : Run) → in_run t r ≡ true → (r.lo ≤ t) × (t ≤ r.hi)
in_run_lem t r h = let p = and_parts (leb r.lo t) (leb t r.hi) h in (leb-true _ _ p.0, leb-true _ _ p.1)

all_within : (b : ℕ) (r : Run) (rs : List Run) → Apart b (r ∷ rs) → (t : ℕ) → in_runs t (r ∷ rs) ≡ true → (r.lo ≤ t) × (t ≤ last_high r rs)
unfolding Apart
all_within b r [] a t h = ⊎_elim (λ e. in_run_lem t r e) (λ e. absurd (both_ways false refl e)) (or_cases (in_run t r) false h)
all_within b r (s ∷ ss) a t h =
    ⊎_elim
    (λ e. let i = in_run_lem t r e in (i.0, omega (arith, i.1, last_high_lem b r (s ∷ ss) a)))
    (λ e. let i = all_within (r.hi + 2) s ss a.2 t e in (omega (arith, i.0, a.1, a.2.0), i.1))
    (or_cases (in_run t r) (in_runs t (s ∷ ss)) h)

pub some_bounds : (rs : List Run) → Apart 0 rs → 0 < length rs → Bounds rs (Some ((get_or rs 0 none).lo, (get_or rs (length rs - 1) none).hi))
unfolding Apart
some_bounds [] a h = absurd (omega arith)
some_bounds (r ∷ rs) a h =
    let e : (get_or (r ∷ rs) (suc (length rs) - 1) none).hi ≡ last_high r rs = ap (λ i. (get_or (r ∷ rs) i none).hi) (omega arith) ∙ last_is r rs in (
      or_left (in_run r.lo r) (in_runs r.lo rs) (ends_in r a.1).0,
      ap (λ x. in_runs x (r ∷ rs)) e ∙ last_in 0 r rs a,
      λ t k. let w = all_within 0 r rs a t k in (w.0, subst (λ x. t ≤ x) (sym e) w.1),
    )

pub bounds_exact : (rs : List Run) (b : Option (ℕ × ℕ)) → b ≡ bounds_of rs → Apart 0 rs → Bounds rs b
bounds_exact rs b e a = subst (Bounds rs) (sym e) (go rs a) where
  go : (rs : List Run) → Apart 0 rs → Bounds rs (bounds_of rs)
  go [] a = λ t h. both_ways false refl h
  go (r ∷ rs) a =
      let some : (length (r ∷ rs) == 0) ≡ false = ne_eqb (length (r ∷ rs)) 0 (λ e. omega arith) in
      subst (λ b. Bounds (r ∷ rs) (cond b None (Some ((get_or (r ∷ rs) 0 none).lo, (get_or (r ∷ rs) (length (r ∷ rs) - 1) none).hi)))) (sym some) (some_bounds (r ∷ rs) a (omega arith))
