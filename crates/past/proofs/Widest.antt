-- The least and the greatest over all spans of a row.
use Rattle.std.proofs.Common.{◌≡◌, ℕ, zero, suc, ◌<◌, ◌≤◌, min, max, Bool, true, false, cond, T, leb, ◌⊎◌, List, [], ◌∷◌, length, get_or, Some, None, Option, sym, refl, subst, inl, inr, ⊎_elim, arith}
use Rattle.std.proofs.lemmas.Bool.{cases_lt}
use Rattle.std.proofs.lemmas.Bool.Decides.{nat_tests}
use Rattle.span.specs.declared.Span.{Span}
use Rattle.span.specs.declared.Span.TheVariants.{Between, Empty}
use Rattle.span.specs.Span.{is_in, span, meet}
use Rattle.span.proofs.Steps.{of_ends, in_ends}
use Rattle.choice.specs.Row.{row_of}
use Rattle.choice.proofs.Rows.{Kept}
use Rattle.past.specs.Event.{wider, said_by, LeastAndGreatest, Within}

-- a span that is kept by its ends has them in order
abbrev pub InOrder : Span → Type 0
InOrder (Between lo hi) = lo ≤ hi
InOrder Empty = Unit {0}

span_order : (lo hi : ℕ) → InOrder (span lo hi)
span_order lo hi = go (leb lo hi) refl where
  go : (b : Bool) → leb lo hi ≡ b → InOrder (cond b (Between lo hi) Empty)
  go true e = grind (arith, nat_tests)
  go false e = tt

pub meet_order : (s o : Span) → InOrder (meet s o)
meet_order (Between lo hi) (Between from to) = span_order (max lo from) (min hi to)
meet_order (Between lo hi) Empty = tt
meet_order Empty o = tt

-- the same bounds by another word for the same times
pub bounds_same : (P Q : ℕ → Type 0) → ((t : ℕ) → P t → Q t) → ((t : ℕ) → Q t → P t) → (said : Option (ℕ × ℕ)) → LeastAndGreatest P said → LeastAndGreatest Q said
bounds_same P Q to from None b = λ t q. b t (from t q)
bounds_same P Q to from (Some e) b = (to e.0 b.0, to e.1 b.1, λ t q. b.2 t (from t q))

-- a span more
abbrev Or : (ℕ → Type 0) → Span → ℕ → Type 0
Or P s t = P t ⊎ T (is_in t s)

lower : (P : ℕ → Type 0) (a lo hi : ℕ) → P a → lo ≤ hi → Or P (Between lo hi) (min a lo)
lower P a lo hi p o =
    ⊎_elim
    (λ h. let e : a ≡ min a lo = omega arith in inl (subst P e p))
    (λ h. inr (in_ends (min a lo) lo hi (omega arith) (omega arith)))
    (cases_lt a lo)

upper : (P : ℕ → Type 0) (b lo hi : ℕ) → P b → lo ≤ hi → Or P (Between lo hi) (max b hi)
upper P b lo hi p o =
    ⊎_elim
    (λ h. let e : b ≡ max b hi = omega arith in inl (subst P e p))
    (λ h. inr (in_ends (max b hi) lo hi (omega arith) (omega arith)))
    (cases_lt hi b)

bounds_wider : (P : ℕ → Type 0) (said : Option (ℕ × ℕ)) (s : Span) → InOrder s → LeastAndGreatest P said → LeastAndGreatest (Or P s) (wider said s)
bounds_wider P said Empty o b = bounds_same P (Or P Empty) (λ t p. inl p) (λ t. ⊎_elim (λ p. p) (λ i. elim i [ ])) said b
bounds_wider P None (Between lo hi) o b = (
  inr (in_ends lo lo hi (omega arith) o),
  inr (in_ends hi lo hi o (omega arith)),
  λ t. ⊎_elim (λ p. absurd (b t p)) (λ i. of_ends t lo hi i),
)
bounds_wider P (Some e) (Between lo hi) o b = (
  lower P e.0 lo hi b.0 o,
  upper P e.1 lo hi b.1 o,
  λ t. ⊎_elim
      (λ p. let k = b.2 t p in (omega arith, omega arith))
      (λ i. let k = of_ends t lo hi i in (omega arith, omega arith)),
)

-- all spans of some choices
abbrev pub InSome : (ℕ → Span) → List ℕ → ℕ → Type 0
InSome g cs t = (k : ℕ) × (k < length cs) × T (is_in t (g (get_or cs k 0)))

bounds_row : (P : ℕ → Type 0) (f : ℕ → Span → Span) (g : ℕ → Span) → ((c : ℕ) → Kept (g c)) → ((c : ℕ) → InOrder (f c (g c))) → (cs : List ℕ) (said : Option (ℕ × ℕ)) → LeastAndGreatest P said → LeastAndGreatest (λ t. P t ⊎ InSome (λ c. f c (g c)) cs t) (said_by f said (row_of g cs))
bounds_row P f g kept order [] said b = bounds_same P (λ t. P t ⊎ InSome (λ c. f c (g c)) [] t) (λ t p. inl p) (λ t. ⊎_elim (λ p. p) (λ i. let l = i.1 in absurd (omega arith))) said b
bounds_row P f g kept order (c ∷ cs) said b =
    let h : ℕ → Span = λ c. f c (g c) in
    let one : LeastAndGreatest (Or P (h c)) (wider said (h c)) = bounds_wider P said (h c) (order c) b in
    let all : LeastAndGreatest (λ t. Or P (h c) t ⊎ InSome h cs t) (said_by f (wider said (h c)) (row_of g cs)) = bounds_row (Or P (h c)) f g kept order cs (wider said (h c)) one in
    let joined : LeastAndGreatest (λ t. P t ⊎ InSome h (c ∷ cs) t) (said_by f (wider said (h c)) (row_of g cs)) =
    bounds_same (λ t. Or P (h c) t ⊎ InSome h cs t) (λ t. P t ⊎ InSome h (c ∷ cs) t)
    (λ t. ⊎_elim (⊎_elim (λ p. inl p) (λ i. inr (0, omega arith, i))) (λ i. inr (suc i.0, omega (arith, i.1), i.2)))
    (λ t. ⊎_elim (λ p. inl (inl p)) (λ i. back t i.0 i.1 i.2))
    _ all in
    subst (λ s. LeastAndGreatest (λ t. P t ⊎ InSome h (c ∷ cs) t) (said_by f (wider said (f c s)) (row_of g cs))) (sym (kept c)) joined
  where
    back : (t k : ℕ) → k < length (c ∷ cs) → T (is_in t (f (get_or (c ∷ cs) k 0) (g (get_or (c ∷ cs) k 0)))) → Or P (f c (g c)) t ⊎ InSome (λ c. f c (g c)) cs t
    back t zero l i = inl (inr i)
    back t (suc k) l i = inr (k, omega arith, i)

-- the least and the greatest over all choices are those of all times that some choice has
pub bounds_all : (f : ℕ → Span → Span) (g : ℕ → Span) → ((c : ℕ) → Kept (g c)) → ((c : ℕ) → InOrder (f c (g c))) → (cs : List ℕ) → LeastAndGreatest (InSome (λ c. f c (g c)) cs) (said_by f None (row_of g cs))
bounds_all f g kept order cs =
    bounds_same (λ t. ⊥ ⊎ InSome (λ c. f c (g c)) cs t) (InSome (λ c. f c (g c)) cs) (λ t. ⊎_elim (λ p. absurd p) (λ i. i)) (λ t i. inr i) _
    (bounds_row (λ t. ⊥) f g kept order cs None (λ t p. p))

-- fewer times have a least and a greatest within those of more
pub fewer_within : (P Q : ℕ → Type 0) → ((t : ℕ) → Q t → P t) → (before after : Option (ℕ × ℕ)) → LeastAndGreatest P before → LeastAndGreatest Q after → Within after before
fewer_within P Q from before None p q = tt
fewer_within P Q from None (Some b) p q = p b.0 (from b.0 q.0)
fewer_within P Q from (Some a) (Some b) p q = ((p.2 b.0 (from b.0 q.0)).0, (p.2 b.1 (from b.1 q.1)).1)
