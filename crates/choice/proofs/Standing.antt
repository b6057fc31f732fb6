-- What is read off a row that stands for a run is exact.
use Rattle.std.proofs.Common.{◌≡◌, ℕ, zero, suc, ◌^◌, ◌<◌, Bool, true, false, ◌||◌, T, List, [], ◌∷◌, length, get_or, Decides, sym, refl, ap, ◌∙◌, subst, ⊎_elim, arith}
use Rattle.std.proofs.lemmas.Bool.{both_ways, or_cases, or_left, or_right, and_parts, and_from, not-true, not_from_false}
use Rattle.span.specs.declared.Span.{Span}
use Rattle.span.specs.World.{Rules, Event, World}
use Rattle.span.specs.Span.{is_in, holds_none}
use Rattle.span.specs.Model.{moments, span_of}
use Rattle.choice.specs.Choice.{bit, Allowed, choice_of}
use Rattle.choice.specs.Promise.{Full, FaultyInAll, NoWorld}
use Rattle.choice.specs.Row.{case_of, choices_in, over_row, span_in, row_of, row_through, any_span, has_times, named_by}
use Rattle.choice.specs.declared.case.Case.{Case}
use Rattle.choice.specs.Stands.{AllFull, Stands, MayExact, LeftExact, NamedExact, NamesExact}
use Rattle.choice.proofs.Bits.{bit_there, choice_below, choice_bit}
use Rattle.choice.proofs.Whole.{has_some, some_has, world_may, choice_world, exact_over_all}
use Rattle.choice.proofs.Fuller.{full_say}
use Rattle.choice.proofs.Rows.{Kept, kept_through}

told : (b : Bool) → T b → b ≡ true
told true h = refl
told false h = elim h [ ]

holds : (b : Bool) → b ≡ true → T b
holds true h = tt
holds false h = absurd (both_ways true (sym h) refl)

module _ (f : ℕ → Span) (kept : (c : ℕ) → Kept (f c)) where
  -- some span of a row passes a test exactly if that of some choice does
  any_of : (p : Span → Bool) (cs : List ℕ) → any_span p (row_of f cs) ≡ true → (k : ℕ) × (k < length cs) × (p (f (get_or cs k 0)) ≡ true)
  any_of p [] h = absurd (both_ways false refl h)
  any_of p (c ∷ cs) h =
      ⊎_elim
      (λ here. (0, omega arith, ap p (sym (kept c)) ∙ here))
      (λ later. let r = any_of p cs later in (suc r.0, omega (arith, r.1), r.2))
      (or_cases (p (span_in (case_of c (f c)))) (any_span p (row_of f cs)) h)

  of_any : (p : Span → Bool) (cs : List ℕ) (k : ℕ) → k < length cs → p (f (get_or cs k 0)) ≡ true → any_span p (row_of f cs) ≡ true
  of_any p [] k h e = absurd (omega arith)
  of_any p (c ∷ cs) zero h e = or_left (p (span_in (case_of c (f c)))) (any_span p (row_of f cs)) (ap p (kept c) ∙ e)
  of_any p (c ∷ cs) (suc k) h e = or_right (p (span_in (case_of c (f c)))) (any_span p (row_of f cs)) (of_any p cs k (omega arith) e)

  -- and so for servers that are named
  named_of : (v : ℕ) (cs : List ℕ) → named_by v (row_of f cs) ≡ true → (k : ℕ) → k < length cs → holds_none (f (get_or cs k 0)) ≡ false → bit (get_or cs k 0) v ≡ true
  named_of v [] h k l e = absurd (omega arith)
  named_of v (c ∷ cs) h zero l e =
      ⊎_elim
      (λ faulty. faulty)
      (λ none. absurd (both_ways (holds_none (f c)) e (ap holds_none (sym (kept c)) ∙ none)))
      (or_cases (bit c v) (holds_none (span_in (case_of c (f c)))) (and_parts (bit c v || holds_none (span_in (case_of c (f c)))) (named_by v (row_of f cs)) h).0)
  named_of v (c ∷ cs) h (suc k) l e = named_of v cs (and_parts (bit c v || holds_none (span_in (case_of c (f c)))) (named_by v (row_of f cs)) h).1 k (omega arith) e

  of_named : (v : ℕ) (cs : List ℕ) → ((k : ℕ) → k < length cs → holds_none (f (get_or cs k 0)) ≡ false → bit (get_or cs k 0) v ≡ true) → named_by v (row_of f cs) ≡ true
  of_named v [] h = refl
  of_named v (c ∷ cs) h =
      and_from (bit c v || holds_none (span_in (case_of c (f c)))) (named_by v (row_of f cs))
      (here (holds_none (f c)) refl)
      (of_named v cs (λ k l e. h (suc k) (omega arith) e))
    where
      here : (b : Bool) → holds_none (f c) ≡ b → (bit c v || holds_none (span_in (case_of c (f c)))) ≡ true
      here true e = or_right (bit c v) (holds_none (span_in (case_of c (f c)))) (ap holds_none (kept c) ∙ e)
      here false e = or_left (bit c v) (holds_none (span_in (case_of c (f c)))) (h 0 (omega arith) e)

-- the choices of the row of some choices are these; so a row that has the spans of all choices stands for the run
pub choices_row : (f : ℕ → Span) (cs : List ℕ) → choices_in (row_of f cs) ≡ cs
choices_row f [] = refl
choices_row f (c ∷ cs) = ap (λ l. c ∷ l) (choices_row f cs)

pub stands_by : (r : Rules) (es : List Event) (cs : List ℕ) (row : List Case) → AllFull r cs → row ≡ row_through r (moments es) cs → Stands r es row
stands_by r es cs row a e =
    let same : choices_in row ≡ cs = ap choices_in e ∙ choices_row (λ c. span_of r (bit c) es) cs in
    record { choices = subst (AllFull r) (sym same) a; spans = e ∙ ap (row_through r (moments es)) (sym same) }

-- a full choice is allowed
full_allowed : (r : Rules) (c : ℕ) → Full r c → Allowed r c
full_allowed r c h = record { there = h.there; few = omega (arith, h.many) }

module _ (r : Rules) (es : List Event) (row : List Case) (s : Stands r es row) where
  abbrev cs : List ℕ
  cs = choices_in row

  kept_each : (c : ℕ) → Kept (span_of r (bit c) es)
  kept_each c = kept_through r (bit c) (moments es)

  -- some choice's span passes a test
  pub any_choice : (p : Span → Bool) → any_span p row ≡ true → (c : ℕ) × Full r c × (p (span_of r (bit c) es) ≡ true)
  any_choice p h =
      let k = any_of (λ c. span_of r (bit c) es) kept_each p cs (ap (any_span p) (sym s.spans) ∙ h) in
      (get_or cs k.0 0, s.choices.full k.0 k.1, k.2)

  pub choice_any : (p : Span → Bool) (c : ℕ) → Full r c → p (span_of r (bit c) es) ≡ true → any_span p row ≡ true
  choice_any p c h e =
      let k = s.choices.all c h in
      ap (any_span p) s.spans ∙ of_any (λ c. span_of r (bit c) es) kept_each p cs k.0 k.1 (ap (λ c. p (span_of r (bit c) es)) k.2 ∙ e)

  pub may_row : (t : ℕ) → Decides (any_span (is_in t) row) (World r es t)
  may_row t = (
    λ h. let c = any_choice (is_in t) h in choice_world r es t c.0 (full_allowed r c.0 c.1) (holds _ c.2),
    λ w. let c = (full_say r s.choices.fewer es).times t (world_may r es t w) in choice_any (is_in t) c.0 c.1 (told _ c.2),
  )

  pub left_row : (any_span has_times row ≡ true → (t : ℕ) × World r es t) × (any_span has_times row ≡ false → NoWorld r es)
  left_row = (
    λ h.
        let c = any_choice has_times h in
        let t = some_has (span_of r (bit c.0) es) (not-true _ c.2) in
        (t.0, choice_world r es t.0 c.0 (full_allowed r c.0 c.1) t.1),
    λ h t w.
        let c = (full_say r s.choices.fewer es).times t (world_may r es t w) in
        both_ways (any_span has_times row) h (choice_any has_times c.0 c.1 (not_from_false _ (has_some _ t c.2))),
  )

  pub named_row : (v : ℕ) → Decides (named_by v row) (FaultyInAll r es v)
  named_row v = (
    λ h.
        let all : (c : ℕ) → Full r c → holds_none (span_of r (bit c) es) ≡ false → bit c v ≡ true =
        λ c g e.
        let k = s.choices.all c g in
        subst (λ c. bit c v ≡ true) k.2
        (named_of (λ c. span_of r (bit c) es) kept_each v cs (ap (named_by v) (sym s.spans) ∙ h) k.0 k.1 (ap (λ c. holds_none (span_of r (bit c) es)) k.2 ∙ e)) in
        (exact_over_all r es).named v ((full_say r s.choices.fewer es).names v all),
    λ f.
        ap (named_by v) s.spans
        ∙ of_named (λ c. span_of r (bit c) es) kept_each v cs (λ k l e. (exact_over_all r es).blamed v f (get_or cs k 0) (full_allowed r (get_or cs k 0) (s.choices.full k l)) e),
  )

pub may_exact : (t : ℕ) (row : List Case) (b : Bool) → b ≡ any_span (is_in t) row → MayExact t row b
may_exact t row b e r es s = subst (λ x. Decides x (World r es t)) (sym e) (may_row r es row s t)

pub left_exact : (row : List Case) (b : Bool) → b ≡ any_span has_times row → LeftExact row b
left_exact row b e r es s = subst (λ x. (x ≡ true → (t : ℕ) × World r es t) × (x ≡ false → NoWorld r es)) (sym e) (left_row r es row s)

pub named_exact : (v : ℕ) (row : List Case) (b : Bool) → b ≡ named_by v row → NamedExact v row b
named_exact v row b e r es s = subst (λ x. Decides x (FaultyInAll r es v)) (sym e) (named_row r es row s v)

pub names_exact : (n : ℕ) (row : List Case) (set : ℕ) → set ≡ choice_of (λ v. named_by v row) n → NamesExact n row set
names_exact n row set e r es s v = (
  λ h. subst (λ b. Decides b (FaultyInAll r es v)) (sym (ap (λ c. bit c v) e ∙ choice_bit (λ v. named_by v row) n v h)) (named_row r es row s v),
  λ h. bit_there set n v (subst (λ c. c < 2 ^ n) (sym e) (choice_below (λ v. named_by v row) n)) h,
)

-- spans that are changed leave the choices
pub choices_over : (f : ℕ → Span → Span) (row : List Case) → choices_in (over_row f row) ≡ choices_in row
choices_over f [] = refl
choices_over f (k ∷ row) = ap (λ cs. k.choice ∷ cs) (choices_over f row)
