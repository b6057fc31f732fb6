-- What is said of an event is exact for every run that the row and the kept moments stand for.
use Rattle.std.proofs.Common.{◌≡◌, ℕ, zero, suc, ◌+◌, ◌<◌, T, List, [], ◌∷◌, length, get_or, take, drop, Contains, None, Option, sym, ap, ◌∙◌, subst, arith}
use Rattle.span.specs.declared.Span.{Span}
use Rattle.span.specs.Span.{is_in}
use Rattle.span.specs.World.{Rules, Event}
use Rattle.span.specs.Model.{moments, through}
use Rattle.span.specs.Model as model
use Rattle.span.specs.Past.{past_of}
use Rattle.span.proofs.Past.{length_moments}
use Rattle.choice.specs.Choice.{bit, Allowed}
use Rattle.choice.specs.Promise.{Full}
use Rattle.choice.specs.declared.case.Case.{Case}
use Rattle.choice.specs.Row.{row_of, span_in}
use Rattle.choice.specs.Stands.{AllFull}
use Rattle.choice.specs.Past.{WorldAt}
use Rattle.choice.proofs.Rows.{Kept, kept_through}
use Rattle.choice.proofs.Past.{choice_world_at, world_full_at, past_never_widens}
use Rattle.trail.specs.declared.Moment.{Moment}
use Rattle.trail.specs.Trail.{onto}
use Rattle.past.specs.Event.{span_then, said_by, LeastAndGreatest, since, onward, backward, EachExact, SaidExact, SaidNeverWidens}
use Rattle.past.proofs.Ways.{length_onto, past_kept}
use Rattle.past.proofs.Widest.{InSome, meet_order, bounds_same, bounds_all, fewer_within}

-- a case of a row of choices has the span of its choice
in_row : (g : ℕ → Span) → ((c : ℕ) → Kept (g c)) → (cs : List ℕ) (k : Case) → Contains (row_of g cs) k → span_in k ≡ g k.choice
in_row g kept [] k h = let l = h.1 in absurd (omega arith)
in_row g kept (c ∷ cs) k h = go h.0 h.1 h.2 (in_row g kept cs k) where
  go : (i : ℕ) → i < length (row_of g (c ∷ cs)) → get_or (row_of g (c ∷ cs)) i k ≡ k → (Contains (row_of g cs) k → span_in k ≡ g k.choice) → span_in k ≡ g k.choice
  go zero l e later = subst (λ k. span_in k ≡ g k.choice) e (kept c)
  go (suc i) l e later = later (i, omega arith, e)

-- the span that is taken for a choice is that of the past moment
taken : (d : ℕ) (kept : List Moment) (place : ℕ) (r : Rules) (es : List Event) (older : List model.Moment) → r.drift ≡ d → moments es ≡ onto kept older → (c : ℕ) → span_then d c (take (place + 1) kept) (drop (place + 1) kept) (through r (bit c) older) ≡ past_of r (bit c) (since kept place) es
taken d kept place r es older e m c =
    ap (λ x. span_then x c (take (place + 1) kept) (drop (place + 1) kept) (through r (bit c) older)) (sym e) ∙ past_kept r (bit c) es kept older place m

pub each_exact : (d : ℕ) (base : List Case) (kept : List Moment) (place : ℕ) → EachExact d base kept place
each_exact d base kept place r es older cs e b m k h =
    ap (span_then d k.choice (take (place + 1) kept) (drop (place + 1) kept))
    (in_row (λ c. through r (bit c) older) (λ c. kept_through r (bit c) older) cs k (subst (λ row. Contains row k) b h))
    ∙ taken d kept place r es older e m k.choice

full_allowed : (r : Rules) (c : ℕ) → Full r c → Allowed r c
full_allowed r c h = record { there = h.there; few = omega (arith, h.many) }

-- a choice of the list whose span has t is one of a world, and a world is one of such a choice
in_world : (r : Rules) (es : List Event) (cs : List ℕ) (k : ℕ) → k < length es → AllFull r cs → (t : ℕ) → InSome (λ c. past_of r (bit c) k es) cs t → WorldAt r es k t
in_world r es cs k l full t i = let c = get_or cs i.0 0 in choice_world_at r es k l t c (full_allowed r c (full.full i.0 i.1)) i.2

world_in : (r : Rules) (es : List Event) (cs : List ℕ) (k : ℕ) → k < length es → AllFull r cs → (t : ℕ) → WorldAt r es k t → InSome (λ c. past_of r (bit c) k es) cs t
world_in r es cs k l full t w =
    let c = world_full_at r full.fewer es k l t w in
    let at = full.all c.0 c.1 in
    (at.0, at.1, subst (λ x. T (is_in t (past_of r (bit x) k es))) (sym at.2) c.2)

in_same : (g h : ℕ → Span) → ((c : ℕ) → g c ≡ h c) → (cs : List ℕ) (t : ℕ) → InSome g cs t → InSome h cs t
in_same g h e cs t i = (i.0, i.1, subst (λ s. T (is_in t s)) (e (get_or cs i.0 0)) i.2)

module _ (d : ℕ) (kept : List Moment) (place : ℕ) (r : Rules) (es : List Event) (older : List model.Moment) where
  abbrev past : ℕ → Span
  past c = past_of r (bit c) (since kept place) es

  -- the span that is taken for a choice, and its span before the kept moments
  abbrev taking : ℕ → Span → Span
  taking c s = span_then d c (take (place + 1) kept) (drop (place + 1) kept) s

  abbrev before : ℕ → Span
  before c = through r (bit c) older

  bounds_past : r.drift ≡ d → moments es ≡ onto kept older → (cs : List ℕ) → LeastAndGreatest (InSome past cs) (said_by taking None (row_of before cs))
  bounds_past e m cs =
      let same : (c : ℕ) → taking c (before c) ≡ past c = taken d kept place r es older e m in
      bounds_same (InSome (λ c. taking c (before c)) cs) (InSome past cs) (in_same (λ c. taking c (before c)) past same cs) (in_same past (λ c. taking c (before c)) (λ c. sym (same c)) cs) _
      (bounds_all taking before (λ c. kept_through r (bit c) older) (λ c. meet_order (onward d (bit c) (take (place + 1) kept) (before c)) (backward d (bit c) (drop (place + 1) kept))) cs)

pub said_exact : (d : ℕ) (base : List Case) (kept : List Moment) (place : ℕ) (said : Option (ℕ × ℕ)) → place < length kept → said ≡ said_by (λ c. span_then d c (take (place + 1) kept) (drop (place + 1) kept)) None base → SaidExact d base kept place said
said_exact d base kept place said here is r es older cs e full b m =
    let k = since kept place in
    let there : k < length es = omega (arith, length_moments es, ap length m, length_onto kept older) in
    subst (LeastAndGreatest (WorldAt r es k)) (ap (said_by (λ c. span_then d c (take (place + 1) kept) (drop (place + 1) kept)) None) (sym b) ∙ sym is)
    (bounds_same (InSome (λ c. past_of r (bit c) k es) cs) (WorldAt r es k) (in_world r es cs k there full) (world_in r es cs k there full) _ (bounds_past d kept place r es older e m cs))

pub said_never_widens : SaidNeverWidens
said_never_widens r e es k before after p q = fewer_within (WorldAt r es k) (WorldAt r (e ∷ es) (suc k)) (λ t w. past_never_widens r e es k t w) before after p q
