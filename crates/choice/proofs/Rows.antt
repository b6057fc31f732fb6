-- A loop over the cases of a row, and what it makes of the row of a run.
use Rattle.std.proofs.Common.{◌≡◌, ℕ, ◌+◌, ◌<◌, ◌≤◌, min, max, Bool, true, false, cond, ◌&&◌, ◌||◌, leb, List, [], ◌∷◌, ◌++◌, map, length, get_or, take, drop, set, sym, refl, ap, ◌∙◌, ap₂, append_assoc, append-nil, arith}
use Rattle.std.proofs.lemmas.List.{at_drop_more, drop_all, drop_more, take_all, take_more_set, drop-set-lt}
use Rattle.std.proofs.lemmas.Bool.{le-leb}
use Rattle.span.specs.declared.Span.{Span}
use Rattle.span.specs.declared.Span.TheVariants.{Between, Empty}
use Rattle.span.specs.Rate.{least, most}
use Rattle.span.specs.Span.{span, moved, at_most, at_least, ceiling, holds_none}
use Rattle.span.specs.World.{Rules, Faulty}
use Rattle.span.specs.Model.{Claim, Moment, AtMost, AtLeast, plain, cut_by, cut_all, through}
use Rattle.span.proofs.Steps.{stride_later}
use Rattle.choice.specs.declared.case.Claim as code
use Rattle.choice.specs.declared.case.Case.{Case}
use Rattle.choice.specs.Choice.{bit}
use Rattle.choice.specs.Row.{low_of, high_of, case_of, named_by, over_row, row_of, span_in}
use Rattle.choice.specs.Moves.{claim_of, RowFills, RowMoves, RowCuts}

-- one element more is changed: what is done and what is left to do stay the whole
pub map_step : {X : Type 0} (f : X → X) (i : ℕ) (xs : List X) (y d : X) → i < length xs → y ≡ f (get_or xs i d) → take (i + 1) (set xs i y) ++ map f (drop (i + 1) (set xs i y)) ≡ take i xs ++ map f (drop i xs)
map_step f i xs y d h e =
    ap₂ (λ a b. a ++ map f b) (take_more_set xs i y h) (drop-set-lt (i + 1) xs i y (omega arith))
    ∙ append_assoc (take i xs) (y ∷ []) (map f (drop (i + 1) xs))
    ∙ ap (λ x. take i xs ++ x ∷ map f (drop (i + 1) xs)) e
    ∙ ap (λ l. take i xs ++ map f l) (sym (drop_more xs i d h))

-- nothing is left to do
pub map_all : {X : Type 0} (f : X → X) (i : ℕ) (xs : List X) → length xs ≤ i → take i xs ++ map f (drop i xs) ≡ xs
map_all f i xs h = ap (λ l. take i xs ++ map f l) (drop_all i xs h) ∙ append-nil (take i xs) ∙ take_all i xs h

-- Spans that are kept by their ends: those of a run are.
abbrev pub Kept : Span → Type 0
Kept s = span (low_of s) (high_of s) ≡ s

kept_span : (lo hi : ℕ) → Kept (span lo hi)
kept_span lo hi = go (leb lo hi) refl where
  go : (b : Bool) → leb lo hi ≡ b → Kept (cond b (Between lo hi) Empty)
  go true e = ap (λ b. cond b (Between lo hi) Empty) e
  go false e = refl

pub kept_moved : (a e : ℕ) (s : Span) → Kept (moved a e s)
kept_moved a e (Between lo hi) = go (leb lo hi) where
  go : (b : Bool) → Kept (cond b (span (lo + a) (min (hi + e) ceiling)) Empty)
  go true = kept_span (lo + a) (min (hi + e) ceiling)
  go false = refl
kept_moved a e Empty = refl

kept_most : (t : ℕ) (s : Span) → Kept s → Kept (at_most t s)
kept_most t (Between lo hi) h = kept_span lo (min hi t)
kept_most t Empty h = h

kept_least : (t : ℕ) (s : Span) → Kept s → Kept (at_least t s)
kept_least t (Between lo hi) h = kept_span (max lo t) hi
kept_least t Empty h = h

kept_cut : (who : Faulty) (c : Claim) (s : Span) → Kept s → Kept (cut_by who c s)
kept_cut who (AtMost v t) s h = go (who v) where
  go : (b : Bool) → Kept (cond b s (at_most t s))
  go true = h
  go false = kept_most t s h
kept_cut who (AtLeast v t) s h = go (who v) where
  go : (b : Bool) → Kept (cond b s (at_least t s))
  go true = h
  go false = kept_least t s h

kept_cuts : (who : Faulty) (cs : List Claim) (s : Span) → Kept s → Kept (cut_all who cs s)
unfolding cut_all
kept_cuts who [] s h = h
kept_cuts who (c ∷ cs) s h = kept_cut who c (cut_all who cs s) (kept_cuts who cs s h)

pub kept_through : (r : Rules) (who : Faulty) (ms : List Moment) → Kept (through r who ms)
unfolding through
kept_through r who [] = ap (λ b. cond b (Between 0 (min r.latest ceiling)) Empty) (le-leb 0 (min r.latest ceiling) (omega arith))
kept_through r who (m ∷ ms) = kept_cuts who m.claims _ (kept_moved (least r.drift m.ticks) (most r.drift m.ticks) (through r who ms))

-- A row of spans, each of them changed by its choice, is the row of the changed spans.
pub over_rows : (h : ℕ → Span → Span) (f : ℕ → Span) → ((c : ℕ) → Kept (f c)) → (cs : List ℕ) → over_row h (row_of f cs) ≡ row_of (λ c. h c (f c)) cs
over_rows h f kept [] = refl
over_rows h f kept (c ∷ cs) = ap₂ (λ s rest. case_of c (h c s) ∷ rest) (kept c) (over_rows h f kept cs)

same_rows : (f g : ℕ → Span) → ((c : ℕ) → f c ≡ g c) → (cs : List ℕ) → row_of f cs ≡ row_of g cs
same_rows f g e [] = refl
same_rows f g e (c ∷ cs) = ap₂ (λ s rest. case_of c s ∷ rest) (e c) (same_rows f g e cs)

pub row_fills : (s : Span) (row : List Case) → RowFills s row (over_row (λ c t. s) row)
row_fills s [] = refl
row_fills s (k ∷ row) = ap (λ rest. case_of k.choice s ∷ rest) (row_fills s row)

pub row_moves : (low high : ℕ) (row : List Case) → RowMoves low high row (over_row (λ c s. moved low high s) row)
unfolding through cut_all
row_moves low high row r ms cs n s e =
    ap (over_row (λ c s. moved low high s)) e
    ∙ over_rows (λ c s. moved low high s) (λ c. through r (bit c) ms) (λ c. kept_through r (bit c) ms) cs
    ∙ same_rows (λ c. moved low high (through r (bit c) ms)) (λ c. through r (bit c) (plain n ∷ ms)) (λ c. stride_later r.drift n low high (through r (bit c) ms) s) cs

pub row_cuts : (claim : code.Claim) (row : List Case) → RowCuts claim row (over_row (λ c s. cut_by (bit c) (claim_of claim) s) row)
unfolding through cut_all
row_cuts claim row r m ms cs e =
    ap (over_row (λ c s. cut_by (bit c) (claim_of claim) s)) e
    ∙ over_rows (λ c s. cut_by (bit c) (claim_of claim) s) (λ c. through r (bit c) (m ∷ ms)) (λ c. kept_through r (bit c) (m ∷ ms)) cs

-- Looking at a row case by case, whether all are silent of a server.
abbrev pub no_case : Case
no_case = record { choice = 0; lo = 0; hi = 0 }

abbrev pub silent : ℕ → Case → Bool
silent v k = bit k.choice v || holds_none (span_in k)

pub named_miss : (v i : ℕ) (row : List Case) → i < length row → silent v (get_or row i no_case) ≡ true → named_by v (drop i row) ≡ named_by v (drop (i + 1) row)
named_miss v i row h e = at_drop_more (named_by v) row i no_case h ∙ ap (λ b. b && named_by v (drop (i + 1) row)) e

pub named_hit : (v i : ℕ) (row : List Case) → i < length row → silent v (get_or row i no_case) ≡ false → named_by v (drop i row) ≡ false
named_hit v i row h e = at_drop_more (named_by v) row i no_case h ∙ ap (λ b. b && named_by v (drop (i + 1) row)) e
