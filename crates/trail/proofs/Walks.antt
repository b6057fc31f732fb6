-- Rows through moments.
use Rattle.std.proofs.Common.{◌≡◌, ℕ, ◌+◌, false, ◌<◌, ◌≤◌, List, [], ◌∷◌, length, get_or, drop, None, sym, ap, ◌∙◌}
use Rattle.std.proofs.lemmas.List.{at_drop_more, drop_all}
use Rattle.span.specs.declared.Span.{Span}
use Rattle.span.specs.Rate.{Strides}
use Rattle.span.specs.Span.{moved}
use Rattle.span.specs.Model.{cut_all, through}
use Rattle.span.proofs.Steps.{stride_later}
use Rattle.choice.specs.declared.case.Case.{Case}
use Rattle.choice.specs.Choice.{bit}
use Rattle.choice.specs.Row.{case_of, over_row, respan, row_through, span_in}
use Rattle.choice.proofs.Rows.{kept_through, over_rows}
use Rattle.trail.specs.declared.Moment.{Moment}
use Rattle.trail.specs.Trail.{claims_of, moment_of, onto, stepped, walked, RowSteps, RowWalks}

-- one case: its span moved on, and then cut by what is claimed
pub step_case : (d a e : ℕ) (m : Moment) (k : Case) (on after : Span) → Strides d m.ticks a e → on ≡ moved a e (span_in k) → after ≡ cut_all (bit k.choice) (claims_of m.claim) on → case_of k.choice after ≡ respan (stepped d m) k
step_case d a e m k on after s p q = ap (case_of k.choice) (q ∙ ap (cut_all (bit k.choice) (claims_of m.claim)) (p ∙ stride_later d m.ticks a e (span_in k) s))

pub row_steps : (d : ℕ) (m : Moment) (row : List Case) → RowSteps d m row (over_row (stepped d m) row)
unfolding through
row_steps d m row r ms cs e h =
    ap (over_row (stepped d m)) h
    ∙ ap (λ x. over_row (stepped x m) (row_through r ms cs)) (sym e)
    ∙ over_rows (stepped r.drift m) (λ c. through r (bit c) ms) (λ c. kept_through r (bit c) ms) cs

pub row_walks : (d : ℕ) (w : List Moment) (row : List Case) → RowWalks d w row (walked d w row)
unfolding walked onto
row_walks d [] row r ms cs e h = h
row_walks d (m ∷ w) row r ms cs e h = row_walks d w (over_row (stepped d m) row) r (moment_of m ∷ ms) cs e (row_steps d m row r ms cs e h)

-- a moment of nothing, as what stands past the end of a list
abbrev pub blank : Moment
blank = record { count = 0; ticks = 0; marked = false; claim = None }

-- a walk: what is done, and what is left to do
pub walk_more : (d : ℕ) (w : List Moment) (i : ℕ) (row : List Case) → i < length w → walked d (drop i w) row ≡ walked d (drop (i + 1) w) (over_row (stepped d (get_or w i blank)) row)
unfolding walked
walk_more d w i row h = at_drop_more (λ w. walked d w row) w i blank h

pub walk_end : (d : ℕ) (w : List Moment) (i : ℕ) (row : List Case) → length w ≤ i → walked d (drop i w) row ≡ row
unfolding walked
walk_end d w i row h = ap (λ x. walked d x row) (drop_all i w h)
