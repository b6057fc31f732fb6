-- Walks of rows through kept moments, windows in another spelling, and how many of the first moments are older.
use Rattle.std.proofs.Common.{◌≡◌, ℕ, ◌-◌, ◌≤◌, ltb, List, [], ◌∷◌, length, take, drop, refl, ap, ◌∙◌, arith, length-take}
use Rattle.std.proofs.lemmas.List.Folds.{length-prefix_len}
use Rattle.choice.specs.declared.case.Case.{Case}
use Rattle.trail.specs.declared.Moment.{Moment}
use Rattle.choice.specs.Row.{choices_in, over_row}
use Rattle.choice.proofs.Standing.{choices_over}
use Rattle.trail.specs.Trail.{stepped, walked}
use Rattle.window.specs.View.{View}
use Rattle.window.specs.Steps.{older, two_hours}

abbrev window_by : ℕ → ℕ → ℕ → List Case → List Case → List Case → List Moment → View
window_by s d l b m h k = record { servers = s; drift = d; base = b; mark = m; here = h; kept = k; lag = l }

-- the same walk, with its parts written in another way
pub walk_same : (d : ℕ) {w w' : List Moment} {row row' : List Case} → w ≡ w' → row ≡ row' → walked d w row ≡ walked d w' row'
walk_same d {w} {w'} {row} {row'} q s = ap (λ x. walked d x row) q ∙ ap (walked d w') s

-- a part of kept moments
pub part_same : {w w' : List Moment} (a a' k k' : ℕ) → w ≡ w' → a ≡ a' → k ≡ k' → take k (drop a w) ≡ take k' (drop a' w')
part_same {w} {w'} a a' k k' p q s = ap (λ x. take k (drop a x)) p ∙ ap (λ x. take k (drop x w')) q ∙ ap (λ x. take x (drop a' w')) s

-- the same window, with its rows and moments written in another way
pub view_same : (s d l : ℕ) {b b' m m' h h' : List Case} {k k' : List Moment} → b ≡ b' → m ≡ m' → h ≡ h' → k ≡ k' → window_by s d l b m h k ≡ window_by s d l b' m' h' k'
view_same s d l {b} {b'} {m} {m'} {h} {h'} {k} {k'} p q r t =
    ap (λ x. window_by s d l x m h k) p ∙ ap (λ x. window_by s d l b' x h k) q ∙ ap (λ x. window_by s d l b' m' x k) r ∙ ap (window_by s d l b' m' h') t

pub older_within : (count : ℕ) (w : List Moment) → older count w ≤ length w
older_within count w = omega (arith, length-prefix_len (λ m. ltb two_hours (count - m.count)) w, length-take (older count w) w)

-- a walk leaves the choices of a row
pub choices_walked : (d : ℕ) (ms : List Moment) (row : List Case) → choices_in (walked d ms row) ≡ choices_in row
unfolding walked
choices_walked d [] row = refl
choices_walked d (m ∷ ms) row = choices_walked d ms (over_row (stepped d m) row) ∙ choices_over (stepped d m) row
