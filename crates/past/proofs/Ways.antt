-- Kept moments after older ones: on through them, and back, as through the moments of a run.
use Rattle.std.proofs.Common.{◌≡◌, ℕ, ◌+◌, List, [], ◌∷◌, ◌++◌, fold, length, reverse, take, drop, sym, refl, ap, ◌∙◌, ap₂, add-zero, arith, length-drop, take-append-drop}
use mathlib.Core.List.{reverse-cons}
use Rattle.std.proofs.lemmas.List.{take_at, drop_at}
use Rattle.std.proofs.lemmas.List.Sums.{fold-append}
use Rattle.span.specs.declared.Span.{Span}
use Rattle.span.specs.Span.{upto, ceiling, meet}
use Rattle.span.specs.World.{Rules, Event, Faulty}
use Rattle.span.specs.Model.{moments, through}
use Rattle.span.specs.Model as model
use Rattle.span.specs.Past.{back_through, past_of}
use Rattle.trail.specs.declared.Moment.{Moment}
use Rattle.trail.specs.Trail.{moment_of, onto}
use Rattle.past.specs.Event.{back_from, onward, backward, since}

-- one part of the kept moments after another
onto_append : (a b : List Moment) (o : List model.Moment) → onto (a ++ b) o ≡ onto b (onto a o)
unfolding onto
onto_append [] b o = refl
onto_append (m ∷ a) b o = onto_append a b (moment_of m ∷ o)

onto_front : (w : List Moment) (x o : List model.Moment) → onto w (x ++ o) ≡ onto w x ++ o
unfolding onto
onto_front [] x o = refl
onto_front (m ∷ w) x o = onto_front w (moment_of m ∷ x) o

pub length_onto : (w : List Moment) (o : List model.Moment) → length (onto w o) ≡ length w + length o
unfolding onto
length_onto [] o = omega arith
length_onto (m ∷ w) o = let h = length_onto w (moment_of m ∷ o) in omega arith

take_onto : (w : List Moment) (o : List model.Moment) → take (length w) (onto w o) ≡ onto w []
take_onto w o = ap (take (length w)) (onto_front w [] o) ∙ take_at (onto w []) o (length w) (length_onto w [] ∙ add-zero (length w))

drop_onto : (w : List Moment) (o : List model.Moment) → drop (length w) (onto w o) ≡ o
drop_onto w o = ap (drop (length w)) (onto_front w [] o) ∙ drop_at (onto w []) o (length w) (length_onto w [] ∙ add-zero (length w))

-- on through kept moments is through the run with them
through_onto : (r : Rules) (who : Faulty) (w : List Moment) (o : List model.Moment) → through r who (onto w o) ≡ onward r.drift who w (through r who o)
unfolding onto through
through_onto r who [] o = refl
through_onto r who (m ∷ w) o = through_onto r who w (moment_of m ∷ o)

back_step : (d : ℕ) (who : Faulty) (m : Moment) (w : List Moment) → backward d who (m ∷ w) ≡ back_from d who m (backward d who w)
back_step d who m w =
    ap (fold (λ s m. back_from d who m s) (upto ceiling)) (reverse-cons m w) ∙ fold-append (λ s m. back_from d who m s) (upto ceiling) (reverse w) (m ∷ [])

-- and back through them is back through the latest of its moments
back_onto : (r : Rules) (who : Faulty) (w : List Moment) (o : List model.Moment) → back_through r who (onto w o) (upto ceiling) ≡ back_through r who o (backward r.drift who w)
unfolding onto back_through
back_onto r who [] o = refl
back_onto r who (m ∷ w) o = back_onto r who w (moment_of m ∷ o) ∙ ap (back_through r who o) (sym (back_step r.drift who m w))

nothing_on : (r : Rules) (who : Faulty) (b : Span) → back_through r who [] b ≡ b
unfolding back_through
nothing_on r who b = refl

module _ (r : Rules) (who : Faulty) (es : List Event) (kept : List Moment) (older : List model.Moment) (place : ℕ) (e : moments es ≡ onto kept older) where
  before : List Moment
  before = take (place + 1) kept

  after : List Moment
  after = drop (place + 1) kept

  parts : moments es ≡ onto after (onto before older)
  unfolding before after
  parts = e ∙ ap (λ w. onto w older) (sym (take-append-drop (place + 1) kept)) ∙ onto_append before after older

  many : since kept place ≡ length after
  unfolding after
  many = omega (arith, length-drop (place + 1) kept)

  -- the span of a past moment is met of both ways
  pub past_kept : meet (onward r.drift who (take (place + 1) kept) (through r who older)) (backward r.drift who (drop (place + 1) kept)) ≡ past_of r who (since kept place) es
  unfolding before after
  past_kept =
      let first : drop (since kept place) (moments es) ≡ onto before older = ap₂ drop many parts ∙ drop_onto after (onto before older) in
      let last : take (since kept place) (moments es) ≡ onto after [] = ap₂ take many parts ∙ take_onto after (onto before older) in
      sym (
      ap₂ meet
      (ap (through r who) first ∙ through_onto r who before older)
      (ap (λ ms. back_through r who ms (upto ceiling)) last ∙ back_onto r who after [] ∙ nothing_on r who _)
      )
