-- What filling, moving and cutting a row makes of the spans of a run.
use Rattle.std.specs.Prelude.{◌≡◌, ℕ, List, ◌∷◌}
use Rattle.span.specs.declared.Span.{Span}
use Rattle.span.specs.Rate.{Strides}
use Rattle.span.specs.World.{Rules}
use Rattle.span.specs.Model.{Moment, plain}
use Rattle.span.specs.Model as model
use Rattle.choice.specs.declared.case.Claim.{Claim}
use Rattle.choice.specs.declared.case.Claim.TheVariants.{AtMost, AtLeast}
use Rattle.choice.specs.declared.case.Case.{Case}
use Rattle.choice.specs.Row.{choices_in, row_of, row_through}

-- what a claim of the code says
abbrev pub claim_of : Claim → model.Claim
claim_of (AtMost v t) = model.AtMost v t
claim_of (AtLeast v t) = model.AtLeast v t

-- a moment with one claim more
abbrev pub claimed : model.Claim → Moment → Moment
claimed c m = record { ticks = m.ticks; claims = c ∷ m.claims }

-- filled with one span, a row is the row in which each of its choices has it
abbrev pub RowFills : Span → List Case → List Case → Type 0
RowFills s row after = after ≡ row_of (λ c. s) (choices_in row)

-- moved on by the stride of n ticks, the row of a run's moments is that of the moments with one more, n ticks later
abbrev pub RowMoves : ℕ → ℕ → List Case → List Case → Type 0
RowMoves low high row after =
    (r : Rules) (ms : List Moment) (cs : List ℕ) (n : ℕ) → Strides r.drift n low high → row ≡ row_through r ms cs → after ≡ row_through r (plain n ∷ ms) cs

-- cut by a claim of its last moment, it is that of the moments with this claim
abbrev pub RowCuts : Claim → List Case → List Case → Type 0
RowCuts claim row after =
    (r : Rules) (m : Moment) (ms : List Moment) (cs : List ℕ) → row ≡ row_through r (m ∷ ms) cs → after ≡ row_through r (claimed (claim_of claim) m ∷ ms) cs
