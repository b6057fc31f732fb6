-- Moments as they are kept, the oldest first, and what a row of spans is after them.
use Rattle.std.specs.Prelude.{◌≡◌, ℕ, List, [], ◌∷◌, Some, None, Option}
use Rattle.span.specs.declared.Span.{Span}
use Rattle.span.specs.Span.{later}
use Rattle.span.specs.World.{Rules}
use Rattle.span.specs.Model.{cut_all}
use Rattle.span.specs.Model as model
use Rattle.choice.specs.declared.case.Case.{Case}
use Rattle.choice.specs.declared.case.Claim.{Claim}
use Rattle.choice.specs.Choice.{bit}
use Rattle.choice.specs.Row.{over_row, row_through}
use Rattle.choice.specs.Moves.{claim_of}
use Rattle.trail.specs.declared.Moment.{Moment}

-- what is claimed of a kept moment: by one server, or by none
abbrev pub claims_of : Option Claim → List model.Claim
claims_of None = []
claims_of (Some c) = claim_of c ∷ []

-- the moment of a run that it stands for
abbrev pub moment_of : Moment → model.Moment
moment_of m = record { ticks = m.ticks; claims = claims_of m.claim }

-- kept moments, the oldest first, after those that are older: the moments of a run have the latest first
unfoldable pub onto : List Moment → List model.Moment → List model.Moment
onto [] older = older
onto (m ∷ kept) older = onto kept (moment_of m ∷ older)

-- the span of a choice through one moment
abbrev pub stepped : ℕ → Moment → ℕ → Span → Span
stepped d m c s = cut_all (bit c) (claims_of m.claim) (later d m.ticks s)

-- a row through some moments, one after another
unfoldable pub walked : ℕ → List Moment → List Case → List Case
walked d [] row = row
walked d (m ∷ kept) row = walked d kept (over_row (stepped d m) row)

-- the row of the moments of a run is after one moment that of the moments with this one
abbrev pub RowSteps : ℕ → Moment → List Case → List Case → Type 0
RowSteps d m row after =
    (r : Rules) (ms : List model.Moment) (cs : List ℕ) → r.drift ≡ d → row ≡ row_through r ms cs → after ≡ row_through r (moment_of m ∷ ms) cs

-- and after some moments that of the moments with all of them
abbrev pub RowWalks : ℕ → List Moment → List Case → List Case → Type 0
RowWalks d kept row after =
    (r : Rules) (ms : List model.Moment) (cs : List ℕ) → r.drift ≡ d → row ≡ row_through r ms cs → after ≡ row_through r (onto kept ms) cs
