-- Rows: a case for each choice, which has the choice and its span by two ends; where the first is above the second there is none.
use Rattle.std.specs.Prelude.{ℕ, Bool, not, ◌||◌, List, map}
use Rattle.std.specs.List.{list_all, list_any}
use Rattle.span.specs.declared.Span.{Span}
use Rattle.span.specs.declared.Span.TheVariants.{Between, Empty}
use Rattle.span.specs.Span.{span, holds_none}
use Rattle.span.specs.World.{Rules}
use Rattle.span.specs.Model.{Moment, through}
use Rattle.choice.specs.declared.case.Case.{Case}
use Rattle.choice.specs.Choice.{bit}

-- how a span is kept: the ends of one that has none are 1 and 0
abbrev pub low_of : Span → ℕ
low_of (Between lo hi) = lo
low_of Empty = 1

abbrev pub high_of : Span → ℕ
high_of (Between lo hi) = hi
high_of Empty = 0

-- the case of a choice that has this span; the span of a case
abbrev pub case_of : ℕ → Span → Case
case_of c s = record { choice = c; lo = low_of s; hi = high_of s }

abbrev pub span_in : Case → Span
span_in k = span k.lo k.hi

-- a case with its span changed, in a way that may depend on the choice; and each case of a row
abbrev pub respan : (ℕ → Span → Span) → Case → Case
respan f k = case_of k.choice (f k.choice (span_in k))

abbrev pub over_row : (ℕ → Span → Span) → List Case → List Case
over_row f row = map (respan f) row

-- the choices of a row
abbrev pub choices_in : List Case → List ℕ
choices_in row = map (λ k. k.choice) row

-- the row of a span for each choice
abbrev pub row_of : (ℕ → Span) → List ℕ → List Case
row_of f cs = map (λ c. case_of c (f c)) cs

-- the row of the choices' spans through these moments
abbrev pub row_through : Rules → List Moment → List ℕ → List Case
row_through r ms cs = row_of (λ c. through r (bit c) ms) cs

-- some span of a row passes a test
abbrev pub any_span : (Span → Bool) → List Case → Bool
any_span p row = list_any (λ k. p (span_in k)) row

-- the span has a time
abbrev pub has_times : Span → Bool
has_times s = not (holds_none s)

-- server v is faulty in each choice whose span has a time
abbrev pub named_by : ℕ → List Case → Bool
named_by v row = list_all (λ k. bit k.choice v || holds_none (span_in k)) row
