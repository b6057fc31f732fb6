-- What a step through the drift and a cut of a span promise, in words of true times.
use Rattle.std.specs.Prelude.{ℕ, ◌≤◌, T}
use Rattle.span.specs.Rate.{Fits}
use Rattle.span.specs.Span.{is_in, ceiling}
use Rattle.span.specs.declared.Span.{Span}

-- from the span s, n ticks later true time can be just the times of the span r: each of them is reached from some time of s, and each that is reached from a time of s is one of them
pub record StepExact (d n : ℕ) (s r : Span) : Type 0 where
  pub reached : (u : ℕ) → T (is_in u r) → (t : ℕ) × T (is_in t s) × Fits d n t u × (u ≤ ceiling)
  pub holds : (t u : ℕ) → T (is_in t s) → Fits d n t u → u ≤ ceiling → T (is_in u r)

-- n ticks before it was in the span s true time can have been just the times of the span r: from each of them some time of s is reached, and each from which a time of s is reached is one of them
pub record BackExact (d n : ℕ) (s r : Span) : Type 0 where
  pub reaches : (t : ℕ) → T (is_in t r) → (u : ℕ) × T (is_in u s) × Fits d n t u
  pub holds : (t u : ℕ) → T (is_in u s) → Fits d n t u → T (is_in t r)

-- r holds just the times of s of which P says so
pub record CutExact (P : ℕ → Type 0) (s r : Span) : Type 0 where
  pub kept : (t : ℕ) → T (is_in t s) → P t → T (is_in t r)
  pub only : (t : ℕ) → T (is_in t r) → T (is_in t s) × P t
