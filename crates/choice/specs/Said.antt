-- What is said after a run: which times it may be, and which servers are named.
use Rattle.std.specs.Prelude.{◌≡◌, ℕ, true, false, T, List}
use Rattle.span.specs.World.{Rules, Event}
use Rattle.span.specs.Span.{is_in, holds_none}
use Rattle.span.specs.Model.{span_of}
use Rattle.choice.specs.Choice.{bit, Allowed}

-- it may be t: t is in the span of some choice
pub record May (r : Rules) (es : List Event) (t : ℕ) : Type 0 where
  pub choice : ℕ
  pub allowed : Allowed r choice
  pub holds : T (is_in t (span_of r (bit choice) es))

-- server v is named: it is faulty in every choice that has a span
abbrev pub Named : Rules → List Event → ℕ → Type 0
Named r es v = (c : ℕ) → Allowed r c → holds_none (span_of r (bit c) es) ≡ false → bit c v ≡ true

-- no choice has a span
abbrev pub NoneLeft : Rules → List Event → Type 0
NoneLeft r es = (c : ℕ) → Allowed r c → holds_none (span_of r (bit c) es) ≡ true
