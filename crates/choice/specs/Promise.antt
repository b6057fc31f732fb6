-- The promise of the whole: what is said is exactly what can be, over all choices of faulty servers.
use Rattle.std.specs.Prelude.{◌≡◌, ℕ, ◌^◌, ◌<◌, Bool, true, false, T, List, count_ones}
use Rattle.span.specs.World.{Rules, Event, World}
use Rattle.span.specs.Span.{is_in, holds_none}
use Rattle.span.specs.Model.{span_of}
use Rattle.choice.specs.Choice.{bit}
use Rattle.choice.specs.Said.{May, Named, NoneLeft}

-- server v is faulty in every world of the run
abbrev pub FaultyInAll : Rules → List Event → ℕ → Type 0
FaultyInAll r es v = (t : ℕ) (w : World r es t) → w.who v ≡ true

-- the run has no world
abbrev pub NoWorld : Rules → List Event → Type 0
NoWorld r es = (t : ℕ) → World r es t → ⊥

-- After any run it may be t exactly if some world has t now, a server is named exactly if it is faulty in every world that is left, and no choice has a span exactly if no world is left.
pub record Exact (r : Rules) (es : List Event) : Type 0 where
  pub said : (t : ℕ) → World r es t → May r es t
  pub real : (t : ℕ) → May r es t → World r es t
  pub named : (v : ℕ) → Named r es v → FaultyInAll r es v
  pub blamed : (v : ℕ) → FaultyInAll r es v → Named r es v
  pub none : NoWorld r es → NoneLeft r es
  pub gone : NoneLeft r es → NoWorld r es

abbrev pub ExactOverAll : Type 0
ExactOverAll = (r : Rules) (es : List Event) → Exact r es

-- a choice of just as many faulty servers as may be
pub record Full (r : Rules) (c : ℕ) : Type 0 where
  pub there : c < 2 ^ r.servers
  pub many : count_ones c ≡ r.faulty

-- If fewer servers may be faulty than there are, choices of just as many say all: each time that may be is in the span of one of them, and a server that is faulty in all of them that have a span is named.
pub record FullSay (r : Rules) (es : List Event) : Type 0 where
  pub times : (t : ℕ) → May r es t → (c : ℕ) × Full r c × T (is_in t (span_of r (bit c) es))
  pub names : (v : ℕ) → ((c : ℕ) → Full r c → holds_none (span_of r (bit c) es) ≡ false → bit c v ≡ true) → Named r es v

abbrev pub FullSayAll : Type 0
FullSayAll = (r : Rules) → r.faulty < r.servers → (es : List Event) → FullSay r es

-- a rule by which somebody might say times of a run, and one by which servers might be blamed
abbrev pub NeverWrong : Rules → (List Event → ℕ → Type 0) → Type 0
NeverWrong r says = (es : List Event) (t : ℕ) → World r es t → says es t

abbrev pub NeverUnjust : Rules → (List Event → ℕ → Type 0) → Type 0
NeverUnjust r blames = (es : List Event) (v : ℕ) → blames es v → FaultyInAll r es v

-- No rule whatever that is never wrong says less: it holds of every time that may be, and blames no server that is not named.
pub record SaysNoLess (says blames : List Event → ℕ → Type 0) : Type 0 where
  pub times : (r : Rules) → NeverWrong r says → (es : List Event) (t : ℕ) → May r es t → says es t
  pub names : (r : Rules) → NeverUnjust r blames → (es : List Event) (v : ℕ) → blames es v → Named r es v

-- the same of rules that are worked out
abbrev pub NoRuleSaysLess : Type 0
NoRuleSaysLess = (says blames : List Event → ℕ → Bool) → SaysNoLess (λ es t. T (says es t)) (λ es v. T (blames es v))
