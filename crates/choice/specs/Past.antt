-- What can have been at a past moment: the worlds that are left, and what is said over all choices of faulty servers.
use Rattle.std.specs.Prelude.{◌≡◌, ℕ, suc, ◌<◌, T, List, ◌∷◌, length, slice_index_or}
use Rattle.span.specs.World.{Rules, Event, World}
use Rattle.span.specs.Span.{is_in}
use Rattle.span.specs.Past.{past_of}
use Rattle.choice.specs.Choice.{bit, Allowed}
use Rattle.choice.specs.Promise.{Full}

-- A world of a run in which it was t at the moment that has k after it; what it is now in this world is left open.
pub record WorldAt (r : Rules) (es : List Event) (k t : ℕ) : Type 0 where
  pub present : ℕ
  pub world : World r es present
  pub was : slice_index_or world.times k 0 ≡ t

-- it may have been t then: t is in the span that some choice has there
pub record MayHaveBeen (r : Rules) (es : List Event) (k t : ℕ) : Type 0 where
  pub choice : ℕ
  pub allowed : Allowed r choice
  pub holds : T (is_in t (past_of r (bit choice) k es))

-- It may have been t at a past moment exactly if some world had t there; and if fewer servers may be faulty than there are, choices of just as many say all.
pub record PastExact (r : Rules) (es : List Event) (k : ℕ) : Type 0 where
  pub said : (t : ℕ) → WorldAt r es k t → MayHaveBeen r es k t
  pub real : (t : ℕ) → MayHaveBeen r es k t → WorldAt r es k t
  pub full : r.faulty < r.servers → (t : ℕ) → WorldAt r es k t → (c : ℕ) × Full r c × T (is_in t (past_of r (bit c) k es))

abbrev pub PastExactOverAll : Type 0
PastExactOverAll = (r : Rules) (es : List Event) (k : ℕ) → k < length es → PastExact r es k

-- Nothing that can have been at a past moment comes back as more is heard: what a run with one event more leaves, the run before left too.
abbrev pub PastNeverWidens : Type 0
PastNeverWidens = (r : Rules) (e : Event) (es : List Event) (k t : ℕ) → WorldAt r (e ∷ es) (suc k) t → WorldAt r es k t
