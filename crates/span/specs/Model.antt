-- What is worked out of a run: its moments with the bounds that are known of them and, for known faulty servers, the span of times from the beginning through all of them to now.
use Rattle.std.specs.Prelude.{ℕ, zero, suc, ◌+◌, cond, List, [], ◌∷◌, nat_le}
use Rattle.span.specs.World.{Deed, Event, Rules, Faulty, Shows, Marks, Asks, Accepts}
use Rattle.span.specs.Span.{ceiling, upto, later, at_most, at_least}
use Rattle.span.specs.declared.Span.{Span}

-- what a server claims of a moment: it was at most, or at least, so much then
pub data Claim : Type 0 where
  AtMost : (server time : ℕ) → Claim
  AtLeast : (server time : ℕ) → Claim

-- a moment: the ticks since the one before it, and what is claimed of it
pub record Moment : Type 0 where
  pub ticks : ℕ
  pub claims : List Claim

abbrev pub plain : ℕ → Moment
plain n = record { ticks = n; claims = [] }

-- an upper bound is put down at the moment that has so many after it
unfoldable pub put : ℕ → ℕ → ℕ → List Moment → List Moment
put since v t [] = []
put zero v t (m ∷ ms) = record { ticks = m.ticks; claims = AtMost v t ∷ m.claims } ∷ ms
put (suc since) v t (m ∷ ms) = m ∷ put since v t ms

-- a reply's lower bound; where its least is above its greatest it can't be true, and no time is high enough
abbrev pub lowest : ℕ → ℕ → ℕ
lowest least greatest = cond (nat_le least greatest) least (1 + ceiling)

-- A moment more. A reply's upper bound stands at its asking, its lower bound at the moment at which it came.
abbrev pub moments_by : ℕ → Deed → List Moment → List Moment
moments_by n Shows ms = plain n ∷ ms
moments_by n Marks ms = plain n ∷ ms
moments_by n (Asks v) ms = plain n ∷ ms
moments_by n (Accepts v since least greatest) ms = record { ticks = n; claims = AtLeast v (lowest least greatest) ∷ [] } ∷ put since v greatest ms

-- the moments of a run, the latest first
unfoldable pub moments : List Event → List Moment
moments [] = []
moments (e ∷ es) = moments_by e.ticks e.deed (moments es)

-- a claim cuts if its server is not faulty, and leaves all as it is if it is
abbrev pub cut_by : Faulty → Claim → Span → Span
cut_by who (AtMost v t) s = cond (who v) s (at_most t s)
cut_by who (AtLeast v t) s = cond (who v) s (at_least t s)

unfoldable pub cut_all : Faulty → List Claim → Span → Span
cut_all who [] s = s
cut_all who (c ∷ cs) s = cut_by who c (cut_all who cs s)

-- from the beginning through all moments
unfoldable pub through : Rules → Faulty → List Moment → Span
through r who [] = upto r.latest
through r who (m ∷ ms) = cut_all who m.claims (later r.drift m.ticks (through r who ms))

-- the span now, if these servers are faulty
abbrev pub span_of : Rules → Faulty → List Event → Span
span_of r who es = through r who (moments es)
