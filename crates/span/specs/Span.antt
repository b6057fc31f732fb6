-- What is worked out: a span of times by its two ends, or none, how it moves on and back and how it is cut.
use Rattle.std.specs.Prelude.{ℕ, ◌+◌, ◌-◌, ◌^◌, min, max, Bool, true, false, cond, ◌&&◌, nat_le}
use Rattle.span.specs.Rate.{least, most}
use Rattle.span.specs.declared.Span.{Span}
use Rattle.span.specs.declared.Span.TheVariants.{Between, Empty}

-- no true time is later than this
abbrev pub ceiling : ℕ
ceiling = 2 ^ 62

-- t is one of the times of the span
abbrev pub is_in : ℕ → Span → Bool
is_in t (Between lo hi) = nat_le lo t && nat_le t hi
is_in t Empty = false

-- the span holds no time
abbrev pub holds_none : Span → Bool
holds_none (Between lo hi) = nat_le (1 + hi) lo
holds_none Empty = true

-- the times from lo to hi
abbrev pub span : ℕ → ℕ → Span
span lo hi = cond (nat_le lo hi) (Between lo hi) Empty

-- all times up to the latest, none of them above the ceiling
abbrev pub upto : ℕ → Span
upto latest = Between 0 (min latest ceiling)

-- moved on: the lower end rises by the least, the upper by the most, but not past the ceiling
abbrev pub moved : ℕ → ℕ → Span → Span
moved a e (Between lo hi) = cond (nat_le lo hi) (span (lo + a) (min (hi + e) ceiling)) Empty
moved a e Empty = Empty

-- n ticks later
abbrev pub later : ℕ → ℕ → Span → Span
later d n s = moved (least d n) (most d n) s

-- moved back: the lower end falls by the most, the upper by the least, and there is none where that is below 0
abbrev pub moved_back : ℕ → ℕ → Span → Span
moved_back a e (Between lo hi) = cond (nat_le lo hi && nat_le a hi) (span (lo - e) (hi - a)) Empty
moved_back a e Empty = Empty

-- n ticks earlier
abbrev pub earlier : ℕ → ℕ → Span → Span
earlier d n s = moved_back (least d n) (most d n) s

-- cut to the times that are at most t
abbrev pub at_most : ℕ → Span → Span
at_most t (Between lo hi) = span lo (min hi t)
at_most t Empty = Empty

-- cut to the times that are at least t
abbrev pub at_least : ℕ → Span → Span
at_least t (Between lo hi) = span (max lo t) hi
at_least t Empty = Empty

-- cut to the times of another span
abbrev pub meet : Span → Span → Span
meet (Between lo hi) (Between from to) = span (max lo from) (min hi to)
meet (Between lo hi) Empty = Empty
meet Empty s = Empty

-- from the least to the greatest of its times
abbrev pub width_of : Span → ℕ
width_of (Between lo hi) = hi - lo
width_of Empty = 0
