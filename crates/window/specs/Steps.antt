-- What is done with a window, one step at a time.
use Rattle.std.specs.Prelude.{ℕ, ◌+◌, ◌-◌, Bool, cond, List, [], ◌∷◌, ◌++◌, length, take, drop, None, Option, ◌==◌, nat_lt, slice_index_or, slice_set}
use Rattle.std.specs.List.{prefix_len}
use Rattle.past.specs.Event.{said_by, span_then}
use Rattle.span.specs.Span.{ceiling, upto}
use Rattle.choice.specs.declared.case.Case.{Case}
use Rattle.choice.specs.declared.case.Claim.{Claim}
use Rattle.choice.specs.Row.{over_row, row_of}
use Rattle.trail.specs.declared.Moment.{Moment}
use Rattle.trail.specs.Trail.{stepped, walked}
use Rattle.window.specs.Ring.{claimed, nothing}
use Rattle.window.specs.View.{View}

-- the window of a run that begins with true time anything up to the latest
abbrev pub begun : ℕ → ℕ → ℕ → List ℕ → View
begun servers drift latest cs = record {
  servers = servers;
  drift = drift;
  base = row_of (λ c. upto latest) cs;
  mark = row_of (λ c. upto latest) cs;
  here = row_of (λ c. upto latest) cs;
  kept = [];
  lag = 0;
}

-- the place of the mark: so many kept moments came before it
abbrev pub mark_at : View → ℕ
mark_at v = length v.kept - v.lag

-- one moment more: the spans now go through it
abbrev pub made_by : Moment → View → View
made_by m v = record {
  servers = v.servers;
  drift = v.drift;
  base = v.base;
  mark = v.mark;
  here = over_row (stepped v.drift m) v.here;
  kept = v.kept ++ m ∷ [];
  lag = v.lag + 1;
}

-- the oldest moments are forgotten: the spans before the kept moments go through them
abbrev pub forgot : ℕ → View → View
forgot k v = record {
  servers = v.servers;
  drift = v.drift;
  mark = v.mark;
  here = v.here;
  lag = v.lag;
  base = walked v.drift (take k v.kept) v.base;
  kept = drop k v.kept;
}

-- the mark comes to the last moment
abbrev pub marked_here : View → View
marked_here v = record {
  servers = v.servers;
  drift = v.drift;
  base = v.base;
  here = v.here;
  kept = v.kept;
  mark = v.here;
  lag = 0;
}

-- the mark moves on through the moments, so that k came since it
abbrev pub marked_on : ℕ → View → View
marked_on k v = record {
  servers = v.servers;
  drift = v.drift;
  base = v.base;
  here = v.here;
  kept = v.kept;
  mark = walked v.drift (take (v.lag - k) (drop (mark_at v) v.kept)) v.mark;
  lag = k;
}

-- the one if none, the other if some came since it
abbrev pub settled : ℕ → View → View
settled k v = cond (k == 0) (marked_here v) (marked_on k v)

-- the place of the moment that has so many after it
abbrev pub place_of : View → ℕ → ℕ
place_of v since = length v.kept - 1 - since

-- the spans now are those from the mark through all moments since
abbrev pub wound : View → View
wound v = record {
  servers = v.servers;
  drift = v.drift;
  base = v.base;
  mark = v.mark;
  lag = v.lag;
  kept = v.kept;
  here = walked v.drift (take v.lag (drop (mark_at v) v.kept)) v.mark;
}

-- a claim is put down at the moment that has so many after it, and the spans now are those from the mark through all moments since
abbrev pub with_claim : ℕ → Claim → View → List Moment
with_claim since c v = slice_set v.kept (place_of v since) (claimed c (slice_index_or v.kept (place_of v since) nothing))

abbrev pub answered : ℕ → Claim → View → View
answered since c v = wound (record {
  servers = v.servers;
  drift = v.drift;
  base = v.base;
  mark = v.mark;
  here = v.here;
  lag = v.lag;
  kept = with_claim since c v;
})

-- nothing is kept, and true time is anything up to the ceiling
abbrev pub forgets_all : List Case → List Case
forgets_all row = over_row (λ c s. upto ceiling) row

abbrev pub anew : View → View
anew v = record {
  servers = v.servers;
  drift = v.drift;
  base = forgets_all v.base;
  mark = forgets_all v.mark;
  here = forgets_all v.here;
  kept = [];
  lag = 0;
}

-- a moment is kept for two hours: how many of the first moments are older
abbrev pub two_hours : ℕ
two_hours = 7200000000

abbrev pub older : ℕ → List Moment → ℕ
older count ms = prefix_len (λ m. nat_lt two_hours (count - m.count)) ms

-- those before the mark that are older than two hours are forgotten
abbrev pub aged : ℕ → View → View
aged count v = forgot (older count (take (mark_at v) v.kept)) v

-- as many moments are kept as can be
abbrev pub is_full : View → Bool
is_full v = length v.kept == 1024

-- and if there is no room for one more then, the oldest
abbrev pub roomy : ℕ → View → View
roomy count v = cond (is_full (aged count v)) (forgot 1 (aged count v)) (aged count v)

-- what is said of the kept moment at a place
abbrev pub said_at : ℕ → View → Option (ℕ × ℕ)
said_at place v = said_by (λ c. span_then v.drift c (take (place + 1) v.kept) (drop (place + 1) v.kept)) None v.base
