-- What is promised of spans if it is known who is faulty.
use Rattle.std.specs.Prelude.{◌≡◌, ℕ, ◌≤◌, true, false, T, List, slice_index}
use Rattle.span.specs.Rate.{Fits}
use Rattle.span.specs.World.{Event, Rules, Faulty, Told, Way, Accepts}
use Rattle.span.specs.Span.{is_in}
use Rattle.span.specs.Model.{span_of}

-- The bounds of a reply lose nothing. Wherever true time has gone a way to t, and on to u at the moment at which the reply comes, the reply of a server that is not faulty was made at some time between its asking and then, within what it says, exactly if at its asking it was at most the greatest and now it is at least the least that it says.
abbrev pub BoundsLoseNothing : Type 0
BoundsLoseNothing =
    (r : Rules) (who : Faulty) (es : List Event) (t u n : ℕ) (ts : List ℕ) → Way r who es t ts → Fits r.drift n t u →
    (v since least greatest : ℕ) → who v ≡ false → least ≤ greatest →
    (Told who (Accepts v since least greatest) ts u → (slice_index ts since ≤ greatest) × (least ≤ u)) ×
    ((slice_index ts since ≤ greatest) × (least ≤ u) → Told who (Accepts v since least greatest) ts u)

-- With known faulty servers a time is in the span exactly if true time can have gone some way to it; the way is given.
abbrev pub KnownExact : Type 0
KnownExact =
    (r : Rules) (who : Faulty) (es : List Event) (t : ℕ) →
    (T (is_in t (span_of r who es)) → (ts : List ℕ) × Way r who es t ts) ×
    ((ts : List ℕ) → Way r who es t ts → T (is_in t (span_of r who es)))

-- If more servers are faulty, the span is wider.
abbrev pub MoreFaultyWider : Type 0
MoreFaultyWider =
    (r : Rules) (few many : Faulty) → ((v : ℕ) → few v ≡ true → many v ≡ true) →
    (es : List Event) (t : ℕ) → T (is_in t (span_of r few es)) → T (is_in t (span_of r many es))
