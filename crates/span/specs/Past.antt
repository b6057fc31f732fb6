-- What is worked out of a past moment: the span that the moments up to it leave, met with what the moments after it leave, taken back through the drift.
use Rattle.std.specs.Prelude.{◌≡◌, ℕ, ◌<◌, true, T, List, [], ◌∷◌, length, take, drop, slice_index}
use Rattle.span.specs.World.{Event, Rules, Faulty, Way}
use Rattle.span.specs.Span.{is_in, ceiling, upto, earlier, meet}
use Rattle.span.specs.Model.{Moment, moments, cut_all, through}
use Rattle.span.specs.declared.Span.{Span}

-- back from a span at the latest of these moments to the moment before them: cut by what is claimed of each, and then back through the drift
unfoldable pub back_through : Rules → Faulty → List Moment → Span → Span
back_through r who [] b = b
back_through r who (m ∷ ms) b = back_through r who ms (earlier r.drift m.ticks (cut_all who m.claims b))

-- the span at the moment that has k after it, if these servers are faulty, by all that is known now
abbrev pub past_of : Rules → Faulty → ℕ → List Event → Span
past_of r who k es = meet (through r who (drop k (moments es))) (back_through r who (take k (moments es)) (upto ceiling))

-- With known faulty servers a time is in the span of a past moment exactly if true time can have gone some way on which it was that time then; the way is given. (A way has its times at all moments, the latest first.)
abbrev pub KnownPastExact : Type 0
KnownPastExact =
    (r : Rules) (who : Faulty) (es : List Event) (k : ℕ) → k < length es → (t : ℕ) →
    (T (is_in t (past_of r who k es)) → (u : ℕ) × (ts : List ℕ) × Way r who es u ts × (slice_index ts k ≡ t)) ×
    ((u : ℕ) (ts : List ℕ) → Way r who es u ts → slice_index ts k ≡ t → T (is_in t (past_of r who k es)))

-- If more servers are faulty, the span of a past moment is wider.
abbrev pub MoreFaultyPastWider : Type 0
MoreFaultyPastWider =
    (r : Rules) (few many : Faulty) → ((v : ℕ) → few v ≡ true → many v ≡ true) →
    (es : List Event) (k : ℕ) → k < length es → (t : ℕ) → T (is_in t (past_of r few k es)) → T (is_in t (past_of r many k es))
