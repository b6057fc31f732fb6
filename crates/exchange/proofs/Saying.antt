-- What is said is exact of every run that an exchange stands for.
use Rattle.std.proofs.Common.{◌≡◌, ℕ, ◌-◌, ◌<◌, true, false, eqb, leb, List, length, get_or, position, ltb, cond, Bool, Some, None, Ok, Option, Result, MatchResult, Decides, sym, refl, ap, ◌∙◌, subst, ⊎_elim, arith}
use Rattle.std.proofs.lemmas.List.{get_or_past}
use Rattle.std.proofs.lemmas.Bool.{both_ways, ltb-true, and_parts, leb-true, eqb-true, cases_lt}
use Rattle.span.specs.World.{Deed, Event, Rules, World, Shows, Marks, Asks, Accepts}
use Rattle.choice.specs.declared.runs.Run.{Run}
use Rattle.choice.specs.Choice.{bit}
use Rattle.choice.specs.Promise.{FaultyInAll}
use Rattle.choice.specs.Stands.{NamesExact}
use Rattle.choice.proofs.Standing.{may_row}
use Rattle.past.specs.Event.{SaidExact}
use Rattle.std.specs.Option.{ok_or}
use Rattle.wire.specs.declared.refusal.Refusal.{Refusal}
use Rattle.wire.specs.declared.refusal.Refusal.TheVariants.{UnknownEvent}
use Rattle.window.specs.Ring.{nothing}
use Rattle.window.specs.Steps.{said_at}
use Rattle.std.specs.List.{position_or_len}
use Rattle.std.proofs.lemmas.List.Sums.{passes_at_first}
use Rattle.exchange.specs.State.{State}
use Rattle.exchange.specs.Steps.{an_hour, event_said, is_event, is_this, said_if}
use Rattle.exchange.specs.Stands.{event_at, is_mark, Stands, SaysWorlds, NamesWorlds}
use Rattle.exchange.specs.Events.{EventIs, EventWorlds}
use Rattle.exchange.proofs.Following.{row_stands, ticks_split}

pub says_worlds : (s : State) (rs : List Run) → SaysWorlds s rs rs
says_worlds s rs r es h t = subst (λ b. Decides b (World r es t)) (sym (h.says.same t)) (may_row r es s.window.here (row_stands r es s.window h.holds.window) t)

pub names_worlds : (s : State) (rs : List Run) (set : ℕ) → NamesExact s.window.servers s.window.here set → NamesWorlds s rs set
names_worlds s rs set exact r es h v = subst (λ n. (v < n → Decides (bit set v) (FaultyInAll r es v)) × (bit set v ≡ true → v < n)) (sym h.holds.window.servers) (exact r es (row_stands r es s.window h.holds.window) v)

-- the first place that is found
found_at : {X : Type 0} (p : X → Bool) (xs : List X) (i : ℕ) → Some i ≡ position p xs → (i ≡ position_or_len p xs) × (i < length xs)
found_at p xs i e = go (ltb (position_or_len p xs) (length xs)) refl e where
  go : (b : Bool) → ltb (position_or_len p xs) (length xs) ≡ b → Some i ≡ cond b (Some (position_or_len p xs)) None → (i ≡ position_or_len p xs) × (i < length xs)
  go true f e = (cc, let same : i ≡ position_or_len p xs = cc in omega (arith, ltb-true (position_or_len p xs) (length xs) f))
  go false f e = absurd (let z : ◌≡◌ {A = ℕ} 0 1 = cc in omega arith)

-- only a mark marks
mark_is : (d : Deed) → is_mark d ≡ true → d ≡ Marks
mark_is Shows e = absurd (both_ways false refl e)
mark_is Marks e = refl
mark_is (Asks v) e = absurd (both_ways false refl e)
mark_is (Accepts v a b c) e = absurd (both_ways false refl e)

mark_there : (es : List Event) (k : ℕ) → is_mark (event_at es k).deed ≡ true → k < length es
mark_there es k e = ⊎_elim (λ l. l) (λ l. absurd (both_ways false refl (sym (ap (λ x. is_mark x.deed) (get_or_past es k _ l)) ∙ e))) (cases_lt k (length es))

event_is : (event : ℕ) (s : State) (rs : List Run) (place : ℕ) (b : ℕ × ℕ) → Some place ≡ position (is_this event s.count) s.window.kept → SaidExact s.window.drift s.window.base s.window.kept place (Some b) → (r : Rules) (es : List Event) → Stands r es s rs → EventIs event s b r es
event_is event s rs place b e said r es h =
    let kept = s.window.kept in
    let at = found_at (is_this event s.count) kept place e in
    let k = length kept - 1 - place in
    let m = get_or kept place nothing in
    let this : is_this event s.count m ≡ true = ap (λ n. is_this event s.count (get_or kept n nothing)) at.0 ∙ passes_at_first (is_this event s.count) kept nothing (omega (arith, at.0, at.1)) in
    let parts = and_parts (is_event s.count m) (eqb m.count event) this in
    let marks = and_parts m.marked (leb (s.count - m.count) an_hour) parts.0 in
    let count = eqb-true m.count event parts.1 in
    let seen = h.holds.seen place at.1 in
    let marked = sym seen.marked ∙ marks.0 in
    let p = h.holds.window in
    record {
      since = k;
      there = mark_there es k marked;
      marked = mark_is (event_at es k).deed marked;
      counted = omega (arith, count, seen.counted, h.holds.counted, ticks_split k es);
      lately = omega (arith, count, leb-true (s.count - m.count) an_hour marks.1);
      exact = said r es p.forgotten p.choices p.drift p.full p.base p.whole;
    }

-- a kept event always has something said of it, since a world is left
event_said_lem : (event : ℕ) (s : State) (rs : List Run) (place : ℕ) → SaidExact s.window.drift s.window.base s.window.kept place None → (r : Rules) (es : List Event) → Stands r es s rs → ⊥
event_said_lem event s rs place said r es h =
    let p = h.holds.window in
    said r es p.forgotten p.choices p.drift p.full p.base p.whole _ (record { present = h.present; world = h.lives; was = refl })

-- what is found where it is answered
pub found_by : {X E : Type 0} (o : Option X) (e : E) (x : X) → ok_or o e ≡ Ok x → Some x ≡ o
found_by None e x h = absurd (let z : ◌≡◌ {A = ℕ} 0 1 = cc in omega arith)
found_by (Some y) e x h = cc

-- what is answered of an event that is found
pub event_told : (event : ℕ) (s : State) (rs : List Run) (place : ℕ) (o : Option (ℕ × ℕ)) (out : Result (ℕ × ℕ) Refusal) → out ≡ ok_or o UnknownEvent → Some place ≡ position (is_this event s.count) s.window.kept → o ≡ said_at place s.window → SaidExact s.window.drift s.window.base s.window.kept place o → MatchResult out (λ b. event_said event s ≡ Some b) (λ e. (event_said event s ≡ None) × (e ≡ UnknownEvent)) × EventWorlds event s rs out
event_told event s rs place o out e at is said = subst (λ x. MatchResult x (λ b. event_said event s ≡ Some b) (λ e. (event_said event s ≡ None) × (e ≡ UnknownEvent)) × EventWorlds event s rs x) (sym e) (go o is said) where
  go : (o : Option (ℕ × ℕ)) → o ≡ said_at place s.window → SaidExact s.window.drift s.window.base s.window.kept place o → MatchResult (ok_or o UnknownEvent) (λ b. event_said event s ≡ Some b) (λ e. (event_said event s ≡ None) × (e ≡ UnknownEvent)) × EventWorlds event s rs (ok_or o UnknownEvent)
  go None is said = ((ap (λ o. said_if o s) (sym at) ∙ sym is, refl), λ r es h. absurd (event_said_lem event s rs place said r es h))
  go (Some b) is said = (ap (λ o. said_if o s) (sym at) ∙ sym is, event_is event s rs place b at said)
