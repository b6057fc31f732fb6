-- After each step a window stands for the moments of a run with this step's.
use Rattle.std.proofs.Common.{◌≡◌, ℕ, ◌+◌, ◌-◌, ◌<◌, ◌≤◌, Bool, true, false, cond, eqb, List, [], ◌∷◌, ◌++◌, length, get_or, take, drop, None, sym, refl, ap, ◌∙◌, subst, arith, length-append, length-drop, take-append-drop, length-take}
use Rattle.std.proofs.lemmas.List.{length-set, take-set-le, take_all}
use lib.Seq.{take-append-le}
use Rattle.std.proofs.lemmas.Bool.{eqb-true}
use Rattle.span.specs.World.{Rules}
use Rattle.span.specs.Model as model
use Rattle.span.specs.Model.{put, through}
use Rattle.choice.specs.declared.case.Claim.TheVariants.{AtMost}
use Rattle.span.specs.Span.{ceiling, upto}
use Rattle.choice.specs.declared.case.Case.{Case}
use Rattle.choice.specs.Choice.{bit}
use Rattle.choice.specs.Row.{row_of, row_through}
use Rattle.choice.proofs.Rows.{kept_through, over_rows}
use Rattle.choice.specs.Stands.{AllFull}
use Rattle.trail.specs.declared.Moment.{Moment}
use Rattle.trail.specs.Trail.{moment_of, onto}
use Rattle.trail.proofs.Walks.{row_steps, row_walks}
use Rattle.window.specs.Ring.{claimed, nothing}
use Rattle.window.specs.View.{View}
use Rattle.window.specs.Steps.{mark_at, made_by, forgot, marked_here, marked_on, settled, place_of, with_claim, answered, anew, begun, forgets_all, older, aged, is_full, roomy}
use Rattle.window.specs.Stands.{from_ceiling, Adds, Bounds, Keeps, Parts, Restarts}
use Rattle.window.proofs.Onto.{onto_join, onto_push, onto_two, put_onto}
use Rattle.window.proofs.Walks.{older_within}

module _ (r : Rules) (ms : List model.Moment) (v : View) (p : Parts r ms v) where
  -- what a row through kept moments is, by any other name of these moments
  rows : {a b : List model.Moment} → a ≡ b → row_through r a p.choices ≡ row_through r b p.choices
  rows e = ap (λ x. row_through r x p.choices) e

  pub stays_made : (m : Moment) → v.lag ≤ length v.kept → Parts r (moment_of m ∷ ms) (made_by m v)
  stays_made m h =
      let long = length-append v.kept (m ∷ []) in
      let at : length (v.kept ++ m ∷ []) - (v.lag + 1) ≡ mark_at v = omega arith in
      record {
        forgotten = p.forgotten;
        choices = p.choices;
        servers = p.servers;
        drift = p.drift;
        full = p.full;
        whole = ap (λ x. moment_of m ∷ x) p.whole ∙ sym (onto_push v.kept m p.forgotten);
        base = p.base;
        mark = p.mark ∙ rows (ap (λ l. onto l p.forgotten) (sym (ap (λ n. take n (v.kept ++ m ∷ [])) at ∙ take-append-le (mark_at v) v.kept (m ∷ []) (omega arith))));
        here = row_steps v.drift m v.here r ms p.choices p.drift p.here;
      }

  pub stays_forgot : (k : ℕ) → k + v.lag ≤ length v.kept → Parts r ms (forgot k v)
  stays_forgot k h =
      let long = length-drop k v.kept in
      let at : k + (length (drop k v.kept) - v.lag) ≡ mark_at v = omega arith in
      record {
        forgotten = onto (take k v.kept) p.forgotten;
        choices = p.choices;
        servers = p.servers;
        drift = p.drift;
        full = p.full;
        whole = p.whole ∙ ap (λ l. onto l p.forgotten) (sym (take-append-drop k v.kept)) ∙ onto_join (take k v.kept) (drop k v.kept) p.forgotten;
        base = row_walks v.drift (take k v.kept) v.base r p.forgotten p.choices p.drift p.base;
        mark = p.mark ∙ rows (sym (onto_two k (length (drop k v.kept) - v.lag) v.kept p.forgotten ∙ ap (λ n. onto (take n v.kept) p.forgotten) at));
        here = p.here;
      }

  stays_marked_here : Parts r ms (marked_here v)
  stays_marked_here = record {
    forgotten = p.forgotten;
    choices = p.choices;
    servers = p.servers;
    drift = p.drift;
    full = p.full;
    whole = p.whole;
    base = p.base;
    mark = p.here ∙ rows (p.whole ∙ ap (λ l. onto l p.forgotten) (sym (take_all (length v.kept - 0) v.kept (omega arith))));
    here = p.here;
  }

  stays_marked_on : (k : ℕ) → k ≤ v.lag → v.lag ≤ length v.kept → Parts r ms (marked_on k v)
  stays_marked_on k h l =
      let at : mark_at v + (v.lag - k) ≡ length v.kept - k = omega arith in
      record {
        forgotten = p.forgotten;
        choices = p.choices;
        servers = p.servers;
        drift = p.drift;
        full = p.full;
        whole = p.whole;
        base = p.base;
        mark =
            row_walks v.drift (take (v.lag - k) (drop (mark_at v) v.kept)) v.mark r (onto (take (mark_at v) v.kept) p.forgotten) p.choices p.drift p.mark
            ∙ rows (onto_two (mark_at v) (v.lag - k) v.kept p.forgotten ∙ ap (λ n. onto (take n v.kept) p.forgotten) at);
        here = p.here;
      }

  pub stays_settled : (k : ℕ) → k ≤ v.lag → v.lag ≤ length v.kept → Parts r ms (settled k v)
  stays_settled k h l = go (eqb k 0) where
    go : (b : Bool) → Parts r ms (cond b (marked_here v) (marked_on k v))
    go true = stays_marked_here
    go false = stays_marked_on k h l

  pub stays_answered : (since s t : ℕ) → since < v.lag → v.lag ≤ length v.kept → (get_or v.kept (place_of v since) nothing).claim ≡ None → Parts r (put since s t ms) (answered since (AtMost s t) v)
  stays_answered since s t h l e =
      let new = claimed (AtMost s t) (get_or v.kept (place_of v since) nothing) in
      let kept = with_claim since (AtMost s t) v in
      let long = length-set v.kept (place_of v since) new in
      let whole : put since s t ms ≡ onto kept p.forgotten = ap (put since s t) p.whole ∙ put_onto v.kept since s t p.forgotten (omega arith) e in
      let at : length kept - v.lag ≡ mark_at v = omega arith in
      let before : take (length kept - v.lag) kept ≡ take (mark_at v) v.kept = ap (λ n. take n kept) at ∙ take-set-le (mark_at v) v.kept (place_of v since) new (omega arith) in
      let mark : v.mark ≡ row_through r (onto (take (length kept - v.lag) kept) p.forgotten) p.choices = p.mark ∙ rows (ap (λ l. onto l p.forgotten) (sym before)) in
      let all : length kept - v.lag + v.lag ≡ length kept = omega arith in
      record {
        forgotten = p.forgotten;
        choices = p.choices;
        servers = p.servers;
        drift = p.drift;
        full = p.full;
        whole = whole;
        base = p.base;
        mark = mark;
        here =
            row_walks v.drift (take v.lag (drop (length kept - v.lag) kept)) v.mark r (onto (take (length kept - v.lag) kept) p.forgotten) p.choices p.drift mark
            ∙ rows (onto_two (length kept - v.lag) v.lag kept p.forgotten ∙ ap (λ l. onto l p.forgotten) (ap (λ n. take n kept) all ∙ take_all (length kept) kept (omega arith)) ∙ sym whole);
      }

-- the moments before the mark that are older than two hours
pub aged_few : (count : ℕ) (v : View) → v.lag ≤ length v.kept → older count (take (mark_at v) v.kept) + v.lag ≤ length v.kept
aged_few count v h = omega (arith, older_within count (take (mark_at v) v.kept), length-take (mark_at v) v.kept)

pub aged_long : (count : ℕ) (v : View) → v.lag ≤ length v.kept → v.lag ≤ length (aged count v).kept
aged_long count v h = omega (arith, aged_few count v h, length-drop (older count (take (mark_at v) v.kept)) v.kept)

pub stays_roomy : (r : Rules) (ms : List model.Moment) (v : View) (count : ℕ) → Parts r ms v → v.lag ≤ length v.kept → v.lag < 1024 → Parts r ms (roomy count v)
stays_roomy r ms v count p h l = go (is_full (aged count v)) refl where
  old : Parts r ms (aged count v)
  old = stays_forgot r ms v p (older count (take (mark_at v) v.kept)) (aged_few count v h)

  go : (b : Bool) → is_full (aged count v) ≡ b → Parts r ms (cond b (forgot 1 (aged count v)) (aged count v))
  go true e = stays_forgot r ms (aged count v) old 1 (omega (arith, eqb-true _ 1024 e))
  go false e = old

-- a new beginning
anew_full : (r : Rules) (cs : List ℕ) → AllFull r cs → AllFull (from_ceiling r) cs
anew_full r cs a = record {
  fewer = a.fewer;
  full = λ k h. record { there = (a.full k h).there; many = (a.full k h).many };
  all = λ c f. a.all c (record { there = f.there; many = f.many });
}

forgotten_row : (r : Rules) (ms : List model.Moment) (cs : List ℕ) (row : List Case) → row ≡ row_through r ms cs → forgets_all row ≡ row_of (λ c. upto ceiling) cs
forgotten_row r ms cs row e = ap forgets_all e ∙ over_rows (λ c s. upto ceiling) (λ c. through r (bit c) ms) (λ c. kept_through r (bit c) ms) cs

pub stays_anew : (r : Rules) (ms : List model.Moment) (v : View) → Parts r ms v → Parts (from_ceiling r) [] (anew v)
unfolding through onto
stays_anew r ms v p = record {
  forgotten = [];
  choices = p.choices;
  servers = p.servers;
  drift = p.drift;
  full = anew_full r p.choices p.full;
  whole = refl;
  base = forgotten_row r p.forgotten p.choices v.base p.base;
  mark = forgotten_row r (onto (take (mark_at v) v.kept) p.forgotten) p.choices v.mark p.mark;
  here = forgotten_row r ms p.choices v.here p.here;
}

pub stays_begun : (r : Rules) (cs : List ℕ) → AllFull r cs → Parts r [] (begun r.servers r.drift r.latest cs)
unfolding through onto
stays_begun r cs a = record { forgotten = []; choices = cs; servers = refl; drift = refl; full = a; whole = refl; base = refl; mark = refl; here = refl }

pub begins_by : (n d latest : ℕ) (cs : List ℕ) (r : Rules) → r.servers ≡ n → r.drift ≡ d → r.latest ≡ latest → AllFull r cs → Parts r [] (begun n d latest cs)
begins_by n d latest cs r s p q a = subst (λ x. Parts r [] (begun x d latest cs)) s (subst (λ x. Parts r [] (begun r.servers x latest cs)) p (subst (λ x. Parts r [] (begun r.servers r.drift x cs)) q (stays_begun r cs a)))

pub roomy_long : (count : ℕ) (v : View) → v.lag ≤ length v.kept → v.lag < 1024 → v.lag ≤ length (roomy count v).kept
roomy_long count v h l = go (is_full (aged count v)) refl where
  go : (b : Bool) → is_full (aged count v) ≡ b → v.lag ≤ length (cond b (forgot 1 (aged count v)) (aged count v)).kept
  go true e = omega (arith, eqb-true (length (aged count v).kept) 1024 e, length-drop 1 (aged count v).kept)
  go false e = aged_long count v h

-- What each call promises of the window that it leaves, if that is what it is said to be.
pub adds_by : (m : Moment) (v w : View) → v.lag ≤ length v.kept → w ≡ made_by m v → Adds m v w
adds_by m v w h e r ms p = subst (Parts r (moment_of m ∷ ms)) (sym e) (stays_made r ms v p m h)

pub settles_by : (k : ℕ) (v w : View) → k ≤ v.lag → v.lag ≤ length v.kept → w ≡ settled k v → Keeps v w
settles_by k v w h l e r ms p = subst (Parts r ms) (sym e) (stays_settled r ms v p k h l)

pub makes_room_by : (count : ℕ) (v w : View) → v.lag ≤ length v.kept → v.lag < 1024 → w ≡ roomy count v → Keeps v w
makes_room_by count v w h l e r ms p = subst (Parts r ms) (sym e) (stays_roomy r ms v count p h l)

pub bounds_by : (since s t : ℕ) (v w : View) → since < v.lag → v.lag ≤ length v.kept → w ≡ answered since (AtMost s t) v → Bounds since s t v w
bounds_by since s t v w h l e r ms p free = subst (Parts r (put since s t ms)) (sym e) (stays_answered r ms v p since s t h l free)

pub restarts_by : (v w : View) → w ≡ anew v → Restarts v w
restarts_by v w e r ms p = subst (Parts (from_ceiling r) []) (sym e) (stays_anew r ms v p)
