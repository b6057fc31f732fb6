-- Pending requests as askings of a run: what closing, answering, and a moment more leave of them.
use Rattle.std.proofs.Common.{◌≡◌, ℕ, zero, suc, ◌+◌, ◌-◌, ◌<◌, ◌≤◌, Bool, true, false, cond, ◌≢◌, List, [], ◌∷◌, ◌++◌, map, length, get_or, drop, set, filter, sym, refl, ap, ◌∙◌, ⊎_elim, add-one, arith, length-append, length-drop, get_or-set_other, get_or-set_same}
use Rattle.std.specs.List.{remove, AllByRecursion}
use Rattle.std.proofs.lemmas.List.{get_or_append_left, get_or-append_right, get_or-drop, length-set}
use Rattle.std.proofs.ByRecursion.{All-get_or, All-from_get_or}
use Rattle.std.proofs.lemmas.Bool.{cases_lt, cases_eq}
use Rattle.span.specs.World.{Event}
use Rattle.choice.specs.declared.case.Claim.{Claim}
use Rattle.trail.specs.declared.Moment.{Moment}
use Rattle.window.specs.Ring.{claimed, nothing}
use Rattle.requests.specs.declared.request.Request.{Request}
use Rattle.requests.specs.Request.{later_by, no_request, reach_of, renonced}
use Rattle.requests.proofs.Reach.{reach_each}
use Rattle.exchange.specs.Stands.{event_at, ticks_of, is_mark, Awaits, Falls, Seen}

-- some of them
pub all_kept : {X : Type 0} (P : X → Type 0) (p : X → Bool) (xs : List X) → AllByRecursion P xs → AllByRecursion P (filter p xs)
all_kept P p [] h = tt
all_kept P p (x ∷ xs) h = go (p x) (all_kept P p xs h.1) where
  go : (b : Bool) → AllByRecursion P (filter p xs) → AllByRecursion P (cond b (x ∷ filter p xs) (filter p xs))
  go true k = (h.0, k)
  go false k = k

pub all_removed : {X : Type 0} (P : X → Type 0) (xs : List X) (i : ℕ) → AllByRecursion P xs → AllByRecursion P (remove xs i)
all_removed P [] zero h = tt
all_removed P [] (suc i) h = tt
all_removed P (x ∷ xs) zero h = h.1
all_removed P (x ∷ xs) (suc i) h = (h.0, all_removed P xs i h.1)

pub falls_below : (a b : ℕ) (qs : List Request) → a ≤ b → Falls a qs → Falls b qs
unfolding Falls
falls_below a b [] h f = tt
falls_below a b (q ∷ qs) h f = (omega (arith, f.0), f.1)

pub falls_kept : (p : Request → Bool) (b : ℕ) (qs : List Request) → Falls b qs → Falls b (filter p qs)
unfolding Falls
falls_kept p b [] f = tt
falls_kept p b (q ∷ qs) f = go (p q) (falls_kept p q.since qs f.1) where
  go : (c : Bool) → Falls q.since (filter p qs) → Falls b (cond c (q ∷ filter p qs) (filter p qs))
  go true k = (f.0, k)
  go false k = falls_below q.since b (filter p qs) (omega (arith, f.0)) k

pub falls_removed : (b : ℕ) (qs : List Request) (i : ℕ) → Falls b qs → Falls b (remove qs i)
unfolding Falls
falls_removed b [] zero f = tt
falls_removed b [] (suc i) f = tt
falls_removed b (q ∷ qs) zero f = falls_below q.since b qs (omega (arith, f.0)) f.1
falls_removed b (q ∷ qs) (suc i) f = (f.0, falls_removed q.since qs i f.1)

pub falls_renonced : (b : ℕ) (qs : List Request) (i : ℕ) (n : List ℕ) → Falls b qs → Falls b (set qs i (renonced n (get_or qs i no_request)))
unfolding Falls
falls_renonced b [] i n f = tt
falls_renonced b (q ∷ qs) zero n f = f
falls_renonced b (q ∷ qs) (suc i) n f = (f.0, falls_renonced q.since qs i n f.1)

pub falls_later : (b : ℕ) (qs : List Request) → Falls b qs → Falls (b + 1) (map later_by qs)
unfolding Falls
falls_later b [] f = tt
falls_later b (q ∷ qs) f = (omega (arith, f.0), falls_later q.since qs f.1)

-- one more, asked just now
pub falls_push : (b : ℕ) (qs : List Request) (q : Request) → 0 < b → q.since ≡ 0 → Falls b qs → AllByRecursion (λ x. 0 < x.since) qs → Falls b (qs ++ q ∷ [])
unfolding Falls
falls_push b [] q h e f a = (omega (arith, e), tt)
falls_push b (x ∷ qs) q h e f a = (f.0, falls_push x.since qs q a.0 e f.1 a.1)

pub later_some : (qs : List Request) → AllByRecursion (λ x. 0 < x.since) (map later_by qs)
later_some [] = tt
later_some (q ∷ qs) = (omega arith, later_some qs)

-- the one at a place is the only one of its moment
below_all : (b : ℕ) (qs : List Request) → Falls b qs → AllByRecursion (λ x. x.since < b) qs
unfolding Falls
below_all b [] f = tt
below_all b (q ∷ qs) f = (f.0, weaker q.since b qs (omega (arith, f.0)) (below_all q.since qs f.1)) where
  weaker : (a c : ℕ) (xs : List Request) → a ≤ c → AllByRecursion (λ x. x.since < a) xs → AllByRecursion (λ x. x.since < c) xs
  weaker a c [] h k = tt
  weaker a c (x ∷ xs) h k = (omega (arith, k.0), weaker a c xs h k.1)

all_off : (b : ℕ) (qs : List Request) → AllByRecursion (λ x. x.since < b) qs → AllByRecursion (λ x. x.since ≢ b) qs
all_off b [] h = tt
all_off b (q ∷ qs) h = (omega (arith, h.0), all_off b qs h.1)

pub others_apart : (b : ℕ) (qs : List Request) (i : ℕ) → i < length qs → Falls b qs → AllByRecursion (λ x. x.since ≢ (get_or qs i no_request).since) (remove qs i)
unfolding Falls
others_apart b [] i h f = absurd (omega arith)
others_apart b (q ∷ qs) zero h f = all_off q.since qs (below_all q.since qs f.1)
others_apart b (q ∷ qs) (suc i) h f =
    let below = All-get_or (λ x. x.since < q.since) qs i no_request (omega arith) (below_all q.since qs f.1) in
    (omega (arith, below), others_apart q.since qs i (omega arith) f.1)

-- each one is near enough
pub reach_all : (qs : List Request) → AllByRecursion (λ x. x.since < reach_of qs) qs
reach_all qs = All-from_get_or (λ x. x.since < reach_of qs) qs no_request (reach_each qs)

-- one thing of each from two others
pub all_both : {X Y : Type 0} (f : X → Y) (P Q : X → Type 0) (R : Y → Type 0) → ((x : X) → P x → Q x → R (f x)) → (xs : List X) → AllByRecursion P xs → AllByRecursion Q xs → AllByRecursion R (map f xs)
all_both f P Q R g [] h k = tt
all_both f P Q R g (x ∷ xs) h k = (g x h.0 k.0, all_both f P Q R g xs h.1 k.1)

pub all_two : {X : Type 0} (P Q R : X → Type 0) → ((x : X) → P x → Q x → R x) → (xs : List X) → AllByRecursion P xs → AllByRecursion Q xs → AllByRecursion R xs
all_two P Q R g [] h k = tt
all_two P Q R g (x ∷ xs) h k = (g x h.0 k.0, all_two P Q R g xs h.1 k.1)

-- what a moment more leaves of a pending request
pub awaits_later : (begun : ℕ) (es : List Event) (kept : List Moment) (e : Event) (m : Moment) (q : Request) → Awaits begun es kept q → q.since < length kept → Awaits begun (e ∷ es) (kept ++ m ∷ []) (later_by q)
awaits_later begun es kept e m q a h =
    let long = length-append kept (m ∷ []) in
    let at : length (kept ++ m ∷ []) - 1 - (q.since + 1) ≡ length kept - 1 - q.since = omega arith in
    record {
      there = omega (arith, a.there);
      asked = ap (λ k. (event_at (e ∷ es) k).deed) (add-one q.since) ∙ a.asked;
      counted = a.counted ∙ ap (λ k. begun + ticks_of (drop k (e ∷ es))) (sym (add-one q.since));
      free = ap (λ k. (get_or (kept ++ m ∷ []) k nothing).claim) at ∙ ap (λ x. x.claim) (get_or_append_left kept (m ∷ []) nothing (length kept - 1 - q.since) (omega arith)) ∙ a.free;
    }

pub awaits_forgot : (begun : ℕ) (es : List Event) (kept : List Moment) (k : ℕ) (q : Request) → Awaits begun es kept q → k + q.since < length kept → Awaits begun es (drop k kept) q
awaits_forgot begun es kept k q a h =
    let long = length-drop k kept in
    let at : k + (length (drop k kept) - 1 - q.since) ≡ length kept - 1 - q.since = omega arith in
    record {
      there = a.there;
      asked = a.asked;
      counted = a.counted;
      free = ap (λ x. x.claim) (get_or-drop k kept (length (drop k kept) - 1 - q.since) nothing ∙ ap (λ n. get_or kept n nothing) at) ∙ a.free;
    }

pub awaits_claimed : (begun : ℕ) (es : List Event) (kept : List Moment) (since : ℕ) (m : Moment) (q : Request) → Awaits begun es kept q → q.since ≢ since → since < length kept → q.since < length kept → Awaits begun es (set kept (length kept - 1 - since) m) q
awaits_claimed begun es kept since m q a off h l =
    let long = length-set kept (length kept - 1 - since) m in
    let at : length (set kept (length kept - 1 - since) m) - 1 - q.since ≡ length kept - 1 - q.since = omega arith in
    let apart : length kept - 1 - q.since ≢ length kept - 1 - since = λ e. off (omega (arith, e)) in
    record {
      there = a.there;
      asked = a.asked;
      counted = a.counted;
      free = ap (λ n. (get_or (set kept (length kept - 1 - since) m) n nothing).claim) at ∙ ap (λ x. x.claim) (get_or-set_other kept (length kept - 1 - since) (length kept - 1 - q.since) m nothing apart) ∙ a.free;
    }

-- and of the kept moments
abbrev pub SeenAll : ℕ → List Event → List Moment → Type 0
SeenAll begun es kept = (p : ℕ) → p < length kept → Seen begun es (length kept - 1 - p) (get_or kept p nothing)

pub seen_made : (begun : ℕ) (es : List Event) (kept : List Moment) (e : Event) (m : Moment) → SeenAll begun es kept → Seen begun (e ∷ es) 0 m → SeenAll begun (e ∷ es) (kept ++ m ∷ [])
seen_made begun es kept e m s n p h = ⊎_elim before last (cases_lt p (length kept)) where
  long : length (kept ++ m ∷ []) ≡ length kept + 1
  long = length-append kept (m ∷ [])

  before : p < length kept → Seen begun (e ∷ es) (length (kept ++ m ∷ []) - 1 - p) (get_or (kept ++ m ∷ []) p nothing)
  before l =
      let at : length (kept ++ m ∷ []) - 1 - p ≡ suc (length kept - 1 - p) = omega (arith, long) in
      let is = get_or_append_left kept (m ∷ []) nothing p l in
      let old = s p l in
      record {
        counted = ap (λ x. x.count) is ∙ old.counted ∙ ap (λ k. begun + ticks_of (drop k (e ∷ es))) (sym at);
        marked = ap (λ x. x.marked) is ∙ old.marked ∙ ap (λ k. is_mark (event_at (e ∷ es) k).deed) (sym at);
      }

  last : length kept ≤ p → Seen begun (e ∷ es) (length (kept ++ m ∷ []) - 1 - p) (get_or (kept ++ m ∷ []) p nothing)
  last l =
      let at : length (kept ++ m ∷ []) - 1 - p ≡ 0 = omega (arith, long) in
      let here : p - length kept ≡ 0 = omega (arith, long) in
      let is : get_or (kept ++ m ∷ []) p nothing ≡ m = get_or-append_right kept (m ∷ []) (length kept) p nothing refl l ∙ ap (λ k. get_or (m ∷ []) k nothing) here in
      record {
        counted = ap (λ x. x.count) is ∙ n.counted ∙ ap (λ k. begun + ticks_of (drop k (e ∷ es))) (sym at);
        marked = ap (λ x. x.marked) is ∙ n.marked ∙ ap (λ k. is_mark (event_at (e ∷ es) k).deed) (sym at);
      }

pub seen_forgot : (begun : ℕ) (es : List Event) (kept : List Moment) (k : ℕ) → SeenAll begun es kept → SeenAll begun es (drop k kept)
seen_forgot begun es kept k s p h =
    let long = length-drop k kept in
    let at : length kept - 1 - (k + p) ≡ length (drop k kept) - 1 - p = omega arith in
    let is = get_or-drop k kept p nothing in
    let old = s (k + p) (omega arith) in
    record {
      counted = ap (λ x. x.count) is ∙ old.counted ∙ ap (λ n. begun + ticks_of (drop n es)) at;
      marked = ap (λ x. x.marked) is ∙ old.marked ∙ ap (λ n. is_mark (event_at es n).deed) at;
    }

pub seen_claimed : (begun : ℕ) (es : List Event) (kept : List Moment) (place : ℕ) (c : Claim) → place < length kept → SeenAll begun es kept → SeenAll begun es (set kept place (claimed c (get_or kept place nothing)))
seen_claimed begun es kept place c l s p h = go where
  long : length (set kept place (claimed c (get_or kept place nothing))) ≡ length kept
  long = length-set kept place (claimed c (get_or kept place nothing))

  at : length kept - 1 - p ≡ length (set kept place (claimed c (get_or kept place nothing))) - 1 - p
  at = omega (arith, long)

  count_is : (get_or (set kept place (claimed c (get_or kept place nothing))) p nothing).count ≡ (get_or kept p nothing).count
  count_is = ⊎_elim (λ e. ap (λ n. (get_or (set kept place (claimed c (get_or kept place nothing))) n nothing).count) e ∙ ap (λ x. x.count) (get_or-set_same kept place (claimed c (get_or kept place nothing)) nothing l) ∙ ap (λ n. (get_or kept n nothing).count) (sym e)) (λ o. ap (λ x. x.count) (get_or-set_other kept place p (claimed c (get_or kept place nothing)) nothing o)) (cases_eq p place)

  marked_is : (get_or (set kept place (claimed c (get_or kept place nothing))) p nothing).marked ≡ (get_or kept p nothing).marked
  marked_is = ⊎_elim (λ e. ap (λ n. (get_or (set kept place (claimed c (get_or kept place nothing))) n nothing).marked) e ∙ ap (λ x. x.marked) (get_or-set_same kept place (claimed c (get_or kept place nothing)) nothing l) ∙ ap (λ n. (get_or kept n nothing).marked) (sym e)) (λ o. ap (λ x. x.marked) (get_or-set_other kept place p (claimed c (get_or kept place nothing)) nothing o)) (cases_eq p place)

  go : Seen begun es (length (set kept place (claimed c (get_or kept place nothing))) - 1 - p) (get_or (set kept place (claimed c (get_or kept place nothing))) p nothing)
  go =
      let old = s p (omega (arith, long)) in
      record {
        counted = count_is ∙ old.counted ∙ ap (λ n. begun + ticks_of (drop n es)) at;
        marked = marked_is ∙ old.marked ∙ ap (λ n. is_mark (event_at es n).deed) at;
      }
