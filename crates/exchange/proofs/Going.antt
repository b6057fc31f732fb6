-- What is kept stays that of the run, step by step.
use Rattle.std.proofs.Common.{◌≡◌, ℕ, ◌+◌, ◌-◌, ◌<◌, ◌≤◌, Bool, true, false, cond, ◌≢◌, List, [], ◌∷◌, ◌++◌, map, length, get_or, take, drop, set, None, filter, sym, refl, ap, ◌∙◌, subst, ⊎_elim, add-one, arith, length-append, get_or-set_other, get_or-set_same}
use Rattle.std.specs.List.{remove, AllByRecursion}
use Rattle.std.proofs.ByRecursion.{All-get_or, All-set, All-append}
use Rattle.std.proofs.lemmas.List.{get_or-append_right, length-set}
use Rattle.std.proofs.lemmas.Bool.{cases_eq, eqb-true}
use Rattle.span.specs.World.{Event, Rules, Asks}
use Rattle.span.specs.Model as model
use Rattle.span.specs.Model.{put, moments}
use Rattle.choice.specs.declared.case.Claim.TheVariants.{AtMost}
use Rattle.trail.specs.declared.Moment.{Moment}
use Rattle.trail.specs.Trail.{moment_of}
use Rattle.window.specs.Ring.{claimed, nothing}
use Rattle.window.specs.View.{View}
use Rattle.window.specs.Steps.{mark_at, made_by, forgot, settled, older, aged, is_full, roomy, place_of, with_claim, answered}
use Rattle.window.proofs.Stays.{stays_made, stays_forgot, stays_settled, stays_answered, aged_few, roomy_long}
use Rattle.requests.specs.declared.request.Request.{Request}
use Rattle.requests.specs.Request.{later_by, no_request, reach_of, renonced}
use Rattle.requests.specs.Book.{Book, oldest_like, answered_at}
use Rattle.exchange.specs.Stands.{ticks_of, is_mark, Answers, Formed, Awaits, Falls, Holds}
use Rattle.exchange.proofs.Views.{settled_lag, settled_kept, roomy_lag, reach_answered}
use Rattle.exchange.proofs.Awaiting.{SeenAll, all_kept, all_removed, all_both, all_two, falls_kept, falls_removed, falls_renonced, falls_later, falls_push, later_some, others_apart, reach_all, awaits_later, awaits_forgot, awaits_claimed, seen_made, seen_forgot, seen_claimed}

module _ (r : Rules) (es : List Event) (ms : List model.Moment) (begun : ℕ) (w : View) (ps : List Request) (last : ℕ) (h : Holds r es ms begun w ps last) where
  -- some requests are closed
  pub holds_kept : (p : Request → Bool) → Holds r es ms begun w (filter p ps) last
  holds_kept p = record {
    window = h.window;
    counted = h.counted;
    formed = h.formed;
    awaits = all_kept (Awaits begun es w.kept) p ps h.awaits;
    falls = falls_kept p (length es) ps h.falls;
    seen = h.seen;
  }

  -- the mark moves on
  holds_settled : (k : ℕ) → k ≤ w.lag → w.lag ≤ length w.kept → Holds r es ms begun (settled k w) ps last
  holds_settled k a b =
      let e = settled_kept k w in
      record {
        window = stays_settled r ms w h.window k a b;
        counted = h.counted;
        formed = h.formed;
        awaits = subst (λ x. AllByRecursion (Awaits begun es x) ps) (sym e) h.awaits;
        falls = h.falls;
        seen = subst (SeenAll begun es) (sym e) h.seen;
      }

  -- old moments are forgotten
  holds_forgot : (k : ℕ) → k + w.lag ≤ length w.kept → reach_of ps ≤ w.lag → Holds r es ms begun (forgot k w) ps last
  holds_forgot k a b = record {
    window = stays_forgot r ms w h.window k a;
    counted = h.counted;
    formed = h.formed;
    awaits = all_two (Awaits begun es w.kept) (λ q. q.since < reach_of ps) (Awaits begun es (drop k w.kept)) (λ q x l. awaits_forgot begun es w.kept k q x (omega (arith, l))) ps h.awaits (reach_all ps);
    falls = h.falls;
    seen = seen_forgot begun es w.kept k h.seen;
  }

  -- a moment is made
  holds_made : (e : Event) (m : Moment) (count : ℕ) → last ≤ count → e.ticks ≡ count - last → m.count ≡ count → m.marked ≡ is_mark e.deed → Answers e.deed es → w.lag ≤ length w.kept → reach_of ps ≤ w.lag → Holds r (e ∷ es) (moment_of m ∷ ms) begun (made_by m w) (map later_by ps) count
  unfolding Formed ticks_of
  holds_made e m count a t c k d l b =
      let counted : count ≡ begun + ticks_of (e ∷ es) = omega (arith, h.counted, t) in
      record {
        window = stays_made r ms w h.window m l;
        counted = counted;
        formed = (d, h.formed);
        awaits = all_both later_by (Awaits begun es w.kept) (λ q. q.since < reach_of ps) (Awaits begun (e ∷ es) (w.kept ++ m ∷ [])) (λ q x y. awaits_later begun es w.kept e m q x (omega (arith, y))) ps h.awaits (reach_all ps);
        falls = subst (λ n. Falls n (map later_by ps)) (add-one (length es)) (falls_later (length es) ps h.falls);
        seen = seen_made begun es w.kept e m h.seen (record { counted = c ∙ counted; marked = k });
      }

-- room is made
holds_roomy : (r : Rules) (es : List Event) (ms : List model.Moment) (begun : ℕ) (w : View) (ps : List Request) (last count : ℕ) → Holds r es ms begun w ps last → w.lag ≤ length w.kept → w.lag < 1024 → reach_of ps ≤ w.lag → Holds r es ms begun (roomy count w) ps last
holds_roomy r es ms begun w ps last count h a b c = go (is_full (aged count w)) refl where
  old : Holds r es ms begun (aged count w) ps last
  old = holds_forgot r es ms begun w ps last h (older count (take (mark_at w) w.kept)) (aged_few count w a) c

  go : (f : Bool) → is_full (aged count w) ≡ f → Holds r es ms begun (cond f (forgot 1 (aged count w)) (aged count w)) ps last
  go true e = holds_forgot r es ms begun (aged count w) ps last old 1 (omega (arith, eqb-true (length (aged count w).kept) 1024 e)) c
  go false e = old

-- A moment: the mark comes to the oldest pending request, room is made, and the moment is kept.
pub goes_on : (r : Rules) (es : List Event) (ms : List model.Moment) (begun : ℕ) (w : View) (ps : List Request) (last : ℕ) → Holds r es ms begun w ps last → (e : Event) (m : Moment) (count : ℕ) → last ≤ count → e.ticks ≡ count - last → m.count ≡ count → m.marked ≡ is_mark e.deed → Answers e.deed es → reach_of ps ≤ w.lag → w.lag ≤ length w.kept → reach_of ps ≤ 64 → Holds r (e ∷ es) (moment_of m ∷ ms) begun (made_by m (roomy count (settled (reach_of ps) w))) (map later_by ps) count
goes_on r es ms begun w ps last h e m count a t c k d b l n =
    let reach = reach_of ps in
    let one = settled reach w in
    let lag_one = settled_lag reach w in
    let long : one.lag ≤ length one.kept = omega (arith, ap length (settled_kept reach w)) in
    let near : one.lag < 1024 = omega arith in
    let lag_two = roomy_lag count one in
    let long_two = roomy_long count one long near in
    holds_made r es ms begun (roomy count one) ps last
    (holds_roomy r es ms begun one ps last count (holds_settled r es ms begun w ps last h reach b l) long near (omega arith))
    e m count a t c k d (omega arith) (omega arith)

-- a request waits from the moment that was made just now on
pub goes_asked : (r : Rules) (es : List Event) (ms : List model.Moment) (begun : ℕ) (w : View) (kept : List Moment) (ps : List Request) (last : ℕ) (e : Event) (m : Moment) (v : ℕ) (nonce : List ℕ) → Holds r (e ∷ es) ms begun w (map later_by ps) last → e.deed ≡ Asks v → w.kept ≡ kept ++ m ∷ [] → m.claim ≡ None → Holds r (e ∷ es) ms begun w (map later_by ps ++ record { server = v; nonce = nonce; count = last; since = 0 } ∷ []) last
goes_asked r es ms begun w kept ps last e m v nonce h d k c =
    let new : Request = record { server = v; nonce = nonce; count = last; since = 0 } in
    let long = length-append kept (m ∷ []) in
    let at : length (kept ++ m ∷ []) - 1 - 0 - length kept ≡ 0 = omega arith in
    let free : (get_or w.kept (length w.kept - 1 - 0) nothing).claim ≡ None =
    ap (λ l. (get_or l (length l - 1 - 0) nothing).claim) k
    ∙ ap (λ x. x.claim) (get_or-append_right kept (m ∷ []) (length kept) (length (kept ++ m ∷ []) - 1 - 0) nothing refl (omega arith) ∙ ap (λ n. get_or (m ∷ []) n nothing) at)
    ∙ c in
    record {
      window = h.window;
      counted = h.counted;
      formed = h.formed;
      awaits = All-append (Awaits begun (e ∷ es) w.kept) (map later_by ps) (new ∷ []) h.awaits (record { there = omega arith; asked = d; counted = h.counted; free = free }, tt);
      falls = falls_push (length (e ∷ es)) (map later_by ps) new (omega arith) refl h.falls (later_some ps);
      seen = h.seen;
    }

-- another nonce leaves the moment of a request
since_renonced : (ps : List Request) (i j : ℕ) (n : List ℕ) → i < length ps → (get_or (set ps i (renonced n (get_or ps i no_request))) j no_request).since ≡ (get_or ps j no_request).since
since_renonced ps i j n h =
    ⊎_elim
    (λ e. ap (λ k. (get_or (set ps i (renonced n (get_or ps i no_request))) k no_request).since) e ∙ ap (λ q. q.since) (get_or-set_same ps i (renonced n (get_or ps i no_request)) no_request h) ∙ ap (λ k. (get_or ps k no_request).since) (sym e))
    (λ o. ap (λ q. q.since) (get_or-set_other ps i j (renonced n (get_or ps i no_request)) no_request o))
    (cases_eq j i)

awaits_renonced : (begun : ℕ) (es : List Event) (kept : List Moment) (n : List ℕ) (q : Request) → Awaits begun es kept q → Awaits begun es kept (renonced n q)
awaits_renonced begun es kept n q a = record { there = a.there; asked = a.asked; counted = a.counted; free = a.free }

-- A reply is taken: its bound stands at the asking that it answers.
pub goes_replied : (r : Rules) (es : List Event) (ms : List model.Moment) (begun : ℕ) (w : View) (b : Book) (last : ℕ) → Holds r es ms begun w b.pending last → (i v t : ℕ) → i < length b.pending → oldest_like i b.pending < length b.pending → reach_of b.pending ≤ w.lag → w.lag ≤ length w.kept → Holds r es (put (get_or b.pending (oldest_like i b.pending) no_request).since v t ms) begun (answered (get_or b.pending (oldest_like i b.pending) no_request).since (AtMost v t) w) (answered_at i b).pending last
goes_replied r es ms begun w b last h i v t l k f g =
    let ps = b.pending in
    let j = oldest_like i ps in
    let q = get_or ps j no_request in
    let n = q.nonce in
    let next = set ps i (renonced n (get_or ps i no_request)) in
    let near = All-get_or (λ x. x.since < reach_of ps) ps j no_request k (reach_all ps) in
    let here = All-get_or (Awaits begun es w.kept) ps j no_request k h.awaits in
    let place = place_of w q.since in
    let long = length-set ps i (renonced n (get_or ps i no_request)) in
    let falls = falls_renonced (length es) ps i n h.falls in
    let all = all_removed (Awaits begun es w.kept) next j (All-set (Awaits begun es w.kept) ps i (renonced n (get_or ps i no_request)) (awaits_renonced begun es w.kept n (get_or ps i no_request) (All-get_or (Awaits begun es w.kept) ps i no_request l h.awaits)) h.awaits) in
    let apart = others_apart (length es) next j (omega arith) falls in
    let short = reach_all (remove next j) in
    let far = reach_answered i b in
    record {
      window = stays_answered r ms w h.window q.since v t (omega arith) g here.free;
      counted = h.counted;
      formed = h.formed;
      awaits =
          all_two (λ x. Awaits begun es w.kept x × (x.since ≢ (get_or next j no_request).since)) (λ x. x.since < reach_of (remove next j)) (Awaits begun es (with_claim q.since (AtMost v t) w))
          (λ x y z. awaits_claimed begun es w.kept q.since (claimed (AtMost v t) (get_or w.kept place nothing)) x y.0 (λ e. y.1 (e ∙ sym (since_renonced ps i j n l))) (omega arith) (omega (arith, z)))
          (remove next j)
          (all_two (Awaits begun es w.kept) (λ x. x.since ≢ (get_or next j no_request).since) (λ x. Awaits begun es w.kept x × (x.since ≢ (get_or next j no_request).since)) (λ x y z. (y, z)) (remove next j) all apart)
          short;
      falls = falls_removed (length es) next j falls;
      seen = seen_claimed begun es w.kept place (AtMost v t) (omega arith) h.seen;
    }
