-- After each call an exchange stands for the run with this call's moment, or begins anew if no world is left.
use Rattle.std.proofs.Common.{◌≡◌, ℕ, zero, suc, ◌+◌, ◌-◌, ◌<◌, ◌≤◌, Bool, true, false, cond, not, List, [], ◌∷◌, length, get_or, take, drop, Some, None, Ok, Err, Option, Result, sym, refl, ap, ◌∙◌, subst, arith}
use Rattle.std.specs.List.{AllByRecursion}
use Rattle.std.proofs.ByRecursion.{All-get_or}
use Rattle.std.proofs.lemmas.Bool.{both_ways, not-true, not-false, le-leb, ltb-false, eqb-true, and_parts}
use Rattle.std.proofs.lemmas.List.{length-set}
use Rattle.std.proofs.lemmas.Bool.Decides.{nat_tests}
use Rattle.span.specs.Span.{ceiling}
use Rattle.span.specs.World.{Event, Rules, how_many, World, begins, Shows, Marks, Asks, Accepts}
use Rattle.span.specs.Model.{put, moments, lowest}
use Rattle.span.specs.Model as model
use Rattle.choice.specs.declared.case.Claim.TheVariants.{AtMost, AtLeast}
use Rattle.choice.specs.declared.runs.Run.{Run}
use Rattle.choice.specs.Row.{any_span, has_times}
use Rattle.choice.specs.Stands as choice
use Rattle.choice.proofs.Standing.{left_row, stands_by}
use Rattle.window.specs.View.{View}
use Rattle.window.specs.Stands.{Parts, from_ceiling}
use Rattle.window.specs.Steps as window
use Rattle.window.proofs.Stays.{stays_anew}
use Rattle.requests.specs.declared.request.Over.TheVariants.{Age, Far}
use Rattle.requests.specs.declared.request.Unfit.{Unfit}
use Rattle.requests.specs.Request.{over, alike, reach_of, no_request}
use Rattle.requests.specs.Book.{oldest_like, standing_of}
use Rattle.std.proofs.lemmas.List.Sums.{passes_at_first}
use Rattle.requests.proofs.Firsts.{first_le, like_self}
use Rattle.wire.specs.declared.input.Reading.{Reading}
use Rattle.wire.specs.declared.refusal.Refusal.{Refusal}
use Rattle.wire.specs.declared.refusal.Refusal.TheVariants.{OutOfRange}
use Rattle.window.specs.Ring.{claimed, nothing}
use Rattle.exchange.specs.declared.made.Made.{Made}
use Rattle.exchange.specs.declared.made.Heard.{Heard}
use Rattle.exchange.specs.State.{State}
use Rattle.exchange.specs.Steps.{moment_now, is_lost, restarted, finished, clocked, nearer, replied, taken_for, shown_by, asked_by, marked_by, accepted_by, reply_refusal, in_range, by_standing, place_of}
use Rattle.exchange.specs.Stands.{Said, happens, event_at, ticks_of, Awaits, Falls, Formed, Holds, Stands, Follows, ShowsOn, AsksOn, MarksOn, AcceptsOn}
use Rattle.exchange.specs.Calls.{Makes, Refuses, PutsOff, ShowsNow, AsksNow, MarksNow, AcceptsNow, answering}
use Rattle.exchange.specs.Calls as calls
use Rattle.exchange.proofs.Views.{reach_kept, reach_near, none_left, standing_at, reach_answered}
use Rattle.exchange.proofs.Going.{holds_kept, goes_on, goes_asked, goes_replied}

-- the run of no events has a world
nobody : (n : ℕ) → how_many (λ v. false) n ≡ 0
unfolding how_many
nobody zero = refl
nobody (suc n) = omega (arith, nobody n)

pub empty_world : (r : Rules) → World r [] 0
empty_world r = record {
  who = λ v. false;
  there = λ v e. absurd (both_ways false refl e);
  few = omega (arith, nobody r.servers);
  times = [];
  way = begins (omega arith) (omega arith);
}

-- the spans now are those of the run
pub row_stands : (r : Rules) (es : List Event) (w : View) → Parts r (moments es) w → choice.Stands r es w.here
row_stands r es w p = stands_by r es p.choices w.here p.full p.here

-- a run that begins anew
anew_stands : (r : Rules) (es : List Event) (begun : ℕ) (s t : State) (us : List Run) → Holds r es (moments es) begun s.window s.book.pending s.last → r.servers ≡ s.servers → t ≡ restarted s → Said t.window.here us → Stands (from_ceiling r) [] t us
unfolding moments Formed Falls ticks_of
anew_stands r es begun s t us h n e said =
    subst (λ x. Said x.window.here us → Stands (from_ceiling r) [] x us) (sym e)
    (λ k. record {
      begun = s.last;
      servers = n;
      holds =
          subst (λ ps. Holds (from_ceiling r) [] [] s.last (window.anew s.window) ps s.last) (sym (none_left s.book.pending))
          (record {
            window = stays_anew r (moments es) s.window h.window;
            counted = omega arith;
            formed = tt;
            awaits = tt;
            falls = tt;
            seen = λ p l. absurd (omega arith);
          });
      says = k;
      present = 0;
      lives = empty_world (from_ceiling r);
    })
    said

-- a fresh exchange
pub fresh_stands : (r : Rules) (s : State) (us : List Run) → r.servers ≡ s.servers → Parts r [] s.window → s.window.kept ≡ [] → s.book.pending ≡ [] → s.last ≡ 0 → Said s.window.here us → Stands r [] s us
unfolding moments Formed Falls ticks_of
fresh_stands r s us n p k b l said = record {
  begun = 0;
  servers = n;
  holds = record {
    window = p;
    counted = omega (arith, l);
    formed = tt;
    awaits = subst (λ ps. AllByRecursion (Awaits 0 [] s.window.kept) ps) (sym b) tt;
    falls = subst (Falls 0) (sym b) tt;
    seen = λ q h. absurd (omega (arith, ap length k));
  };
  says = said;
  present = 0;
  lives = empty_world r;
}

pub follows : (r : Rules) (es : List Event) (begun : ℕ) (s t : State) (us : List Run) (lost : Bool) → Holds r es (moments es) begun s.window s.book.pending s.last → r.servers ≡ s.servers → lost ≡ is_lost s → t ≡ finished s → Said t.window.here us → Follows r es lost t us
follows r es begun s t us lost h n l e said = go (is_lost s) refl where
  exact : (any_span has_times s.window.here ≡ true → (u : ℕ) × World r es u) × (any_span has_times s.window.here ≡ false → (u : ℕ) → World r es u → ⊥)
  exact = left_row r es s.window.here (row_stands r es s.window h.window)

  go : (b : Bool) → is_lost s ≡ b → Follows r es lost t us
  go true f = subst (λ x. Follows r es x t us) (sym (l ∙ f)) (exact.1 (not-true _ f), anew_stands r es begun s t us h n (e ∙ ap (λ b. cond b (restarted s) s) f) said)
  go false f =
      let is : t ≡ s = e ∙ ap (λ b. cond b (restarted s) s) f in
      let world = exact.0 (not-false _ f) in
      subst (λ x. Follows r es x t us) (sym (l ∙ f))
      (subst (λ x. Said x.window.here us → Stands r es x us) (sym is) (λ k. record { begun = begun; servers = n; holds = h; says = k; present = world.0; lives = world.1 }) said)

-- a reply that is not refused is for a pending request
pub standing_pending : (x : Result ℕ Unfit) → by_standing x ≡ None → x ≡ Ok (place_of x)
standing_pending (Err e) h = absurd (let z : ◌≡◌ {A = ℕ} 0 1 = cc in omega arith)
standing_pending (Ok p) h = refl

pub reply_taken : (q : Reading) (s : State) → reply_refusal q s ≡ None → (in_range q s ≡ true) × (standing_of q.server q.nonce s.book ≡ Ok (answering q s))
reply_taken q s e = go (in_range q s) refl e where
  go : (b : Bool) → in_range q s ≡ b → cond b (by_standing (standing_of q.server q.nonce s.book)) (Some OutOfRange) ≡ None → (in_range q s ≡ true) × (standing_of q.server q.nonce s.book ≡ Ok (answering q s))
  go true f e = (f, standing_pending (standing_of q.server q.nonce s.book) e)
  go false f e = absurd (let z : ◌≡◌ {A = ℕ} 0 1 = cc in omega arith)

-- the request that it is taken for is one of this server
pub taken_server : (v : ℕ) (nonce : List ℕ) (s : State) (i : ℕ) → standing_of v nonce s.book ≡ Ok i → (oldest_like i s.book.pending < length s.book.pending) × ((taken_for i s).server ≡ v)
taken_server v nonce s i e =
    let ps = s.book.pending in
    let at = standing_at v nonce s.book i e in
    let q = get_or ps i no_request in
    let le = first_le (alike q) no_request ps i (like_self q at.1) in
    let there : oldest_like i ps < length ps = omega (arith, at.0) in
    let like = passes_at_first (alike q) ps no_request there in
    (there, eqb-true _ _ (and_parts _ _ (and_parts _ _ like).0).0 ∙ eqb-true _ _ (and_parts _ _ at.2).0)

-- the ticks before a moment, and those since
pub ticks_split : (k : ℕ) (es : List Event) → ticks_of es ≡ ticks_of (take k es) + ticks_of (drop k es)
unfolding ticks_of
ticks_split zero es = omega arith
ticks_split (suc k) [] = refl
ticks_split (suc k) (e ∷ es) = omega (arith, ticks_split k es)

-- the moments of a run with one reply more
reply_moments : (n v since low high : ℕ) (es : List Event) → low ≤ high → record { ticks = n; claims = model.AtLeast v low ∷ [] } ∷ put since v high (moments es) ≡ moments (happens n (Accepts v since low high) ∷ es)
unfolding moments
reply_moments n v since low high es h = ap (λ x. record { ticks = n; claims = model.AtLeast v x ∷ [] } ∷ put since v high (moments es)) (sym (ap (λ b. cond b low (1 + ceiling)) (le-leb low high h)))

module _ (s : State) (rs : List Run) (reach : reach_of s.book.pending ≤ s.window.lag) (long : s.window.lag ≤ length s.window.kept) (order : s.last ≤ s.count) where
  -- the time is shown
  pub shows_on : (count : ℕ) (o : Result (Option Made) Refusal) (t : State) (us : List Run) → calls.Shows count s rs o t us → ShowsOn s rs o t us
  unfolding moments
  shows_on count (Ok None) t us c = λ r es h.
      subst (λ x. Stands r es x us) (sym c.state)
      (record {
        begun = h.begun;
        servers = h.servers;
        holds = holds_kept r es (moments es) h.begun s.window s.book.pending s.last h.holds (λ q. not (over (Age count) q));
        says = subst (Said s.window.here) (sym c.runs) h.says;
        present = h.present;
        lives = h.lives;
      })
  shows_on count (Ok (Some m)) t us c = λ r es h.
      let q = clocked count s in
      let ps = s.book.pending in
      let now_or_later : s.count ≤ count = grind (arith, nat_tests) in
      let few = reach_kept (λ x. not (over (Age count) x)) ps in
      let near = ltb-false 64 (reach_of q.book.pending) c.on in
      let e = happens (count - s.last) Shows in
      let kept = holds_kept r es (moments es) h.begun s.window ps s.last h.holds (λ x. not (over (Age count) x)) in
      let on = goes_on r es (moments es) h.begun s.window q.book.pending s.last kept e (moment_now false None q) count (omega arith) refl refl refl tt (omega arith) long near in
      subst (λ n. Follows r (happens n Shows ∷ es) m.lost t us) (sym c.makes.ticks)
      (follows r (e ∷ es) h.begun (shown_by count s) t us m.lost on h.servers c.makes.lost c.makes.state c.makes.says)
  shows_on count (Err e) t us c = (c.state, c.runs)

  -- a server is asked
  pub asks_on : (v : ℕ) (nonce : List ℕ) (o : Result Made Refusal) (t : State) (us : List Run) → calls.Asks v nonce s rs o t us → AsksOn v s rs o t us
  unfolding moments
  asks_on v nonce (Ok m) t us c = λ r es h.
      let q = nearer s in
      let ps = s.book.pending in
      let few = reach_kept (λ x. not (over Far x)) ps in
      let e = happens (s.count - s.last) (Asks v) in
      let kept = holds_kept r es (moments es) h.begun s.window ps s.last h.holds (λ x. not (over Far x)) in
      let on = goes_on r es (moments es) h.begun s.window q.book.pending s.last kept e (moment_now false None q) s.count order refl refl refl tt (omega arith) long (reach_near ps) in
      let w = window.roomy s.count (window.settled (reach_of q.book.pending) s.window) in
      let asked = goes_asked r es (moments (e ∷ es)) h.begun (window.made_by (moment_now false None q) w) w.kept q.book.pending s.count e (moment_now false None q) v nonce on refl refl refl in
      subst (λ n. Follows r (happens n (Asks v) ∷ es) m.lost t us) (sym c.makes.ticks)
      (follows r (e ∷ es) h.begun (asked_by v nonce s) t us m.lost asked h.servers c.makes.lost c.makes.state c.makes.says)
  asks_on v nonce (Err e) t us c = (c.state, c.runs)

  -- an event is marked
  pub marks_on : (o : Result Made Refusal) (t : State) (us : List Run) → calls.Marks s rs o t us → MarksOn s rs o t us
  unfolding moments
  marks_on (Ok m) t us c = λ r es h.
      let q = nearer s in
      let ps = s.book.pending in
      let few = reach_kept (λ x. not (over Far x)) ps in
      let e = happens (s.count - s.last) Marks in
      let kept = holds_kept r es (moments es) h.begun s.window ps s.last h.holds (λ x. not (over Far x)) in
      let on = goes_on r es (moments es) h.begun s.window q.book.pending s.last kept e (moment_now true None q) s.count order refl refl refl tt (omega arith) long (reach_near ps) in
      subst (λ n. Follows r (happens n Marks ∷ es) m.lost t us) (sym c.makes.ticks)
      (follows r (e ∷ es) h.begun (marked_by s) t us m.lost on h.servers c.makes.lost c.makes.state c.makes.says)
  marks_on (Err e) t us c = (c.state, c.runs)

  -- a reply is accepted
  pub accepts_on : (a : Reading) (o : Result Heard Refusal) (t : State) (us : List Run) → calls.Accepts a s rs o t us → AcceptsOn a.server s rs o t us
  accepts_on a (Ok x) t us c = λ r es h.
      let v = a.server in
      let nonce = a.nonce in
      let m = a.midpoint in
      let d = a.radius in
      let ps = s.book.pending in
      let i = answering a s in
      let stands = (reply_taken a s c.none).1 in
      let at = standing_at v nonce s.book i stands in
      let taken = taken_server v nonce s i stands in
      let q = taken_for i s in
      let here = All-get_or (Awaits h.begun es s.window.kept) ps (oldest_like i ps) no_request taken.0 h.holds.awaits in
      let asked : (event_at es q.since).deed ≡ Asks v = here.asked ∙ ap Asks taken.1 in
      let b = replied i v (m + d) s in
      let z = nearer b in
      let one = goes_replied r es (moments es) h.begun s.window s.book s.last h.holds i v (m + d) at.0 taken.0 reach long in
      let two = holds_kept r es (put q.since v (m + d) (moments es)) h.begun b.window b.book.pending s.last one (λ y. not (over Far y)) in
      let few = reach_kept (λ y. not (over Far y)) b.book.pending in
      let less = reach_answered i s.book in
      let same = length-set s.window.kept (window.place_of s.window q.since) (claimed (AtMost v (m + d)) (get_or s.window.kept (window.place_of s.window q.since) nothing)) in
      let e = happens (s.count - s.last) (Accepts v q.since (m - d) (m + d)) in
      let on = goes_on r es (put q.since v (m + d) (moments es)) h.begun b.window z.book.pending s.last two e (moment_now false (Some (AtLeast v (m - d))) z) s.count order refl refl refl (here.there, asked) (omega arith) (omega arith) (reach_near b.book.pending) in
      let run = subst (λ ms. Holds r (e ∷ es) ms h.begun (accepted_by i v (m - d) (m + d) s).window (accepted_by i v (m - d) (m + d) s).book.pending s.count) (reply_moments (s.count - s.last) v q.since (m - d) (m + d) es (omega arith)) on in
      let all = follows r (e ∷ es) h.begun (accepted_by i v (m - d) (m + d) s) t us x.made.lost run h.servers c.makes.lost c.makes.state c.makes.says in
      record {
        since = q.since;
        there = here.there;
        asked = asked;
        counted = omega (arith, c.asked, here.counted, h.holds.counted, ticks_split q.since es);
        follows =
            subst (λ n. Follows r (happens n (Accepts v q.since x.least x.greatest) ∷ es) x.made.lost t us) (sym c.makes.ticks)
            (subst (λ n. Follows r (happens (s.count - s.last) (Accepts v q.since n x.greatest) ∷ es) x.made.lost t us) (sym c.least)
            (subst (λ n. Follows r (happens (s.count - s.last) (Accepts v q.since (m - d) n) ∷ es) x.made.lost t us) (sym c.greatest) all));
      }
  accepts_on a (Err e) t us c = (c.state, c.runs)
