-- What is said of a past moment over all choices is exactly what can have been there.
use Rattle.std.proofs.Common.{◌≡◌, ℕ, suc, ◌<◌, ◌≤◌, T, List, ◌∷◌, length, get_or, refl, ◌∙◌, subst}
use Rattle.span.specs.World.{Rules, Event, Faulty, Way, goes}
use Rattle.span.specs.Span.{is_in}
use Rattle.span.specs.Past.{past_of}
use Rattle.span.proofs.Past.{known_past_exact, more_faulty_past_wider}
use Rattle.choice.specs.Choice.{bit, Allowed, choice_of}
use Rattle.choice.specs.Promise.{Full}
use Rattle.choice.specs.Past.{WorldAt, MayHaveBeen, PastExactOverAll, PastNeverWidens}
use Rattle.choice.proofs.Bits.{bit_there, ones_many, choice_bit}
use Rattle.choice.proofs.Whole.{chosen}
use Rattle.choice.proofs.Fuller.{fuller, fuller_full, fuller_more}

-- a choice whose span of a past moment holds t has a world with t there, in which just its servers are faulty
pub choice_world_at : (r : Rules) (es : List Event) (k : ℕ) → k < length es → (t c : ℕ) → Allowed r c → T (is_in t (past_of r (bit c) k es)) → WorldAt r es k t
choice_world_at r es k l t c a i =
    let way = (known_past_exact r (bit c) es k l t).0 i in
    record {
      present = way.0;
      world =
          record {
            who = bit c;
            there = λ v e. bit_there c r.servers v a.there e;
            few = subst (λ x. x ≤ r.faulty) (ones_many r.servers c a.there) a.few;
            times = way.1;
            way = way.2;
          };
      was = way.3;
    }

-- a world is one of the choice of its faulty servers
pub world_may_at : (r : Rules) (es : List Event) (k : ℕ) → k < length es → (t : ℕ) → WorldAt r es k t → MayHaveBeen r es k t
world_may_at r es k l t w =
    let who = w.world.who in
    let c = choice_of who r.servers in
    record {
      choice = c;
      allowed = chosen r es w.present w.world;
      holds =
          more_faulty_past_wider r who (bit c) (λ v e. choice_bit who r.servers v (w.world.there v e) ∙ e) es k l t
          ((known_past_exact r who es k l t).1 w.present w.world.times w.world.way w.was);
    }

-- and of a choice of just as many faulty servers as may be
pub world_full_at : (r : Rules) → r.faulty < r.servers → (es : List Event) (k : ℕ) → k < length es → (t : ℕ) → WorldAt r es k t → (c : ℕ) × Full r c × T (is_in t (past_of r (bit c) k es))
world_full_at r f es k l t w =
    let m = world_may_at r es k l t w in
    let c = m.choice in
    let a = m.allowed in (
      fuller r f es c 0 a,
      fuller_full r f es c 0 a,
      more_faulty_past_wider r (bit c) (bit (fuller r f es c 0 a)) (fuller_more r f es c 0 a) es k l t m.holds,
    )

pub past_exact : PastExactOverAll
past_exact r es k l = record {
  said = λ t w. world_may_at r es k l t w;
  real = λ t m. choice_world_at r es k l t m.choice m.allowed m.holds;
  full = λ f t w. world_full_at r f es k l t w;
}

-- a way without its last step
shorter : {r : Rules} {who : Faulty} {e : Event} {es : List Event} {u : ℕ} {ts : List ℕ} (k : ℕ) → Way r who (e ∷ es) u ts → (x : ℕ) × (xs : List ℕ) × Way r who es x xs × (get_or xs k 0 ≡ get_or ts (suc k) 0)
shorter k (goes {t = t} {ts = ts} w f c d) = (t, ts, w, refl)

pub past_never_widens : PastNeverWidens
past_never_widens r e es k t w =
    let s = shorter k w.world.way in
    record {
      present = s.0;
      world = record { who = w.world.who; there = w.world.there; few = w.world.few; times = s.1; way = s.2 };
      was = s.3 ∙ w.was;
    }
