-- A played world is one, and stays one.
use Rattle.std.proofs.Common.{◌≡◌, ℕ, zero, suc, ◌+◌, ◌-◌, ◌<◌, ◌≤◌, Bool, true, false, cond, List, [], ◌∷◌, length, get_or, set, replicate, None, Decides, sym, refl, ap, ◌∙◌, subst, ap₂, ⊎_elim, add-zero, zero-mul, arith}
use Rattle.std.proofs.lemmas.List.{get_or-set_same, get_or-set_other}
use Rattle.std.proofs.lemmas.Bool.Decides.{nat_tests}
use Rattle.std.proofs.lemmas.Bool.{both_ways, cases_eq}
use Rattle.span.specs.Rate.{Fits, Strides, allowed, million}
use Rattle.span.specs.Span.{ceiling}
use Rattle.span.specs.World.{Event, Rules, Faulty, how_many, Way, World, begins, goes}
use Rattle.span.specs.Model.{moments}
use Rattle.span.proofs.Products.{allowed_fits}
use Rattle.span.proofs.Paths.{way_path, path_way, wider_path}
use Rattle.choice.specs.Choice.{bit}
use Rattle.choice.specs.Promise.{FaultyInAll}
use Rattle.choice.specs.Stands.{NamesExact}
use Rattle.choice.proofs.Bits.{many_same}
use Rattle.choice.proofs.Fuller.{with_one, with_more, one_at, one_off}
use Rattle.script.specs.declared.Settings.{Settings}
use Rattle.script.specs.declared.Word.{Word}
use Rattle.ledger.specs.Ledger.{shows, asks, hears, Says, Passes, Hears, Begins}
use Rattle.play.specs.Scene.{Played, latest, least_of, greatest_of, Same, SameLiars, said_of, reply_fault, lie_fault, may_lie}
use Rattle.play.specs.Plays.{liars_of, rules_of, Plays, NamesAll, heard_of, LeadsOn}

-- the played world is one of the worlds, so that true time is said
pub world_of : (r : Rules) (es : List Event) (ts : List ℕ) (p : Played) → Plays r es ts p → World r es p.truth
world_of r es ts p h = record {
  who = liars_of p.lied;
  there = λ v e. subst (λ n. v < n) h.servers (h.there v e);
  few = omega (arith, subst (λ n. how_many (liars_of p.lied) n ≡ p.liars) h.servers h.many, h.few, h.faulty);
  times = ts;
  way = h.way;
}

pub always_said : (r : Rules) (es : List Event) (ts : List ℕ) (p : Played) → Plays r es ts p → said_of p ≡ true
always_said r es ts p h = (h.says.exact r es h.stands p.truth).1 (world_of r es ts p h)

-- no tick, and no time
fits_still : (d t : ℕ) → Fits d 0 t t
fits_still d t = (omega (arith, zero-mul (million - d)), omega (arith, zero-mul (million + d)))

-- the same servers have lied
module _ (p q : Played) (same : Same p q) (liars : SameLiars p q) (r : Rules) (es : List Event) (ts : List ℕ) (h : Plays r es ts p) where
  same_many : how_many (liars_of q.lied) q.servers ≡ q.liars
  same_many = ap₂ (λ bs n. how_many (liars_of bs) n) liars.lied same.servers ∙ h.many ∙ sym liars.liars

  same_there : (v : ℕ) → liars_of q.lied v ≡ true → v < q.servers
  same_there v e = subst (λ n. v < n) (sym same.servers) (h.there v (ap (λ bs. liars_of bs v) (sym liars.lied) ∙ e))

-- time passes
pub passes_on : (n u low high : ℕ) (p q : Played) → allowed p.drift n u ≡ true → p.truth + u ≤ ceiling → Strides p.drift n low high → q.count ≡ p.count + n → q.truth ≡ p.truth + u → Same p q → SameLiars p q → Passes low high p.row q.row → Says q.row q.runs → LeadsOn (shows n ∷ []) p q
passes_on n u low high p q a c s count truth same liars passes says r es ts h = (
  (p.truth + u) ∷ ts,
  record {
    servers = same.servers ∙ h.servers;
    faulty = same.faulty ∙ h.faulty;
    drift = same.drift ∙ h.drift;
    counted = count ∙ ap (λ x. x + n) h.counted;
    few = omega (arith, liars.liars, same.faulty, h.few);
    many = same_many p q same liars r es ts h;
    there = same_there p q same liars r es ts h;
    way =
        subst (λ bs. Way r (liars_of bs) (shows n ∷ es) q.truth ((p.truth + u) ∷ ts)) (sym liars.lied)
        (subst (λ t. Way r (liars_of p.lied) (shows n ∷ es) t ((p.truth + u) ∷ ts)) (sym truth)
        (goes h.way (subst (λ d. Fits d n p.truth (p.truth + u)) h.drift ((allowed_fits p.drift n p.truth u).0 a)) c tt));
    stands = passes r es n (subst (λ d. Strides d n low high) h.drift s) h.stands;
    says = says;
    naming = same.naming ∙ h.naming ∙ sym same.servers;
  },
)

-- true time does not pass the ceiling
low_way : {r : Rules} {who : Faulty} {es : List Event} {t : ℕ} {ts : List ℕ} → Way r who es t ts → t ≤ ceiling
low_way (begins h k) = k
low_way (goes w f c d) = c

-- a word is heard: two moments with no tick between
heard_way : (r : Rules) (who : Faulty) (es : List Event) (t : ℕ) (ts : List ℕ) (w : Word) → Way r who es t ts → (who w.server ≡ false → (least_of w ≤ t) × (t ≤ greatest_of w)) → Way r who (hears w.server (least_of w) (greatest_of w) ∷ (asks w.server ∷ es)) t (t ∷ (t ∷ ts))
heard_way r who es t ts w way true_word =
    let low = low_way way in
    let still = fits_still r.drift t in
    goes (goes way still low tt) still low
    (λ e. let k = true_word e in record { at = t; after = omega arith; before = omega arith; low = k.0; high = k.1 })

pub replies_on : (low high : ℕ) (p q : Played) (w : Word) → least_of w ≤ p.truth → p.truth ≤ greatest_of w → Strides p.drift 0 low high → q.count ≡ p.count → q.truth ≡ p.truth → Same p q → SameLiars p q → Hears low high w.server (least_of w) (greatest_of w) p.row q.row → Says q.row q.runs → LeadsOn (heard_of w) p q
replies_on low high p q w lo hi s count truth same liars told says r es ts h = (
  p.truth ∷ (p.truth ∷ ts),
  record {
    servers = same.servers ∙ h.servers;
    faulty = same.faulty ∙ h.faulty;
    drift = same.drift ∙ h.drift;
    counted = omega (arith, count, h.counted);
    few = omega (arith, liars.liars, same.faulty, h.few);
    many = same_many p q same liars r es ts h;
    there = same_there p q same liars r es ts h;
    way =
        subst (λ bs. Way r (liars_of bs) (hears w.server (least_of w) (greatest_of w) ∷ (asks w.server ∷ es)) q.truth (p.truth ∷ (p.truth ∷ ts))) (sym liars.lied)
        (subst (λ t. Way r (liars_of p.lied) (hears w.server (least_of w) (greatest_of w) ∷ (asks w.server ∷ es)) t (p.truth ∷ (p.truth ∷ ts))) (sym truth)
        (heard_way r (liars_of p.lied) es p.truth ts w h.way (λ _. (lo, hi))));
    stands = told r es (subst (λ d. Strides d 0 low high) h.drift s) (omega arith) h.stands;
    says = says;
    naming = same.naming ∙ h.naming ∙ sym same.servers;
  },
)

-- one server more that lies
liar_at : (lied : List Bool) (v : ℕ) → v < length lied → liars_of (set lied v true) v ≡ true
liar_at lied v h = get_or-set_same lied v true false h

liar_off : (lied : List Bool) (v k : ℕ) → (k ≡ v → ⊥) → liars_of (set lied v true) k ≡ liars_of lied k
liar_off lied v k h = get_or-set_other lied v k true false h

more_lie : (lied : List Bool) (v : ℕ) → v < length lied → (k : ℕ) → liars_of lied k ≡ true → liars_of (set lied v true) k ≡ true
more_lie lied v h k e = ⊎_elim (λ same. ap (liars_of (set lied v true)) same ∙ liar_at lied v h) (λ apart. liar_off lied v k apart ∙ e) (cases_eq k v)

liars_more : (lied : List Bool) (v n : ℕ) → v < length lied → v < n → how_many (liars_of (set lied v true)) n ≡ how_many (liars_of lied) n + cond (liars_of lied v) 0 1
liars_more lied v n h l = go (liars_of lied v) refl where
  alike : (k : ℕ) → liars_of (set lied v true) k ≡ with_one (liars_of lied) v k
  alike k = ⊎_elim (λ same. ap (liars_of (set lied v true)) same ∙ liar_at lied v h ∙ sym (ap (with_one (liars_of lied) v) same ∙ one_at (liars_of lied) v)) (λ apart. liar_off lied v k apart ∙ sym (one_off (liars_of lied) v k apart)) (cases_eq k v)

  go : (b : Bool) → liars_of lied v ≡ b → how_many (liars_of (set lied v true)) n ≡ how_many (liars_of lied) n + cond b 0 1
  go true e = many_same (liars_of (set lied v true)) (liars_of lied) n (λ k _. ⊎_elim (λ same. ap (liars_of (set lied v true)) same ∙ liar_at lied v h ∙ sym (ap (liars_of lied) same ∙ e)) (λ apart. liar_off lied v k apart) (cases_eq k v)) ∙ sym (add-zero _)
  go false e = many_same (liars_of (set lied v true)) (with_one (liars_of lied) v) n (λ k _. alike k) ∙ with_more (liars_of lied) v n l e

pub lies_on : (low high : ℕ) (p q : Played) (w : Word) → w.server < p.servers → w.server < length p.lied → q.liars ≤ q.faulty → least_of w ≤ greatest_of w → Strides p.drift 0 low high → q.count ≡ p.count → q.truth ≡ p.truth → Same p q → q.lied ≡ set p.lied w.server true → q.liars ≡ p.liars + cond (get_or p.lied w.server false) 0 1 → Hears low high w.server (least_of w) (greatest_of w) p.row q.row → Says q.row q.runs → LeadsOn (heard_of w) p q
lies_on low high p q w there long few order s count truth same lied liars told says r es ts h = (
  p.truth ∷ (p.truth ∷ ts),
  record {
    servers = same.servers ∙ h.servers;
    faulty = same.faulty ∙ h.faulty;
    drift = same.drift ∙ h.drift;
    counted = omega (arith, count, h.counted);
    few = few;
    many = ap₂ (λ bs n. how_many (liars_of bs) n) lied same.servers ∙ liars_more p.lied w.server p.servers long there ∙ ap (λ x. x + cond (get_or p.lied w.server false) 0 1) h.many ∙ sym liars;
    there = λ v e. subst (λ n. v < n) (sym same.servers) (⊎_elim (λ here. subst (λ x. x < p.servers) (sym here) there) (λ apart. h.there v (sym (liar_off p.lied w.server v apart) ∙ ap (λ bs. liars_of bs v) (sym lied) ∙ e)) (cases_eq v w.server));
    way =
        subst (λ bs. Way r (liars_of bs) (hears w.server (least_of w) (greatest_of w) ∷ (asks w.server ∷ es)) q.truth (p.truth ∷ (p.truth ∷ ts))) (sym lied)
        (subst (λ t. Way r (liars_of (set p.lied w.server true)) (hears w.server (least_of w) (greatest_of w) ∷ (asks w.server ∷ es)) t (p.truth ∷ (p.truth ∷ ts))) (sym truth)
        (heard_way r (liars_of (set p.lied w.server true)) es p.truth ts w
        (path_way r _ es p.truth ts (wider_path r (liars_of p.lied) (liars_of (set p.lied w.server true)) (more_lie p.lied w.server long) (moments es) p.truth ts (way_path h.way)))
        (λ e. absurd (both_ways (liars_of (set p.lied w.server true) w.server) e (liar_at p.lied w.server long)))));
    stands = told r es (subst (λ d. Strides d 0 low high) h.drift s) order h.stands;
    says = says;
    naming = same.naming ∙ h.naming ∙ sym same.servers;
  },
)

-- at first nobody has lied
honest : (n v : ℕ) → liars_of (replicate n false) v ≡ false
honest zero v = refl
honest (suc n) zero = refl
honest (suc n) (suc v) = honest n v

nobody : (who : Faulty) → ((v : ℕ) → who v ≡ false) → (n : ℕ) → how_many who n ≡ 0
unfolding how_many
nobody who h zero = refl
nobody who h (suc n) = ap (λ b. cond b 1 0 + how_many who n) (h n) ∙ omega (arith, nobody who h n)

-- settings in range begin a world
pub begins_world : (s : Settings) (p : Played) → s.truth ≤ latest → s.faulty < s.servers → p.servers ≡ s.servers → p.faulty ≡ s.faulty → p.liars ≡ 0 → p.lied ≡ replicate 10 false → p.drift ≡ s.drift → p.count ≡ 0 → p.truth ≡ s.truth → Begins s.servers s.faulty latest p.row → Says p.row p.runs → p.naming ≡ s.servers → Plays (rules_of s) [] [] p
begins_world s p low fewer servers faulty liars lied drift count truth first says naming = record {
  servers = servers;
  faulty = faulty;
  drift = drift;
  counted = count;
  few = omega arith;
  many = ap (λ bs. how_many (liars_of bs) p.servers) lied ∙ nobody (liars_of (replicate 10 false)) (honest 10) p.servers ∙ sym liars;
  there = λ v e. absurd (both_ways (liars_of p.lied v) (ap (λ bs. liars_of bs v) lied ∙ honest 10 v) e);
  way = begins (omega (arith, truth)) (omega (arith, truth));
  stands = first (rules_of s) refl refl fewer refl;
  says = says;
  naming = naming ∙ sym servers;
}

-- what no fault says of a word
pub true_word : (p : Played) (w : Word) → reply_fault p w ≡ None → (least_of w ≤ p.truth) × (p.truth ≤ greatest_of w)
true_word p w e = (grind (arith, nat_tests), grind (arith, nat_tests))

pub may_lie_lem : (p : Played) (w : Word) → lie_fault p w ≡ None → (w.server < p.servers) × (may_lie p w.server ≡ true)
may_lie_lem p w e = (grind (arith, nat_tests), grind (arith, nat_tests))

-- the named servers are those that are faulty in every world
pub names_all : (p : Played) (set : ℕ) → NamesExact p.naming p.row set → NamesAll p set
names_all p set exact r es ts h v = subst (λ n. (v < n → Decides (bit set v) (FaultyInAll r es v)) × (bit set v ≡ true → v < n)) h.naming (exact r es h.stands v)
