-- A set of faulty servers can be filled up to any number below that of all servers, past one server that is to stay out.
use Rattle.std.proofs.Common.{◌≡◌, ℕ, zero, suc, ◌+◌, ◌-◌, ◌<◌, ◌≤◌, Bool, true, false, cond, ◌||◌, T, eqb, List, sym, refl, ap, ◌∙◌, subst, ⊎_elim, arith}
use Rattle.std.proofs.lemmas.Bool.{both_ways, cases_eq, eq-eqb, ne_eqb, or_left, or_right, or_parts, or_from, eqb-false}
use Rattle.span.specs.World.{Rules, Event, Faulty, how_many}
use Rattle.span.specs.Span.{is_in, holds_none}
use Rattle.span.specs.Model.{span_of}
use Rattle.span.proofs.Paths.{more_faulty_wider}
use Rattle.choice.specs.Choice.{bit, Allowed, choice_of}
use Rattle.choice.specs.Said.{Named}
use Rattle.choice.specs.Promise.{Full, FullSayAll, NoRuleSaysLess}
use Rattle.choice.proofs.Bits.{bit_there, ones_many, many_same, choice_below, choice_bit, choice_ones}
use Rattle.choice.proofs.Whole.{has_some, some_has, says_no_less}

-- the set with one server more
abbrev pub with_one : Faulty → ℕ → Faulty
with_one who k v = who v || eqb v k

-- a set that is not all has a server outside
pub free : (who : Faulty) (n : ℕ) → how_many who n < n → (k : ℕ) × (k < n) × (who k ≡ false)
unfolding how_many
free who zero h = absurd (omega arith)
free who (suc n) h = go (λ h. free who n h) (who n) refl h where
  go : (how_many who n < n → (k : ℕ) × (k < n) × (who k ≡ false)) → (b : Bool) → who n ≡ b → cond b 1 0 + how_many who n < suc n → (k : ℕ) × (k < suc n) × (who k ≡ false)
  go below true e h = let f = below (omega arith) in (f.0, omega (arith, f.1), f.2)
  go below false e h = (n, omega arith, e)

or_false : (b c : Bool) → c ≡ false → (b || c) ≡ b
or_false true c h = refl
or_false false c h = h

pub one_at : (who : Faulty) (k : ℕ) → with_one who k k ≡ true
one_at who k = or_right (who k) (eqb k k) (eq-eqb k k refl)

pub one_off : (who : Faulty) (k v : ℕ) → (v ≡ k → ⊥) → with_one who k v ≡ who v
one_off who k v h = or_false (who v) (eqb v k) (ne_eqb v k h)

-- one server more is one more, if it is there and was not in the set
pub with_more : (who : Faulty) (k n : ℕ) → k < n → who k ≡ false → how_many (with_one who k) n ≡ how_many who n + 1
unfolding how_many
with_more who k zero h e = absurd (omega arith)
with_more who k (suc n) h e =
    ⊎_elim
    (λ same.
    let here : with_one who k n ≡ true = ap (with_one who k) same ∙ one_at who k in
    let below = many_same (with_one who k) who n (λ v l. one_off who k v (omega arith)) in
    let out : who n ≡ false = ap who same ∙ e in
    rw (here, out) (omega arith))
    (λ apart.
    let here = one_off who k n apart in
    let below = with_more who k n (omega arith) e in
    rw here (omega arith))
    (cases_eq n k)

-- and at most one more in any case
one_more : (who : Faulty) (k n : ℕ) → how_many (with_one who k) n ≤ how_many who n + 1
unfolding how_many
one_more who k zero = omega arith
one_more who k (suc n) =
    ⊎_elim
    (λ same.
    let below = many_same (with_one who k) who n (λ v l. one_off who k v (omega arith)) in
    at_most (with_one who k n) (who n) (omega arith))
    (λ apart.
    let here = one_off who k n apart in
    let below = one_more who k n in
    rw here (omega arith))
    (cases_eq n k)
  where
    at_most : (b c : Bool) → how_many (with_one who k) n ≤ how_many who n → cond b 1 0 + how_many (with_one who k) n ≤ cond c 1 0 + how_many who n + 1
    at_most true true h = omega arith
    at_most true false h = omega arith
    at_most false true h = omega arith
    at_most false false h = omega arith

-- filled up one by one
pub record Filled (who : Faulty) (n f out : ℕ) : Type 0 where
  pub all : Faulty
  pub more : (v : ℕ) → who v ≡ true → all v ≡ true
  pub many : how_many all n ≡ f
  pub still : who out ≡ false → all out ≡ false

fill : (e : ℕ) (who : Faulty) (n f out : ℕ) → how_many who n + e ≡ f → f < n → Filled who n f out
fill zero who n f out h l = record { all = who; more = λ v t. t; many = omega arith; still = λ t. t }
fill (suc e) who n f out h l =
    let k = free (with_one who out) n (omega (arith, at_most_one)) in
    let parts = or_parts (who k.0) (eqb k.0 out) k.2 in
    let rest = fill e (with_one who k.0) n f out (omega (arith, with_more who k.0 n k.1 parts.0)) l in
    record {
      all = rest.all;
      more = λ v t. rest.more v (or_left (who v) (eqb v k.0) t);
      many = rest.many;
      still = λ t. rest.still (or_from (who out) (eqb out k.0) t (ne_eqb out k.0 (λ s. eqb-false k.0 out parts.1 (sym s))));
    }
  where
    at_most_one : how_many (with_one who out) n ≤ how_many who n + 1
    at_most_one = one_more who out n

-- a choice can be filled up to just as many servers as may be faulty
pub full : (r : Rules) → r.faulty < r.servers → (c out : ℕ) → Allowed r c → Filled (bit c) r.servers r.faulty out
full r l c out a =
    let few = subst (λ x. x ≤ r.faulty) (ones_many r.servers c a.there) a.few in
    fill (r.faulty - how_many (bit c) r.servers) (bit c) r.servers r.faulty out (omega arith) l

module _ (r : Rules) (l : r.faulty < r.servers) (es : List Event) (c out : ℕ) (a : Allowed r c) where
  pub fuller : ℕ
  fuller = choice_of (full r l c out a).all r.servers

  pub fuller_full : Full r fuller
  unfolding fuller
  fuller_full = record { there = choice_below (full r l c out a).all r.servers; many = choice_ones (full r l c out a).all r.servers ∙ (full r l c out a).many }

  pub fuller_more : (v : ℕ) → bit c v ≡ true → bit fuller v ≡ true
  unfolding fuller
  fuller_more v e = choice_bit (full r l c out a).all r.servers v (bit_there c r.servers v a.there e) ∙ (full r l c out a).more v e

  pub fuller_wider : (t : ℕ) → T (is_in t (span_of r (bit c) es)) → T (is_in t (span_of r (bit fuller) es))
  fuller_wider t i = more_faulty_wider r (bit c) (bit fuller) fuller_more es t i

  pub fuller_out : out < r.servers → bit c out ≡ false → bit fuller out ≡ false
  unfolding fuller
  fuller_out h e = choice_bit (full r l c out a).all r.servers out h ∙ (full r l c out a).still e

pub full_say : FullSayAll
full_say r l es = record {
  times = λ t m. let c = m.choice in (fuller r l es c 0 m.allowed, fuller_full r l es c 0 m.allowed, fuller_wider r l es c 0 m.allowed t m.holds);
  names = names;
}
  where
    names : (v : ℕ) → ((c : ℕ) → Full r c → holds_none (span_of r (bit c) es) ≡ false → bit c v ≡ true) → Named r es v
    names v all c a h = go (bit c v) refl where
      go : (b : Bool) → bit c v ≡ b → bit c v ≡ true
      go true e = e
      go false e =
          let d = fuller r l es c v a in
          let t = some_has (span_of r (bit c) es) h in
          let named = all d (fuller_full r l es c v a) (has_some (span_of r (bit d) es) t.0 (fuller_wider r l es c v a t.0 t.1)) in
          absurd (both_ways (bit d v) (fuller_out r l es c v a (bit_there d r.servers v (fuller_full r l es c v a).there named) e) named)

pub no_rule_says_less : NoRuleSaysLess
no_rule_says_less says blames = says_no_less (λ es t. T (says es t)) (λ es v. T (blames es v))
