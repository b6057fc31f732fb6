-- What is said is exactly what can be: worlds and choices with a span are the same.
use Rattle.std.proofs.Common.{◌≡◌, ℕ, ◌≤◌, Bool, true, false, T, List, sym, refl, ◌∙◌, subst, arith}
use Rattle.std.proofs.lemmas.Bool.Decides.{nat_tests}
use Rattle.std.proofs.lemmas.Bool.{both_ways}
use Rattle.span.specs.declared.Span.{Span}
use Rattle.span.specs.declared.Span.TheVariants.{Between, Empty}
use Rattle.span.specs.World.{Rules, Event, World}
use Rattle.span.specs.Span.{is_in, holds_none}
use Rattle.span.specs.Model.{span_of}
use Rattle.span.proofs.Paths.{known_exact, more_faulty_wider}
use Rattle.choice.specs.Choice.{bit, Allowed, choice_of}
use Rattle.choice.specs.Said.{May, Named, NoneLeft}
use Rattle.choice.specs.Promise.{FaultyInAll, NoWorld, ExactOverAll, SaysNoLess}
use Rattle.choice.proofs.Bits.{bit_there, ones_many, choice_below, choice_bit, choice_ones}

-- a span that holds a time is not empty, and one that is not empty holds one
pub has_some : (s : Span) (t : ℕ) → T (is_in t s) → holds_none s ≡ false
has_some (Between lo hi) t h = grind (arith, nat_tests)
has_some Empty t h = elim h [ ]

pub some_has : (s : Span) → holds_none s ≡ false → (t : ℕ) × T (is_in t s)
some_has (Between lo hi) h = (lo, within lo hi h) where
  within : (lo hi : ℕ) → holds_none (Between lo hi) ≡ false → T (is_in lo (Between lo hi))
  within lo hi h = grind (arith, nat_tests)
some_has Empty h = absurd (both_ways true h refl)

-- a world is one of the choice of its faulty servers
pub chosen : (r : Rules) (es : List Event) (t : ℕ) (w : World r es t) → Allowed r (choice_of w.who r.servers)
chosen r es t w = record { there = choice_below w.who r.servers; few = subst (λ x. x ≤ r.faulty) (sym (choice_ones w.who r.servers)) w.few }

pub in_chosen : (r : Rules) (es : List Event) (t : ℕ) (w : World r es t) → T (is_in t (span_of r (bit (choice_of w.who r.servers)) es))
in_chosen r es t w =
    more_faulty_wider r w.who (bit (choice_of w.who r.servers)) (λ v e. choice_bit w.who r.servers v (w.there v e) ∙ e) es t
    ((known_exact r w.who es t).1 w.times w.way)

pub world_may : (r : Rules) (es : List Event) (t : ℕ) → World r es t → May r es t
world_may r es t w = record { choice = choice_of w.who r.servers; allowed = chosen r es t w; holds = in_chosen r es t w }

-- a choice whose span holds t has a world with t now, in which just its servers are faulty
pub choice_world : (r : Rules) (es : List Event) (t c : ℕ) → Allowed r c → T (is_in t (span_of r (bit c) es)) → World r es t
choice_world r es t c a i =
    let way = (known_exact r (bit c) es t).0 i in
    record {
      who = bit c;
      there = λ v e. bit_there c r.servers v a.there e;
      few = subst (λ x. x ≤ r.faulty) (ones_many r.servers c a.there) a.few;
      times = way.0;
      way = way.1;
    }

pub may_world : (r : Rules) (es : List Event) (t : ℕ) → May r es t → World r es t
may_world r es t m = choice_world r es t m.choice m.allowed m.holds

named_faulty : (r : Rules) (es : List Event) (v : ℕ) → Named r es v → FaultyInAll r es v
named_faulty r es v named t w =
    let c = choice_of w.who r.servers in
    let e = named c (chosen r es t w) (has_some (span_of r (bit c) es) t (in_chosen r es t w)) in
    sym (choice_bit w.who r.servers v (bit_there c r.servers v (chosen r es t w).there e)) ∙ e

faulty_named : (r : Rules) (es : List Event) (v : ℕ) → FaultyInAll r es v → Named r es v
unfolding choice_world
faulty_named r es v all c a h =
    let t = some_has (span_of r (bit c) es) h in
    all t.0 (choice_world r es t.0 c a t.1)

no_world_none : (r : Rules) (es : List Event) → NoWorld r es → NoneLeft r es
no_world_none r es never c a = go (holds_none (span_of r (bit c) es)) refl where
  go : (b : Bool) → holds_none (span_of r (bit c) es) ≡ b → holds_none (span_of r (bit c) es) ≡ true
  go true e = e
  go false e = let t = some_has (span_of r (bit c) es) e in absurd (never t.0 (choice_world r es t.0 c a t.1))

none_no_world : (r : Rules) (es : List Event) → NoneLeft r es → NoWorld r es
none_no_world r es none t w =
    let c = choice_of w.who r.servers in
    both_ways (holds_none (span_of r (bit c) es)) (has_some (span_of r (bit c) es) t (in_chosen r es t w)) (none c (chosen r es t w))

pub exact_over_all : ExactOverAll
exact_over_all r es = record {
  said = world_may r es;
  real = may_world r es;
  named = named_faulty r es;
  blamed = faulty_named r es;
  none = no_world_none r es;
  gone = none_no_world r es;
}

-- No rule that is never wrong says less.
pub says_no_less : (says blames : List Event → ℕ → Type 0) → SaysNoLess says blames
says_no_less says blames = record {
  times = λ r right es t m. right es t (may_world r es t m);
  names = λ r just es v b. faulty_named r es v (just es v b);
}
