-- What a played world holds, when a step of it is refused, and what is shown of it.
use Rattle.std.specs.Prelude.{◌≡◌, ℕ, ◌+◌, ◌-◌, ◌^◌, Bool, true, false, cond, ◌&&◌, ◌||◌, ◌⊎◌, List, Some, None, vec_items, Option, Result, MatchResult, nat_le, nat_lt, slice_index_or, slice_set}
use Rattle.span.specs.Rate.{allowed}
use Rattle.span.specs.Span.{ceiling}
use Rattle.choice.specs.declared.case.Case.{Case}
use Rattle.choice.specs.declared.runs.Run.{Run}
use Rattle.choice.specs.Runs.{in_runs, bounds_of}
use Rattle.hand.specs.declared.Hand.{Hand}
use Rattle.hand.specs.Hand.{heard, passed}
use Rattle.script.specs.declared.Settings.{Settings}
use Rattle.script.specs.declared.Word.{Word}
use Rattle.play.specs.declared.scene.Scene.{Scene}
use Rattle.play.specs.declared.scene.Fault.{Fault}
use Rattle.play.specs.declared.scene.Fault.TheVariants.{SettingsRange, OutsideDrift, PastCeiling, PastCount, NoServer, WordRange, NotTrue, TooManyLie, NoMemory}

-- the latest that true time can be at the beginning
abbrev pub latest : ℕ
latest = 2 ^ 61

-- a played world: how many servers there are, may be faulty and have lied, and which; the drift in millionths, the local clock's count and true time; the spans of all choices, and the runs that are said; for how many servers names are worked out; and the hand
pub record Played : Type 0 where
  pub servers : ℕ
  pub faulty : ℕ
  pub liars : ℕ
  pub lied : List Bool
  pub drift : ℕ
  pub count : ℕ
  pub truth : ℕ
  pub row : List Case
  pub runs : List Run
  pub naming : ℕ
  pub hand : Hand

abbrev pub view_of : Scene → Played
view_of s = record {
  servers = s.cast.servers.many;
  faulty = s.cast.servers.faulty;
  liars = s.cast.liars;
  lied = s.cast.lied;
  drift = s.drift.millionths;
  count = s.count;
  truth = s.truth;
  row = vec_items s.ledger.row;
  runs = vec_items s.ledger.runs;
  naming = s.ledger.servers.many;
  hand = s.hand;
}

-- settings of a world: one to ten servers, fewer of them faulty, a drift of at most a thousand millionths, a true time that can be at the beginning
abbrev pub in_range : Settings → Bool
in_range s = (nat_le s.servers 10 && nat_lt s.faulty s.servers) && (nat_le s.drift 1000 && nat_le s.truth latest)

-- the first of two faults
abbrev pub first : Option Fault → Option Fault → Option Fault
first None f = f
first (Some e) f = Some e

abbrev pub unless : Bool → Fault → Option Fault
unless true e = None
unless false e = Some e

-- n ticks in which true time goes on by u are refused outside the drift, past the ceiling, and past the largest count
abbrev pub pass_fault : Played → ℕ → ℕ → Option Fault
pass_fault p n u = first (unless (allowed p.drift n u) OutsideDrift) (first (unless (nat_le (p.truth + u) ceiling) PastCeiling) (unless (nat_lt (p.count + n) (2 ^ 64)) PastCount))

-- the two times between which a word says that it is
abbrev pub least_of : Word → ℕ
least_of w = w.midpoint - w.radius

abbrev pub greatest_of : Word → ℕ
greatest_of w = w.midpoint + w.radius

-- a word of a server that isn't there, or out of range
abbrev pub word_fault : Played → Word → Option Fault
word_fault p w = first (unless (nat_lt w.server p.servers) NoServer) (unless (nat_le w.midpoint ceiling && nat_le w.radius (2 ^ 31)) WordRange)

-- an honest word has to be true
abbrev pub reply_fault : Played → Word → Option Fault
reply_fault p w = first (word_fault p w) (unless (nat_le (least_of w) p.truth && nat_le p.truth (greatest_of w)) NotTrue)

-- a server may lie that has lied before, or if fewer have than may be faulty
abbrev pub may_lie : Played → ℕ → Bool
may_lie p v = slice_index_or p.lied v false || nat_lt p.liars p.faulty

abbrev pub lie_fault : Played → Word → Option Fault
lie_fault p w = first (word_fault p w) (unless (may_lie p w.server) TooManyLie)

-- an answer is the fault, if there is one
abbrev pub Answers : {X : Type 0} → Option Fault → Result X Fault → Type 0
Answers f r = MatchResult r (λ _. f ≡ None) (λ e. f ≡ Some e)

-- who is there, and the drift, stay; and so does who lied
pub record Same (p q : Played) : Type 0 where
  pub servers : q.servers ≡ p.servers
  pub faulty : q.faulty ≡ p.faulty
  pub drift : q.drift ≡ p.drift
  pub naming : q.naming ≡ p.naming

pub record SameLiars (p q : Played) : Type 0 where
  pub liars : q.liars ≡ p.liars
  pub lied : q.lied ≡ p.lied

-- settings are refused out of range, and for want of memory only in range
abbrev pub NotBegun : Settings → Fault → Type 0
NotBegun s e = ((in_range s ≡ false) × (e ≡ SettingsRange)) ⊎ ((in_range s ≡ true) × (e ≡ NoMemory))

-- n ticks later: the clock and true time have gone on, and all else but the spans has stayed
pub record Passed (p : Played) (n u : ℕ) (q : Played) : Type 0 where
  pub same : Same p q
  pub liars : SameLiars p q
  pub count : q.count ≡ p.count + n
  pub truth : q.truth ≡ p.truth + u
  pub hand : q.hand ≡ passed q.runs n p.hand

-- the hand at an asking, and at the reply that came with no tick between
abbrev pub hand_heard : Played → Played → Hand
hand_heard p q = heard q.runs 0 (passed p.runs 0 p.hand)

-- a word was heard: all but the spans has stayed
pub record Stayed (p q : Played) : Type 0 where
  pub same : Same p q
  pub liars : SameLiars p q
  pub count : q.count ≡ p.count
  pub truth : q.truth ≡ p.truth
  pub hand : q.hand ≡ hand_heard p q

-- a lie was heard: its server has lied, and all else but the spans has stayed
pub record Lied (p : Played) (w : Word) (q : Played) : Type 0 where
  pub same : Same p q
  pub liars : q.liars ≡ p.liars + cond (slice_index_or p.lied w.server false) 0 1
  pub lied : q.lied ≡ slice_set p.lied w.server true
  pub count : q.count ≡ p.count
  pub truth : q.truth ≡ p.truth
  pub hand : q.hand ≡ hand_heard p q

-- how wide what is said is
abbrev pub wide : Option (ℕ × ℕ) → ℕ
wide None = 0
wide (Some b) = b.1 - b.0

abbrev pub width_of : Played → ℕ
width_of p = wide (bounds_of p.runs)

abbrev pub said_of : Played → Bool
said_of p = in_runs p.truth p.runs
