-- What is promised of a played world: it is a world, what is said in it is exactly what can be, and so true time is always said.
use Rattle.std.specs.Prelude.{◌≡◌, ℕ, ◌+◌, ◌<◌, ◌≤◌, Bool, true, false, List, [], ◌∷◌, ◌++◌, Decides, slice_index_or}
use Rattle.span.specs.Rate.{Strides}
use Rattle.span.specs.World.{Event, Rules, Faulty, how_many, Way}
use Rattle.choice.specs.Choice.{bit}
use Rattle.choice.specs.Row.{choices_in}
use Rattle.choice.specs.Promise.{FaultyInAll}
use Rattle.choice.specs.Stands.{Stands}
use Rattle.script.specs.declared.Settings.{Settings}
use Rattle.script.specs.declared.Word.{Word}
use Rattle.ledger.specs.Ledger.{asks, hears, Says, Hears}
use Rattle.hand.specs.Hand.{sound_in}
use Rattle.play.specs.declared.scene.Moment.{Moment}
use Rattle.play.specs.Scene.{Played, Same, latest, least_of, greatest_of, hand_heard, said_of, width_of}

-- those who have lied
abbrev pub liars_of : List Bool → Faulty
liars_of lied v = slice_index_or lied v false

-- the rules that the settings give
abbrev pub rules_of : Settings → Rules
rules_of s = record { servers = s.servers; faulty = s.faulty; drift = s.drift; latest = latest }

-- the local clock's count after a run
abbrev pub count_of : List Event → ℕ
count_of [] = 0
count_of (e ∷ es) = count_of es + e.ticks

-- The scene plays this run: those who lied are faulty, and no more than may be; true time went a way that the rules allow, by these times; and the spans and what is said are those of the run.
pub record Plays (r : Rules) (es : List Event) (ts : List ℕ) (p : Played) : Type 0 where
  pub servers : p.servers ≡ r.servers
  pub faulty : p.faulty ≡ r.faulty
  pub drift : p.drift ≡ r.drift
  pub counted : p.count ≡ count_of es
  pub few : p.liars ≤ p.faulty
  pub many : how_many (liars_of p.lied) p.servers ≡ p.liars
  pub there : (v : ℕ) → liars_of p.lied v ≡ true → v < p.servers
  pub way : Way r (liars_of p.lied) es p.truth ts
  pub stands : Stands r es p.row
  pub says : Says p.row p.runs
  pub naming : p.naming ≡ p.servers

-- the named servers are just those that are faulty in every world of the run
abbrev pub NamesAll : Played → ℕ → Type 0
NamesAll p set = (r : Rules) (es : List Event) (ts : List ℕ) → Plays r es ts p → (v : ℕ) → (v < p.servers → Decides (bit set v) (FaultyInAll r es v)) × (bit set v ≡ true → v < p.servers)

-- what is shown of a played world: its count and true time, whether that is said, how wide what is said is, who is named, and the hand and whether its time may be
pub record Shown (p : Played) (m : Moment) : Type 0 where
  pub count : m.count ≡ p.count
  pub truth : m.truth ≡ p.truth
  pub said : m.said ≡ said_of p
  pub width : m.width ≡ width_of p
  pub named : NamesAll p m.named
  pub hand : m.hand ≡ p.hand.time
  pub sound : m.sound ≡ sound_in p.runs p.hand.time

-- the moments of a word that was asked for and heard
abbrev pub heard_of : Word → List Event
heard_of w = hears w.server (least_of w) (greatest_of w) ∷ (asks w.server ∷ [])

-- where a run is played, what was done leads on to the run with these moments
abbrev pub LeadsOn : List Event → Played → Played → Type 0
LeadsOn new p q = (r : Rules) (es : List Event) (ts : List ℕ) → Plays r es ts p → (us : List ℕ) × Plays r (new ++ es) us q

-- a word was asked for and heard by the ledger: what its row stands for, and that all else has stayed
pub record Heard (p : Played) (w : Word) (q : Played) : Type 0 where
  pub same : Same p q
  pub count : q.count ≡ p.count
  pub truth : q.truth ≡ p.truth
  pub hand : q.hand ≡ hand_heard p q
  pub choices : choices_in q.row ≡ choices_in p.row
  pub low : ℕ
  pub high : ℕ
  pub strides : Strides p.drift 0 low high
  pub hears : Hears low high w.server (least_of w) (greatest_of w) p.row q.row
  pub says : Says q.row q.runs
