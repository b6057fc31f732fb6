-- What each call answers, and what it leaves: a refusal leaves all as it was.
use Rattle.std.specs.Prelude.{◌≡◌, ℕ, ◌+◌, ◌-◌, ◌^◌, true, false, List, Some, None, Ok, Err, Option, Result}
use Rattle.choice.specs.declared.runs.Run.{Run}
use Rattle.choice.specs.Choice.{chosen}
use Rattle.window.specs.Steps.{begun}
use Rattle.requests.specs.Book.{standing_of, no_book}
use Rattle.wire.specs.declared.input.Reading.{Reading}
use Rattle.wire.specs.declared.refusal.Refusal.{Refusal}
use Rattle.exchange.specs.declared.made.Made.{Made}
use Rattle.exchange.specs.declared.made.Heard.{Heard}
use Rattle.exchange.specs.State.{State}
use Rattle.exchange.specs.Steps.{forgets, is_lost, finished, clocked, is_put_off, nearer, replied, taken_for, shown_by, asked_by, marked_by, accepted_by, show_refusal, ask_refusal, mark_refusal, reply_refusal, place_of}
use Rattle.exchange.specs.Stands.{Said}

-- at the beginning true time is anything up to this
abbrev pub latest : ℕ
latest = 2 ^ 61

abbrev pub fresh : ℕ → ℕ → ℕ → State
fresh servers faulty drift = record { servers = servers; window = begun servers drift latest (chosen faulty (2 ^ servers)); book = no_book; last = 0; count = 0 }

pub record Begins (servers faulty drift : ℕ) (s : State) (runs : List Run) : Type 0 where
  pub state : s ≡ fresh servers faulty drift
  pub says : Said s.window.here runs

-- A moment was made, before which all was thus, and after which it was thus until it was asked whether a world is left.
pub record Makes (before made : State) (m : Made) (after : State) (runs : List Run) : Type 0 where
  pub ticks : m.ticks ≡ before.count - before.last
  pub forgot : m.forgot ≡ forgets before
  pub lost : m.lost ≡ is_lost made
  pub state : after ≡ finished made
  pub says : Said after.window.here runs

-- a call is refused for this reason, and changes nothing
pub record Refuses (why : Option Refusal) (e : Refusal) (s : State) (rs : List Run) (t : State) (us : List Run) : Type 0 where
  pub why_is : why ≡ Some e
  pub state : t ≡ s
  pub runs : us ≡ rs

-- a showing was put off: the clock was set
pub record PutsOff (count : ℕ) (s : State) (rs : List Run) (t : State) (us : List Run) : Type 0 where
  pub none : show_refusal count s ≡ None
  pub off : is_put_off (clocked count s) ≡ true
  pub state : t ≡ clocked count s
  pub runs : us ≡ rs

pub record ShowsNow (count : ℕ) (s : State) (m : Made) (t : State) (us : List Run) : Type 0 where
  pub none : show_refusal count s ≡ None
  pub on : is_put_off (clocked count s) ≡ false
  pub makes : Makes (clocked count s) (shown_by count s) m t us

abbrev pub Shows : ℕ → State → List Run → Result (Option Made) Refusal → State → List Run → Type 0
Shows count s rs (Ok None) t us = PutsOff count s rs t us
Shows count s rs (Ok (Some m)) t us = ShowsNow count s m t us
Shows count s rs (Err e) t us = Refuses (show_refusal count s) e s rs t us

pub record AsksNow (server : ℕ) (nonce : List ℕ) (s : State) (m : Made) (t : State) (us : List Run) : Type 0 where
  pub none : ask_refusal server s ≡ None
  pub makes : Makes (nearer s) (asked_by server nonce s) m t us

abbrev pub Asks : ℕ → List ℕ → State → List Run → Result Made Refusal → State → List Run → Type 0
Asks server nonce s rs (Ok m) t us = AsksNow server nonce s m t us
Asks server nonce s rs (Err e) t us = Refuses (ask_refusal server s) e s rs t us

pub record MarksNow (s : State) (m : Made) (t : State) (us : List Run) : Type 0 where
  pub none : mark_refusal s ≡ None
  pub makes : Makes (nearer s) (marked_by s) m t us

abbrev pub Marks : State → List Run → Result Made Refusal → State → List Run → Type 0
Marks s rs (Ok m) t us = MarksNow s m t us
Marks s rs (Err e) t us = Refuses (mark_refusal s) e s rs t us

-- the place of the request that a reply answers
abbrev pub answering : Reading → State → ℕ
answering q s = place_of (standing_of q.server q.nonce s.book)

pub record AcceptsNow (q : Reading) (s : State) (h : Heard) (t : State) (us : List Run) : Type 0 where
  pub none : reply_refusal q s ≡ None
  pub asked : h.asked ≡ (taken_for (answering q s) s).count
  pub least : h.least ≡ q.midpoint - q.radius
  pub greatest : h.greatest ≡ q.midpoint + q.radius
  pub makes : Makes (nearer (replied (answering q s) q.server (q.midpoint + q.radius) s)) (accepted_by (answering q s) q.server (q.midpoint - q.radius) (q.midpoint + q.radius) s) h.made t us

abbrev pub Accepts : Reading → State → List Run → Result Heard Refusal → State → List Run → Type 0
Accepts q s rs (Ok h) t us = AcceptsNow q s h t us
Accepts q s rs (Err e) t us = Refuses (reply_refusal q s) e s rs t us
