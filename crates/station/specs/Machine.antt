-- What the box holds once it is set up, and what each message makes of it.
use Rattle.std.specs.Prelude.{◌≡◌, ℕ, Bool, false, cond, List, Some, None, Ok, Err, vec_items, Option, Result}
use Rattle.choice.specs.declared.runs.Run.{Run}
use Rattle.hand.specs.declared.Hand.{Hand}
use Rattle.hand.specs.Hand.{heard, passed, lost}
use Rattle.exchange.specs.declared.made.Made.{Made}
use Rattle.exchange.specs.State.{State, state_of, runs_of}
use Rattle.exchange.specs.Calls as calls
use Rattle.exchange.specs.Stands.{ShowsOn, AsksOn, MarksOn}
use Rattle.exchange.specs.Events.{EventWorlds}
use Rattle.wire.specs.declared.refusal.Refusal.{Refusal}
use Rattle.station.specs.declared.answer.Deed.TheVariants as deed
use Rattle.station.specs.declared.answer.Answer.{Answer}
use Rattle.station.specs.declared.answer.Answer.TheVariants.{Moment, Event}
use Rattle.station.specs.declared.Machine.{Machine}

-- the reckoning and the runs that it says, the hand, and the servers' keys
pub record Box : Type 0 where
  pub state : State
  pub runs : List Run
  pub hand : Hand
  pub keys : List (List ℕ)

abbrev pub box_of : Machine → Box
box_of m = record { state = state_of m.exchange; runs = runs_of m.exchange; hand = m.hand; keys = vec_items m.keys }

-- the hand after a moment: it runs freely where no world was left, and steps at a reply and otherwise
abbrev pub turned : Made → Bool → List Run → Hand → Hand
turned m is_heard runs h = cond m.lost (lost m.ticks h) (cond is_heard (heard runs m.ticks h) (passed runs m.ticks h))

-- A count: what the reckoning does, what is answered, and how the hand goes on.
abbrev pub show_answer : Result (Option Made) Refusal → Result (Option Answer) Refusal
show_answer (Err e) = Err e
show_answer (Ok None) = Ok None
show_answer (Ok (Some m)) = Ok (Some (Moment deed.Shown m))

abbrev pub show_hand : Result (Option Made) Refusal → List Run → Hand → Hand
show_hand (Err e) runs h = h
show_hand (Ok None) runs h = h
show_hand (Ok (Some m)) runs h = turned m false runs h

pub record Counts (count : ℕ) (b : Box) (a : Result (Option Answer) Refusal) (c : Box) : Type 0 where
  pub shown : Result (Option Made) Refusal
  pub does : calls.Shows count b.state b.runs shown c.state c.runs
  pub on : ShowsOn b.state b.runs shown c.state c.runs
  pub answer : a ≡ show_answer shown
  pub hand : c.hand ≡ show_hand shown c.runs b.hand
  pub keys : c.keys ≡ b.keys

-- an ask
abbrev pub ask_answer : ℕ → List ℕ → Result Made Refusal → Result Answer Refusal
ask_answer v nonce (Err e) = Err e
ask_answer v nonce (Ok m) = Ok (Moment (deed.Asked v nonce) m)

abbrev pub made_hand : Result Made Refusal → List Run → Hand → Hand
made_hand (Err e) runs h = h
made_hand (Ok m) runs h = turned m false runs h

pub record Asks (v : ℕ) (nonce : List ℕ) (b : Box) (a : Result Answer Refusal) (c : Box) : Type 0 where
  pub made : Result Made Refusal
  pub does : calls.Asks v nonce b.state b.runs made c.state c.runs
  pub on : AsksOn v b.state b.runs made c.state c.runs
  pub answer : a ≡ ask_answer v nonce made
  pub hand : c.hand ≡ made_hand made c.runs b.hand
  pub keys : c.keys ≡ b.keys

-- a mark
abbrev pub mark_answer : Result Made Refusal → Result Answer Refusal
mark_answer (Err e) = Err e
mark_answer (Ok m) = Ok (Moment deed.Marked m)

pub record Marks (b : Box) (a : Result Answer Refusal) (c : Box) : Type 0 where
  pub made : Result Made Refusal
  pub does : calls.Marks b.state b.runs made c.state c.runs
  pub on : MarksOn b.state b.runs made c.state c.runs
  pub answer : a ≡ mark_answer made
  pub hand : c.hand ≡ made_hand made c.runs b.hand
  pub keys : c.keys ≡ b.keys

-- a question about an event
abbrev pub event_answer : ℕ → Result (ℕ × ℕ) Refusal → Result Answer Refusal
event_answer count (Err e) = Err e
event_answer count (Ok b) = Ok (Event count b.0 b.1)

pub record Events (count : ℕ) (b : Box) (a : Result Answer Refusal) : Type 0 where
  pub said : Result (ℕ × ℕ) Refusal
  pub exact : EventWorlds count b.state b.runs said
  pub answer : a ≡ event_answer count said
