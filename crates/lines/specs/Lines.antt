-- The lines of the box's record: their bytes, and how bytes are read.
-- As a message to the box, a line is read by its first byte, its kind; what follows has a fixed length, but for a
-- reckoned line, whose length follows from how many runs it has. A number stands high byte first.
use Rattle.std.specs.Prelude.{ℕ, zero, suc, ◌+◌, ◌*◌, ◌/◌, Bool, true, false, cond, List, [], ◌∷◌, ◌++◌, length, take, drop, Some, None, Ok, Err, Option, Result, ◌==◌, slice_index}
use Rattle.std.specs.List.{flat_map}
use Rattle.wire.specs.Numbers.{be2, be8, number2, number8}
use Rattle.wire.specs.Refusals.{number_of, refusal_of}
use Rattle.wire.specs.declared.refusal.Refusal.{Refusal}
use Rattle.wire.specs.declared.refusal.Refusal.TheVariants.{Malformed}
use Rattle.lines.specs.declared.line.Request.{Request}
use Rattle.lines.specs.declared.line.Heard.{Heard}
use Rattle.choice.specs.declared.runs.Run.{Run}
use Rattle.lines.specs.declared.line.Said.{Said}
use Rattle.lines.specs.declared.line.Asked.{Asked}
use Rattle.lines.specs.declared.line.Hand.{Hand}
use Rattle.lines.specs.declared.line.Line.{Line}
use Rattle.lines.specs.declared.line.Kind.{Kind}
use Rattle.lines.specs.Kinds.{kind_of}

-- what was reckoned: the runs in which the time can be, and the named servers, bit h for server h
pub record Reckoning : Type 0 where
  pub count : ℕ
  pub runs : List Run
  pub named : ℕ

-- a line, apart from where its bytes lie
pub data Entry : Type 0 where
  request : Request → Entry
  heard : Heard → Entry
  reckoned : Reckoning → Entry
  marked : ℕ → Entry
  said : Said → Entry
  asked : Asked → Entry
  refused : Refusal → Entry
  hand : Hand → Entry

-- the runs that bytes are, 16 bytes each
unfoldable pub runs_from : ℕ → List ℕ → List Run
runs_from zero bs = []
runs_from (suc n) bs = record { lo = number8 bs; hi = number8 (drop 8 bs) } ∷ runs_from n (drop 16 bs)

abbrev pub runs_of : List ℕ → List Run
runs_of bs = runs_from (length bs / 16) bs

abbrev pub run_bytes : Run → List ℕ
run_bytes r = be8 r.lo ++ be8 r.hi

-- the line that the code's value stands for
abbrev pub entry_of : Line → Entry
entry_of (Line.Request r) = request r
entry_of (Line.Heard h) = heard h
entry_of (Line.Reckoned r) = reckoned (record { count = r.count; runs = runs_of r.runs.now; named = r.named })
entry_of (Line.Marked c) = marked c
entry_of (Line.Said s) = said s
entry_of (Line.Asked a) = asked a
entry_of (Line.Refused e) = refused e
entry_of (Line.Hand h) = hand h

abbrev pub shown : Result Line Refusal → Result Entry Refusal
shown (Ok m) = Ok (entry_of m)
shown (Err e) = Err e

abbrev pub bit : Bool → ℕ
bit true = 1
bit false = 0

-- the bytes of every line
abbrev pub bytes_of : Entry → List ℕ
bytes_of (request r) = 1 ∷ r.server ∷ r.nonce
bytes_of (heard h) = 3 ∷ (be8 h.count ++ (be8 h.asked ++ h.server ∷ (be8 h.least ++ be8 h.greatest)))
bytes_of (reckoned r) = 4 ∷ (be8 r.count ++ length r.runs ∷ (flat_map run_bytes r.runs ++ be2 r.named))
bytes_of (marked c) = 5 ∷ be8 c
bytes_of (said s) = 6 ∷ (be8 s.count ++ (be8 s.least ++ be8 s.greatest))
bytes_of (asked a) = 7 ∷ (be8 a.count ++ a.server ∷ [])
bytes_of (refused e) = 21 ∷ number_of e ∷ []
bytes_of (hand h) = 22 ∷ (be8 h.time ++ bit h.sound ∷ [])

-- what follows the kind: at which place each part begins, and the length of the whole
abbrev pub request_of : List ℕ → Result Entry Refusal
request_of bs =
    cond (length bs == 33) (Ok (request (record { server = slice_index bs 0; nonce = drop 1 bs }))) (Err Malformed)

abbrev pub heard_of : List ℕ → Result Entry Refusal
heard_of bs =
    cond (length bs == 33)
    (Ok (heard (record {
      count = number8 bs;
      asked = number8 (drop 8 bs);
      server = slice_index bs 16;
      least = number8 (drop 17 bs);
      greatest = number8 (drop 25 bs);
    })))
    (Err Malformed)

abbrev pub reckoned_of : List ℕ → Result Entry Refusal
reckoned_of bs =
    cond (length bs == 11 + 16 * slice_index bs 8)
    (Ok (reckoned (record {
      count = number8 bs;
      runs = runs_of (take (16 * slice_index bs 8) (drop 9 bs));
      named = number2 (drop (9 + 16 * slice_index bs 8) bs);
    })))
    (Err Malformed)

abbrev pub marked_of : List ℕ → Result Entry Refusal
marked_of bs = cond (length bs == 8) (Ok (marked (number8 bs))) (Err Malformed)

abbrev pub said_of : List ℕ → Result Entry Refusal
said_of bs =
    cond (length bs == 24)
    (Ok (said (record { count = number8 bs; least = number8 (drop 8 bs); greatest = number8 (drop 16 bs) })))
    (Err Malformed)

abbrev pub asked_of : List ℕ → Result Entry Refusal
asked_of bs =
    cond (length bs == 9) (Ok (asked (record { count = number8 bs; server = slice_index bs 8 }))) (Err Malformed)

-- a refusal whose number there is
abbrev pub refused_by : Option Refusal → Result Entry Refusal
refused_by (Some e) = Ok (refused e)
refused_by None = Err Malformed

abbrev pub refused_of : List ℕ → Result Entry Refusal
refused_of bs = cond (length bs == 1) (refused_by (refusal_of (slice_index bs 0))) (Err Malformed)

-- sound or not: 1 or 0, and nothing else
abbrev pub hand_by : ℕ → ℕ → Result Entry Refusal
hand_by time b =
    cond (b == 0) (Ok (hand (record { time = time; sound = false })))
    (cond (b == 1) (Ok (hand (record { time = time; sound = true }))) (Err Malformed))

abbrev pub hand_of : List ℕ → Result Entry Refusal
hand_of bs = cond (length bs == 9) (hand_by (number8 bs) (slice_index bs 8)) (Err Malformed)

-- what follows a kind
abbrev pub body_of : Kind → List ℕ → Result Entry Refusal
body_of Kind.Request bs = request_of bs
body_of Kind.Heard bs = heard_of bs
body_of Kind.Reckoned bs = reckoned_of bs
body_of Kind.Marked bs = marked_of bs
body_of Kind.Said bs = said_of bs
body_of Kind.Asked bs = asked_of bs
body_of Kind.Refused bs = refused_of bs
body_of Kind.Hand bs = hand_of bs

-- the same, where the kind may be unknown
abbrev pub body_by : Option Kind → List ℕ → Result Entry Refusal
body_by (Some kind) bs = body_of kind bs
body_by None bs = Err Malformed

-- every list of bytes is one line or has one fault
abbrev pub entry_from : List ℕ → Result Entry Refusal
entry_from [] = Err Malformed
entry_from (number ∷ bs) = body_by (kind_of number) bs
