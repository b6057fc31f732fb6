-- The messages that the box takes: their bytes, and how bytes are read.
-- A message is read by its first byte, its kind; what follows has a fixed length, but for settings, whose length
-- follows from how many servers they name. A number stands high byte first.
use Rattle.std.specs.Prelude.{ℕ, ◌+◌, ◌*◌, Bool, cond, ◌&&◌, List, [], ◌∷◌, ◌++◌, length, take, drop, Some, None, Option, Ok, Err, Result, ◌==◌, nat_le, nat_lt, slice_index}
use Rattle.wire.specs.Numbers.{be4, be8, number4, number8}
use Rattle.wire.specs.declared.refusal.Refusal.{Refusal}
use Rattle.wire.specs.declared.refusal.Refusal.TheVariants.{Malformed, OutOfRange}
use Rattle.wire.specs.Kinds.{kind_of}
use Rattle.wire.specs.declared.input.Kind.{Kind}
use Rattle.wire.specs.declared.input.Input.{Input}
use Rattle.wire.specs.declared.input.Input.TheVariants.{Settings, Count, Ask, Mark, Event}
use Rattle.wire.specs.declared.input.Reply.{Reply}

-- what the box is set up with: the keys are 32 bytes for each server
pub record Setup : Type 0 where
  pub servers : ℕ
  pub faulty : ℕ
  pub drift : ℕ
  pub keys : List ℕ

-- a message, apart from where its bytes lie
pub data Message : Type 0 where
  reply : Reply → Message
  settings : Setup → Message
  count : ℕ → Message
  ask : ℕ → Message
  mark : Message
  event : ℕ → Message

-- the message that the code's value stands for
abbrev pub message_of : Input → Message
message_of (Input.Reply r) = reply r
message_of (Settings s) = settings (record { servers = s.servers; faulty = s.faulty; drift = s.drift; keys = s.keys.now })
message_of (Count c) = count c
message_of (Ask h) = ask h
message_of Mark = mark
message_of (Event c) = event c

abbrev pub seen : Result Input Refusal → Result Message Refusal
seen (Ok m) = Ok (message_of m)
seen (Err e) = Err e

-- the bytes of every message
abbrev pub bytes_of : Message → List ℕ
bytes_of (reply r) =
    2 ∷ r.reading.server ∷ (r.reading.nonce ++ (be8 r.reading.midpoint ++ (be4 r.reading.radius ++ r.signature)))
bytes_of (settings s) = 16 ∷ s.servers ∷ s.faulty ∷ (be4 s.drift ++ s.keys)
bytes_of (count c) = 17 ∷ be8 c
bytes_of (ask h) = 18 ∷ h ∷ []
bytes_of mark = 19 ∷ []
bytes_of (event c) = 20 ∷ be8 c

-- what follows the kind: at which place each part begins, and the length of the whole
abbrev pub reply_of : List ℕ → Result Message Refusal
reply_of bs =
    cond (length bs == 109)
    (Ok (reply (record {
      reading =
          record {
            server = slice_index bs 0;
            nonce = take 32 (drop 1 bs);
            midpoint = number8 (drop 33 bs);
            radius = number4 (drop 41 bs);
          };
      signature = drop 45 bs;
    })))
    (Err Malformed)

-- how many servers there may be, how many of them faulty, and how large the drift
abbrev pub in_range : ℕ → ℕ → ℕ → Bool
in_range servers faulty drift = nat_le 1 servers && nat_le servers 10 && nat_lt faulty servers && nat_le drift 1000

abbrev pub setup_of : List ℕ → Result Message Refusal
setup_of bs =
    cond (length bs == 6 + 32 * slice_index bs 0)
    (cond (in_range (slice_index bs 0) (slice_index bs 1) (number4 (drop 2 bs)))
    (Ok (settings (record {
      servers = slice_index bs 0;
      faulty = slice_index bs 1;
      drift = number4 (drop 2 bs);
      keys = drop 6 bs;
    })))
    (Err OutOfRange))
    (Err Malformed)

abbrev pub count_of : List ℕ → Result Message Refusal
count_of bs = cond (length bs == 8) (Ok (count (number8 bs))) (Err Malformed)

abbrev pub ask_of : List ℕ → Result Message Refusal
ask_of bs = cond (length bs == 1) (Ok (ask (slice_index bs 0))) (Err Malformed)

abbrev pub mark_of : List ℕ → Result Message Refusal
mark_of bs = cond (length bs == 0) (Ok mark) (Err Malformed)

abbrev pub event_of : List ℕ → Result Message Refusal
event_of bs = cond (length bs == 8) (Ok (event (number8 bs))) (Err Malformed)

-- what follows a kind
abbrev pub body_of : Kind → List ℕ → Result Message Refusal
body_of Kind.Reply bs = reply_of bs
body_of Kind.Settings bs = setup_of bs
body_of Kind.Count bs = count_of bs
body_of Kind.Ask bs = ask_of bs
body_of Kind.Mark bs = mark_of bs
body_of Kind.Event bs = event_of bs

-- the same, where the kind may be unknown
abbrev pub body_by : Option Kind → List ℕ → Result Message Refusal
body_by (Some kind) bs = body_of kind bs
body_by None bs = Err Malformed

-- every list of bytes is one message or has one fault
abbrev pub decode : List ℕ → Result Message Refusal
decode [] = Err Malformed
decode (number ∷ bs) = body_by (kind_of number) bs
