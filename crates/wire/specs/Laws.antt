-- What holds of all messages to the box: what is written is read back as itself, what is read is written as it was, and
-- two that differ have different bytes.
-- A struct of the code is a bare record here, so that its numbers fit their width is said.
use Rattle.std.specs.Prelude.{◌≡◌, ◌↔◌, ℕ, ◌*◌, ◌^◌, ◌<◌, true, List, [], ◌∷◌, length, Some, Ok, Err, Result}
use Rattle.wire.specs.Inputs.{Message, reply, settings, count, ask, mark, event, bytes_of, decode, in_range}
use Rattle.wire.specs.Kinds.{kind_of}
use Rattle.wire.specs.Kinds as Kinds
use Rattle.wire.specs.Refusals.{number_of, refusal_of}
use Rattle.wire.specs.declared.input.Kind.{Kind}
use Rattle.wire.specs.declared.refusal.Refusal.{Refusal}

-- all of a list are bytes
unfoldable pub Bytes : List ℕ → Type 0
Bytes [] = Unit {0}
Bytes (b ∷ bs) = (b < 256) × Bytes bs

-- a message whose parts fit the places that they have in its bytes, and which is in range
abbrev pub MessageFits : Message → Type 0
MessageFits (reply r) =
    (length r.reading.nonce ≡ 32) × (r.reading.midpoint < 2 ^ 64) × (r.reading.radius < 2 ^ 32) × (length r.signature ≡ 64)
MessageFits (settings s) =
    (in_range s.servers s.faulty s.drift ≡ true) × (length s.keys ≡ 32 * s.servers)
MessageFits (count c) = c < 2 ^ 64
MessageFits (ask h) = Unit {0}
MessageFits mark = Unit {0}
MessageFits (event c) = c < 2 ^ 64

-- what is written is read back as itself
abbrev pub MessagesReadBack : Type 0
MessagesReadBack = (m : Message) → MessageFits m → decode (bytes_of m) ≡ Ok m

-- what is read is written as the bytes that it was read from: there are no others that are read as it
abbrev pub MessagesWrittenBack : Type 0
MessagesWrittenBack = (bs : List ℕ) (m : Message) → Bytes bs → decode bs ≡ Ok m → bytes_of m ≡ bs

-- two that differ have different bytes
abbrev pub MessagesDiffer : Type 0
MessagesDiffer = (m n : Message) → MessageFits m → MessageFits n → bytes_of m ≡ bytes_of n → m ≡ n

-- a kind's number is of that kind and of no other
abbrev pub KindsByNumber : Type 0
KindsByNumber = (k : Kind) (n : ℕ) → kind_of n ≡ Some k ↔ n ≡ Kinds.number_of k

-- a refusal's number is of that refusal and of no other
abbrev pub RefusalsByNumber : Type 0
RefusalsByNumber = (e : Refusal) (n : ℕ) → refusal_of n ≡ Some e ↔ n ≡ number_of e

-- these together
pub record MessageLaws : Type 0 where
  pub kinds : KindsByNumber
  pub refusals : RefusalsByNumber
  pub back : MessagesReadBack
  pub again : MessagesWrittenBack
  pub differ : MessagesDiffer

-- go on with what was read, or stay with the first fault
abbrev pub and_then : {X Y : Type 0} → Result X Refusal → (X → Result Y Refusal) → Result Y Refusal
and_then (Ok x) f = f x
and_then (Err e) f = Err e
