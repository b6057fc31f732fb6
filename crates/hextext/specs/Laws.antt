-- What holds of lines of text: they are read back, in lower case, as they are written, and in any other.
use Rattle.std.specs.Prelude.{◌≡◌, ℕ, ◌+◌, ◌≤◌, cond, ◌&&◌, List, map, length, Ok, Result, nat_le}
use Rattle.wire.specs.Inputs.{Message, decode}
use Rattle.wire.specs.Laws.{and_then, Bytes}
use Rattle.wire.specs.declared.refusal.Refusal.{Refusal}
use Rattle.hextext.specs.Hex.{hex_of, line_of}

-- a capital letter as a small one
abbrev pub lowered : ℕ → ℕ
lowered c = cond (nat_le 65 c && nat_le c 90) (c + 32) c

-- a line is read back where there is room, in lower case, as it is written, and in any other
abbrev pub TextReadBack : Type 0
TextReadBack = (room : ℕ) (bs : List ℕ) → Bytes bs → 1 ≤ length bs → length bs ≤ room → line_of room (hex_of bs) ≡ Ok bs

abbrev pub TextInEitherCase : Type 0
TextInEitherCase = (room : ℕ) (bs text : List ℕ) → Bytes bs → 1 ≤ length bs → length bs ≤ room
    → map lowered text ≡ hex_of bs → line_of room text ≡ Ok bs

pub record TextLaws : Type 0 where
  pub back : TextReadBack
  pub either : TextInEitherCase

-- the message that a line of text is
abbrev pub message_at : ℕ → List ℕ → Result Message Refusal
message_at room text = and_then (line_of room text) decode
