-- What holds of all lines of the record: what is written is read back as itself, what is read is written as it was, and
-- two that differ have different bytes; and a record is read back line by line.
-- A struct of the code is a bare record here, so that its numbers fit their width is said.
use Rattle.std.specs.Prelude.{◌≡◌, ◌↔◌, ℕ, ◌^◌, ◌<◌, ◌≤◌, List, [], ◌∷◌, map, length, Some, Ok, Result}
use Rattle.std.specs.List.{flat_map}
use Rattle.hextext.specs.Hex.{line_of, lines_of, text_of}
use Rattle.wire.specs.Laws.{and_then, Bytes}
use Rattle.wire.specs.declared.refusal.Refusal.{Refusal}
use Rattle.lines.specs.Lines.{Entry, request, heard, reckoned, marked, said, asked, refused, hand, bytes_of, entry_from}
use Rattle.lines.specs.Kinds.{kind_of, number_of}
use Rattle.lines.specs.declared.line.Kind.{Kind}
use Rattle.choice.specs.declared.runs.Run.{Run}

unfoldable pub RunsFit : List Run → Type 0
RunsFit [] = Unit {0}
RunsFit (r ∷ rs) = (r.lo < 2 ^ 64) × (r.hi < 2 ^ 64) × RunsFit rs

-- a line whose parts fit the places that they have in its bytes
abbrev pub EntryFits : Entry → Type 0
EntryFits (request r) = (r.server < 256) × (length r.nonce ≡ 32) × Bytes r.nonce
EntryFits (heard h) =
    (h.count < 2 ^ 64) × (h.asked < 2 ^ 64) × (h.server < 256) × (h.least < 2 ^ 64) × (h.greatest < 2 ^ 64)
EntryFits (reckoned r) =
    (r.count < 2 ^ 64) × (length r.runs ≤ 255) × RunsFit r.runs × (r.named < 2 ^ 16)
EntryFits (marked c) = c < 2 ^ 64
EntryFits (said s) = (s.count < 2 ^ 64) × (s.least < 2 ^ 64) × (s.greatest < 2 ^ 64)
EntryFits (asked a) = (a.count < 2 ^ 64) × (a.server < 256)
EntryFits (refused e) = Unit {0}
EntryFits (hand h) = h.time < 2 ^ 64

unfoldable pub EntriesFit : List Entry → Type 0
EntriesFit [] = Unit {0}
EntriesFit (e ∷ es) = EntryFits e × EntriesFit es

-- what is written is read back as itself
abbrev pub EntriesReadBack : Type 0
EntriesReadBack = (e : Entry) → EntryFits e → entry_from (bytes_of e) ≡ Ok e

-- what is read is written as the bytes that it was read from: there are no others that are read as it
abbrev pub EntriesWrittenBack : Type 0
EntriesWrittenBack = (bs : List ℕ) (e : Entry) → Bytes bs → entry_from bs ≡ Ok e → bytes_of e ≡ bs

-- two that differ have different bytes
abbrev pub EntriesDiffer : Type 0
EntriesDiffer = (d e : Entry) → EntryFits d → EntryFits e → bytes_of d ≡ bytes_of e → d ≡ e

-- a kind's number is of that kind and of no other
abbrev pub KindsByNumber : Type 0
KindsByNumber = (k : Kind) (n : ℕ) → kind_of n ≡ Some k ↔ n ≡ number_of k

-- these together
pub record EntryLaws : Type 0 where
  pub kinds : KindsByNumber
  pub back : EntriesReadBack
  pub again : EntriesWrittenBack
  pub differ : EntriesDiffer

-- the line that a line of text is
abbrev pub entry_at : ℕ → List ℕ → Result Entry Refusal
entry_at room text = and_then (line_of room text) entry_from

-- a record: its lines as text, one after another
abbrev pub line_text : Entry → List ℕ
line_text e = text_of (bytes_of e)

abbrev pub record_text : List Entry → List ℕ
record_text es = flat_map line_text es

-- a record is read back line by line: no line is longer than 12 bytes and 255 runs of 16
abbrev pub RecordReadBack : Type 0
RecordReadBack = (room : ℕ) (es : List Entry) → 4092 ≤ room → EntriesFit es
    → map (entry_at room) (lines_of (record_text es)) ≡ map (λ e. Ok e) es
