-- A record that is written line by line is read back line by line.
use Rattle.std.proofs.Common.{◌≡◌, ℕ, ◌<◌, ◌≤◌, Bool, true, false, List, [], ◌∷◌, ◌++◌, map, length, Ok, refl, ap, ◌∙◌, arith}
use Rattle.std.specs.List.{flat_map}
use Rattle.std.proofs.lemmas.List.{append_assoc, length-append}
use Rattle.hextext.specs.Hex.{hex_of, lines_of}
use Rattle.wire.specs.Laws.{and_then, Bytes}
use Rattle.lines.specs.Laws.{entry_at, EntryFits, EntriesFit, record_text, RecordReadBack}
use Rattle.lines.specs.Lines.{Entry, request, heard, reckoned, marked, said, asked, refused, hand, bit, bytes_of, entry_from, run_bytes}
use Rattle.wire.specs.Numbers.{be2, be8}
use Rattle.wire.specs.Refusals.{number_of}
use Rattle.choice.specs.declared.runs.Run.{Run}
use Rattle.wire.specs.declared.refusal.Refusal.{Refusal}
use Rattle.wire.specs.declared.refusal.Refusal.TheVariants.{Malformed, OutOfRange, UnknownNonce, WrongSignature, TooLate, UnknownEvent, NoWorldLeft, ClockWentBack, OldestMomentGone, Full}
use Rattle.hextext.proofs.Cases.{line_cut, text_back}
use Rattle.lines.proofs.Back.{entries_back}
use Rattle.lines.proofs.Runs.{length_runs}

-- every line is made of bytes, at least one and at most 4092
bytes_append : (xs ys : List ℕ) → Bytes xs → Bytes ys → Bytes (xs ++ ys)
unfolding Bytes
bytes_append [] ys p q = q
bytes_append (x ∷ xs) ys (h, p) q = (h, bytes_append xs ys p q)

be8_bytes : (n : ℕ) → Bytes (be8 n)
unfolding Bytes
be8_bytes n = (omega arith, (omega arith, (omega arith, (omega arith, (omega arith, (omega arith, (omega arith, (omega arith, tt))))))))

be2_bytes : (n : ℕ) → Bytes (be2 n)
unfolding Bytes
be2_bytes n = (omega arith, (omega arith, tt))

runs_bytes : (rs : List Run) → Bytes (flat_map run_bytes rs)
unfolding Bytes
runs_bytes [] = tt
runs_bytes (r ∷ rs) = bytes_append (run_bytes r) (flat_map run_bytes rs) (bytes_append (be8 r.lo) (be8 r.hi) (be8_bytes r.lo) (be8_bytes r.hi)) (runs_bytes rs)

refusal_byte : (e : Refusal) → number_of e < 256
refusal_byte Malformed = omega arith
refusal_byte OutOfRange = omega arith
refusal_byte UnknownNonce = omega arith
refusal_byte WrongSignature = omega arith
refusal_byte TooLate = omega arith
refusal_byte UnknownEvent = omega arith
refusal_byte NoWorldLeft = omega arith
refusal_byte ClockWentBack = omega arith
refusal_byte OldestMomentGone = omega arith
refusal_byte Full = omega arith

bit_byte : (b : Bool) → bit b < 256
bit_byte true = omega arith
bit_byte false = omega arith

entry_bytes : (e : Entry) → EntryFits e → Bytes (bytes_of e)
unfolding Bytes
entry_bytes (request r) (s, l, b) = (omega arith, (s, b))
entry_bytes (heard h) (c, a, s, l, g) = (
  omega arith,
  bytes_append (be8 h.count) (be8 h.asked ++ h.server ∷ (be8 h.least ++ be8 h.greatest)) (be8_bytes h.count)
      (bytes_append (be8 h.asked) (h.server ∷ (be8 h.least ++ be8 h.greatest)) (be8_bytes h.asked)
      (s, bytes_append (be8 h.least) (be8 h.greatest) (be8_bytes h.least) (be8_bytes h.greatest))),
)
entry_bytes (reckoned r) (c, few, fit, d) = (
  omega arith,
  bytes_append (be8 r.count) (length r.runs ∷ (flat_map run_bytes r.runs ++ be2 r.named)) (be8_bytes r.count) (omega arith, bytes_append (flat_map run_bytes r.runs) (be2 r.named) (runs_bytes r.runs) (be2_bytes r.named)),
)
entry_bytes (marked c) h = (omega arith, be8_bytes c)
entry_bytes (said s) h = (
  omega arith,
  bytes_append (be8 s.count) (be8 s.least ++ be8 s.greatest) (be8_bytes s.count) (bytes_append (be8 s.least) (be8 s.greatest) (be8_bytes s.least) (be8_bytes s.greatest)),
)
entry_bytes (asked a) (c, s) = (omega arith, bytes_append (be8 a.count) (a.server ∷ []) (be8_bytes a.count) (s, tt))
entry_bytes (refused e) h = (omega arith, (refusal_byte e, tt))
entry_bytes (hand x) h = (omega arith, bytes_append (be8 x.time) (bit x.sound ∷ []) (be8_bytes x.time) (bit_byte x.sound, tt))

entry_long : (e : Entry) → EntryFits e → (1 ≤ length (bytes_of e)) × (length (bytes_of e) ≤ 4092)
entry_long (request r) (s, l, b) = (omega arith, omega arith)
entry_long (heard h) f = (omega arith, omega arith)
entry_long (reckoned r) (c, few, fit, d) =
    let long = length_runs r.runs in
    let all = length-append (flat_map run_bytes r.runs) (be2 r.named) in
    (omega arith, omega arith)
entry_long (marked c) f = (omega arith, omega arith)
entry_long (said s) f = (omega arith, omega arith)
entry_long (asked a) f = (omega arith, omega arith)
entry_long (refused e) f = (omega arith, omega arith)
entry_long (hand x) f = (omega arith, omega arith)

entry_read_back : (room : ℕ) (e : Entry) → 4092 ≤ room → EntryFits e → entry_at room (hex_of (bytes_of e)) ≡ Ok e
entry_read_back room e fits f =
    let long = entry_long e f in
    ap (λ r. and_then r entry_from) (text_back room (bytes_of e) (entry_bytes e f) long.0 (omega arith)) ∙ entries_back e f

pub record_back : RecordReadBack
unfolding EntriesFit lines_of
record_back room [] fits f = refl
record_back room (e ∷ es) fits (here, more) =
    ap (λ t. map (entry_at room) (lines_of t)) (append_assoc (hex_of (bytes_of e)) (10 ∷ []) (record_text es))
    ∙ ap (map (entry_at room)) (line_cut (bytes_of e) (record_text es))
    ∙ ap (λ r. r ∷ map (entry_at room) (lines_of (record_text es))) (entry_read_back room e fits here)
    ∙ ap (λ l. Ok e ∷ l) (record_back room es fits more)
