-- What is written is read back: runs and lines of the record.
use Rattle.std.proofs.Common.{◌≡◌, ℕ, ◌+◌, ◌*◌, ◌/◌, ◌^◌, ◌<◌, Bool, true, false, List, [], ◌∷◌, ◌++◌, length, take, drop, Ok, Result, sym, refl, ap, ◌∙◌, arith}
use Rattle.std.specs.List.{flat_map}
use Rattle.std.proofs.lemmas.List.{append-nil, drop_at, drop-drop, length-append, take_at}
use Rattle.lines.specs.Laws.{EntryFits, EntriesReadBack, EntriesDiffer, RunsFit}
use Rattle.lines.specs.Lines.{Entry, Reckoning, request, heard, reckoned, marked, said, asked, refused, hand, bit, entry_from, hand_by, refused_by, run_bytes, runs_from, runs_of}
use Rattle.lines.specs.Lines as Lines
use Rattle.wire.specs.Refusals.{number_of, refusal_of}
use Rattle.lines.specs.declared.line.Request.{Request}
use Rattle.lines.specs.declared.line.Heard.{Heard}
use Rattle.choice.specs.declared.runs.Run.{Run}
use Rattle.lines.specs.declared.line.Said.{Said}
use Rattle.wire.specs.declared.refusal.Refusal.{Refusal}
use Rattle.wire.specs.declared.refusal.Refusal.TheVariants.{Malformed, OutOfRange, UnknownNonce, WrongSignature, TooLate, UnknownEvent, NoWorldLeft, ClockWentBack, OldestMomentGone, Full}
use Rattle.lines.proofs.Runs.{length_runs}
use Rattle.wire.proofs.Back.{back2, back8, same_length}
use Rattle.wire.specs.Numbers.{be2, be8, number2, number8}

-- runs
runs_back : (rs : List Run) → RunsFit rs → runs_from (length rs) (flat_map run_bytes rs) ≡ rs
unfolding runs_from RunsFit
runs_back [] h = refl
runs_back (r ∷ rs) (f, t, h) =
    ap (λ n. record { lo = n; hi = number8 (be8 r.hi ++ flat_map run_bytes rs) } ∷ runs_from (length rs) (flat_map run_bytes rs)) (back8 r.lo (be8 r.hi ++ flat_map run_bytes rs) f)
    ∙ ap (λ n. record { lo = r.lo; hi = n } ∷ runs_from (length rs) (flat_map run_bytes rs)) (back8 r.hi (flat_map run_bytes rs) t)
    ∙ ap (λ l. r ∷ l) (runs_back rs h)

pub runs_of_back : (rs : List Run) → RunsFit rs → runs_of (flat_map run_bytes rs) ≡ rs
runs_of_back rs h =
    let long = length_runs rs in
    let many : length (flat_map run_bytes rs) / 16 ≡ length rs = omega arith in
    ap (λ n. runs_from n (flat_map run_bytes rs)) many ∙ runs_back rs h

reckoned_same : (c c' : ℕ) (rs rs' : List Run) (d d' : ℕ) → c ≡ c' → rs ≡ rs' → d ≡ d'
    → ◌≡◌ {A = Result Entry Refusal} (Ok (reckoned (record { count = c; runs = rs; named = d }))) (Ok (reckoned (record { count = c'; runs = rs'; named = d' })))
reckoned_same c c' rs rs' d d' p q r = cc

reckoned_back : (r : Reckoning) → EntryFits (reckoned r) → entry_from (Lines.bytes_of (reckoned r)) ≡ Ok (reckoned r)
reckoned_back r (c, few, fit, d) =
    let runs = flat_map run_bytes r.runs in
    let n = length r.runs in
    let bs = be8 r.count ++ n ∷ (runs ++ be2 r.named) in
    let long = length_runs r.runs in
    let e1 = length-append runs (be2 r.named) in
    let count_is = back8 r.count (n ∷ (runs ++ be2 r.named)) c in
    let runs_is : runs_of (take (16 * n) (drop 9 bs)) ≡ r.runs = ap runs_of (take_at runs (be2 r.named) (16 * n) long) ∙ runs_of_back r.runs fit in
    let named_is : number2 (drop (9 + 16 * n) bs) ≡ r.named
    = ap number2 (sym (drop-drop (16 * n) 9 bs) ∙ drop_at runs (be2 r.named) (16 * n) long ∙ sym (append-nil (be2 r.named))) ∙ back2 r.named [] d in
    same_length bs (11 + 16 * n) _ _ (omega arith) ∙ reckoned_same _ r.count _ r.runs _ r.named count_is runs_is named_is

heard_same : (c c' a a' s l l' g g' : ℕ) → c ≡ c' → a ≡ a' → l ≡ l' → g ≡ g'
    → ◌≡◌ {A = Result Entry Refusal} (Ok (heard (record { count = c; asked = a; server = s; least = l; greatest = g }))) (Ok (heard (record { count = c'; asked = a'; server = s; least = l'; greatest = g' })))
heard_same c c' a a' s l l' g g' p q r t = cc

heard_back : (h : Heard) → EntryFits (heard h) → entry_from (Lines.bytes_of (heard h)) ≡ Ok (heard h)
heard_back h (c, a, s, l, g) =
    heard_same _ h.count _ h.asked h.server _ h.least _ h.greatest
    (back8 h.count (be8 h.asked ++ h.server ∷ (be8 h.least ++ be8 h.greatest)) c)
    (back8 h.asked (h.server ∷ (be8 h.least ++ be8 h.greatest)) a)
    (back8 h.least (be8 h.greatest) l)
    (back8 h.greatest [] g)

said_same : (c c' l l' g g' : ℕ) → c ≡ c' → l ≡ l' → g ≡ g'
    → ◌≡◌ {A = Result Entry Refusal} (Ok (said (record { count = c; least = l; greatest = g }))) (Ok (said (record { count = c'; least = l'; greatest = g' })))
said_same c c' l l' g g' p q r = cc

said_back : (s : Said) → EntryFits (said s) → entry_from (Lines.bytes_of (said s)) ≡ Ok (said s)
said_back s (c, l, g) =
    said_same _ s.count _ s.least _ s.greatest
    (back8 s.count (be8 s.least ++ be8 s.greatest) c)
    (back8 s.least (be8 s.greatest) l)
    (back8 s.greatest [] g)

request_back : (r : Request) → EntryFits (request r) → entry_from (Lines.bytes_of (request r)) ≡ Ok (request r)
request_back r (s, long, b) = same_length (r.server ∷ r.nonce) 33 _ _ (omega arith)

refused_back : (e : Refusal) → refused_by (refusal_of (number_of e)) ≡ Ok (refused e)
refused_back Malformed = refl
refused_back OutOfRange = refl
refused_back UnknownNonce = refl
refused_back WrongSignature = refl
refused_back TooLate = refl
refused_back UnknownEvent = refl
refused_back NoWorldLeft = refl
refused_back ClockWentBack = refl
refused_back OldestMomentGone = refl
refused_back Full = refl

hand_back : (time : ℕ) (sound : Bool) → time < 2 ^ 64 → hand_by (number8 (be8 time ++ bit sound ∷ [])) (bit sound) ≡ Ok (hand (record { time = time; sound = sound }))
hand_back time true h = ap (λ n. Ok (hand (record { time = n; sound = true }))) (back8 time (1 ∷ []) h)
hand_back time false h = ap (λ n. Ok (hand (record { time = n; sound = false }))) (back8 time (0 ∷ []) h)

pub entries_back : EntriesReadBack
entries_back (request r) h = request_back r h
entries_back (heard x) h = heard_back x h
entries_back (reckoned r) h = reckoned_back r h
entries_back (marked c) h = ap (λ n. Ok (marked n)) (back8 c [] h)
entries_back (said s) h = said_back s h
entries_back (asked a) h = ap (λ n. Ok (asked (record { count = n; server = a.server }))) (back8 a.count (a.server ∷ []) h.0)
entries_back (refused e) h = refused_back e
entries_back (hand x) h = hand_back x.time x.sound h

pub entries_differ : EntriesDiffer
entries_differ d e f g same = let p = entries_back d f in let q = entries_back e g in let r = ap entry_from same in cc
