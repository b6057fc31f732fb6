-- What is written is read back: numbers and messages to the box.
use Rattle.std.proofs.Common.{◌≡◌, ℕ, ◌+◌, ◌*◌, ◌/◌, ◌%◌, ◌^◌, ◌<◌, true, cond, eqb, List, [], ◌∷◌, ◌++◌, length, take, drop, Ok, Err, Result, sym, refl, ap, ◌∙◌, arith}
use native.Mathlib.Nat.{div-div-eq-div-mul}
use Rattle.std.proofs.lemmas.List.{drop_at, drop-drop, length-append, take_at}
use Rattle.std.proofs.lemmas.Bool.{eq-eqb}
use Rattle.std.proofs.lemmas.Bool.Decides.{nat_tests}
use Rattle.wire.specs.Inputs.{Message, Setup, reply, settings, count, ask, mark, event, decode, in_range}
use Rattle.wire.specs.Inputs as Inputs
use Rattle.wire.specs.Laws.{MessageFits, MessagesReadBack, MessagesDiffer}
use Rattle.wire.specs.declared.input.Reply.{Reply}
use Rattle.wire.specs.declared.refusal.Refusal.{Refusal}
use Rattle.wire.specs.declared.refusal.Refusal.TheVariants.{OutOfRange}
use Rattle.wire.specs.Numbers.{be2, be4, be8, number2, number4, number8}

pub back2 : (n : ℕ) (rest : List ℕ) → n < 2 ^ 16 → number2 (be2 n ++ rest) ≡ n
unfolding number2
back2 n rest h = omega arith

back4 : (n : ℕ) (rest : List ℕ) → n < 2 ^ 32 → number4 (be4 n ++ rest) ≡ n
unfolding number4
back4 n rest h =
    let p = div-div-eq-div-mul n 256 256 in
    let q = div-div-eq-div-mul n 65536 256 in
    let small : n / 16777216 < 256 = omega arith in
    let top : n / 16777216 % 256 ≡ n / 16777216 = omega arith in
    omega arith

pub back8 : (n : ℕ) (rest : List ℕ) → n < 2 ^ 64 → number8 (be8 n ++ rest) ≡ n
unfolding number8
back8 n rest h =
    let p1 = div-div-eq-div-mul n 256 256 in
    let p2 = div-div-eq-div-mul n 65536 256 in
    let p3 = div-div-eq-div-mul n 16777216 256 in
    let p4 = div-div-eq-div-mul n 4294967296 256 in
    let p5 = div-div-eq-div-mul n 1099511627776 256 in
    let p6 = div-div-eq-div-mul n 281474976710656 256 in
    omega arith

-- a list of one length is not of another
pub same_length : (bs : List ℕ) (n : ℕ) {X : Type 0} (x y : X) → length bs ≡ n → cond (eqb (length bs) n) x y ≡ x
same_length bs n x y h = ap (λ b. cond b x y) (eq-eqb (length bs) n h)

reply_same : (s : ℕ) (n n' : List ℕ) (m m' d d' : ℕ) (g g' : List ℕ) → n ≡ n' → m ≡ m' → d ≡ d' → g ≡ g'
    → ◌≡◌ {A = Result Message Refusal} (Ok (reply (record { reading = record { server = s; nonce = n; midpoint = m; radius = d }; signature = g }))) (Ok (reply (record { reading = record { server = s; nonce = n'; midpoint = m'; radius = d' }; signature = g' })))
reply_same s n n' m m' d d' g g' p q r t = cc

reply_back : (r : Reply) → MessageFits (reply r) → decode (Inputs.bytes_of (reply r)) ≡ Ok (reply r)
reply_back r (nonce_long, mid, rad, sig_long) =
    let tail = be8 r.reading.midpoint ++ (be4 r.reading.radius ++ r.signature) in
    let bs = r.reading.server ∷ (r.reading.nonce ++ tail) in
    let e1 = length-append r.reading.nonce tail in
    let all : length bs ≡ 109 = omega arith in
    let nonce_is : take 32 (drop 1 bs) ≡ r.reading.nonce = take_at r.reading.nonce tail 32 nonce_long in
    let at33 : drop 33 bs ≡ tail = drop_at r.reading.nonce tail 32 nonce_long in
    let mid_is : number8 (drop 33 bs) ≡ r.reading.midpoint = ap number8 at33 ∙ back8 r.reading.midpoint (be4 r.reading.radius ++ r.signature) mid in
    let at41 : drop 41 bs ≡ be4 r.reading.radius ++ r.signature = sym (drop-drop 8 33 bs) ∙ ap (drop 8) at33 in
    let rad_is : number4 (drop 41 bs) ≡ r.reading.radius = ap number4 at41 ∙ back4 r.reading.radius r.signature rad in
    let sig_is : drop 45 bs ≡ r.signature = sym (drop-drop 4 41 bs) ∙ ap (drop 4) at41 in
    same_length bs 109 _ _ all ∙ reply_same r.reading.server _ r.reading.nonce _ r.reading.midpoint _ r.reading.radius _ r.signature nonce_is mid_is rad_is sig_is

settings_back : (s : Setup) → MessageFits (settings s) → decode (Inputs.bytes_of (settings s)) ≡ Ok (settings s)
settings_back s (good, long) =
    let bs = s.servers ∷ s.faulty ∷ (be4 s.drift ++ s.keys) in
    let small : s.drift < 2 ^ 32 = grind (arith, nat_tests) in
    let drift_is : number4 (drop 2 bs) ≡ s.drift = back4 s.drift s.keys small in
    let fits : in_range s.servers s.faulty (number4 (drop 2 bs)) ≡ true = ap (in_range s.servers s.faulty) drift_is ∙ good in
    same_length bs (6 + 32 * s.servers) _ _ (omega arith)
    ∙ ap (λ b. cond b (Ok (settings (record { servers = s.servers; faulty = s.faulty; drift = number4 (drop 2 bs); keys = s.keys }))) (Err OutOfRange)) fits
    ∙ ap (λ d. Ok (settings (record { servers = s.servers; faulty = s.faulty; drift = d; keys = s.keys }))) drift_is

pub messages_back : MessagesReadBack
messages_back (reply r) h = reply_back r h
messages_back (settings s) h = settings_back s h
messages_back (count c) h = ap (λ n. Ok (count n)) (back8 c [] h)
messages_back (ask h) p = refl
messages_back mark p = refl
messages_back (event c) h = ap (λ n. Ok (event n)) (back8 c [] h)

pub messages_differ : MessagesDiffer
messages_differ m n f g e = let p = messages_back m f in let q = messages_back n g in let r = ap decode e in cc
