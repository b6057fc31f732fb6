-- A reply, read part by part.
use Rattle.std.proofs.Common.{◌≡◌, ℕ, List, length, get_or, take, drop, Ok, Result, ap, ◌∙◌, arith}
use Rattle.std.proofs.lemmas.List.{take_all}
use Rattle.wire.specs.Numbers.{number4, number8}
use Rattle.wire.specs.Inputs.{Message, reply, reply_of}
use Rattle.wire.specs.declared.refusal.Refusal.{Refusal}
use Rattle.wire.proofs.Parts.{Left, left_then}

pub reply_read : (bs r1 r2 r3 r4 nonce signature : List ℕ) (midpoint radius : ℕ) → Left 1 bs r1
    → nonce ≡ take 32 r1 → Left 32 r1 r2 → midpoint ≡ number8 r2 → Left 8 r2 r3 → radius ≡ number4 r3 → Left 4 r3 r4
    → signature ≡ take 64 r4 → length r4 ≡ 64
    → ◌≡◌ {A = Result Message Refusal} (Ok (reply (record { reading = record { server = get_or bs 0 0; nonce = nonce; midpoint = midpoint; radius = radius }; signature = signature }))) (reply_of bs)
reply_read bs r1 r2 r3 r4 nonce signature midpoint radius p1 n p2 m p3 d p4 s l =
    let at2 = left_then 1 32 bs r1 r2 p1 p2 in
    let at3 = left_then 33 8 bs r2 r3 at2 p3 in
    let at4 = left_then 41 4 bs r3 r4 at3 p4 in
    let all : length bs ≡ 109 = omega arith in
    let nonce_is : nonce ≡ take 32 (drop 1 bs) = n ∙ ap (take 32) p1.0 in
    let midpoint_is : midpoint ≡ number8 (drop 33 bs) = m ∙ ap number8 at2.0 in
    let radius_is : radius ≡ number4 (drop 41 bs) = d ∙ ap number4 at3.0 in
    let signature_is : signature ≡ drop 45 bs = s ∙ take_all 64 r4 (omega arith) ∙ at4.0 in
    rw all (cc)
