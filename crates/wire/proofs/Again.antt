-- What is read is written again as the bytes that it was read from: no two strings of bytes are one message.
use Rattle.std.proofs.Common.{◌≡◌, ℕ, zero, suc, ◌+◌, ◌*◌, ◌/◌, ◌%◌, ◌<◌, ◌≤◌, Bool, true, false, cond, eqb, ◌⊎◌, List, [], ◌∷◌, ◌++◌, length, get_or, take, drop, Some, None, Option, Ok, Err, Result, sym, refl, ap, ◌∙◌, inl, inr, ⊎_elim, arith}
use Rattle.std.proofs.lemmas.List.{append-nil, drop_all, drop-drop, drop_more, length-drop, take-append-drop, nil_from_length}
use Rattle.std.proofs.lemmas.Bool.{eqb-true}
use Rattle.std.proofs.lemmas.Bool.Decides.{nat_tests}
use Rattle.wire.specs.Inputs.{Message, reply_of, setup_of, count_of, ask_of, mark_of, event_of, body_by, in_range}
use Rattle.wire.specs.Inputs as Inputs
use Rattle.wire.specs.Kinds.{kind_of}
use Rattle.wire.specs.Kinds as Kinds
use Rattle.wire.specs.Refusals.{number_of, refusal_of}
use Rattle.wire.specs.Laws.{Bytes, KindsByNumber, MessageLaws, MessagesWrittenBack, RefusalsByNumber}
use Rattle.wire.specs.declared.input.Kind.{Kind}
use Rattle.wire.specs.Numbers.{be2, be4, be8, number2, number4, number8}
use Rattle.wire.specs.declared.refusal.Refusal.{Refusal}
use Rattle.wire.specs.declared.refusal.Refusal.TheVariants.{Malformed, OutOfRange, UnknownNonce, WrongSignature, TooLate, UnknownEvent, NoWorldLeft, ClockWentBack, OldestMomentGone, Full}
use Rattle.wire.proofs.Back.{messages_back, messages_differ}

-- the bytes of the number that bytes are
pub two_again : (bs : List ℕ) → Bytes bs → 2 ≤ length bs → be2 (number2 bs) ++ drop 2 bs ≡ bs
unfolding Bytes number2
two_again [] h l = absurd (omega arith)
two_again (a ∷ []) h l = absurd (omega arith)
two_again (a ∷ (b ∷ bs)) (p, (q, h)) l =
    let n = a * 256 + b in
    let e1 : n / 256 % 256 ≡ a = omega arith in
    let e2 : n % 256 ≡ b = omega arith in
    ap (λ x. x ∷ (n % 256 ∷ bs)) e1 ∙ ap (λ x. a ∷ (x ∷ bs)) e2

four_digits : (a b c d : ℕ) → a < 256 → b < 256 → c < 256 → d < 256 → be4 (a * 16777216 + b * 65536 + c * 256 + d) ≡ a ∷ b ∷ c ∷ d ∷ []
four_digits a b c d p q r s =
    let n = a * 16777216 + b * 65536 + c * 256 + d in
    let e1 : n / 16777216 ≡ a = omega arith in
    let e2 : n / 65536 ≡ a * 256 + b = omega arith in
    let e3 : n / 256 ≡ a * 65536 + b * 256 + c = omega arith in
    let f1 : n / 16777216 % 256 ≡ a = omega arith in
    let f2 : n / 65536 % 256 ≡ b = omega arith in
    let f3 : n / 256 % 256 ≡ c = omega arith in
    let f4 : n % 256 ≡ d = omega arith in
    ap (λ x. x ∷ (n / 65536 % 256) ∷ (n / 256 % 256) ∷ (n % 256) ∷ []) f1
    ∙ ap (λ x. a ∷ x ∷ (n / 256 % 256) ∷ (n % 256) ∷ []) f2
    ∙ ap (λ x. a ∷ b ∷ x ∷ (n % 256) ∷ []) f3
    ∙ ap (λ x. a ∷ b ∷ c ∷ x ∷ []) f4

four_again : (bs : List ℕ) → Bytes bs → 4 ≤ length bs → be4 (number4 bs) ++ drop 4 bs ≡ bs
unfolding Bytes number4
four_again [] h l = absurd (omega arith)
four_again (a ∷ []) h l = absurd (omega arith)
four_again (a ∷ (b ∷ [])) h l = absurd (omega arith)
four_again (a ∷ (b ∷ (c ∷ []))) h l = absurd (omega arith)
four_again (a ∷ (b ∷ (c ∷ (d ∷ bs)))) (p, (q, (r, (s, h)))) l = ap (λ x. x ++ bs) (four_digits a b c d p q r s)

eight_digits : (a b c d e f g h : ℕ) → a < 256 → b < 256 → c < 256 → d < 256 → e < 256 → f < 256 → g < 256 → h < 256 → be8 (a * 72057594037927936 + b * 281474976710656 + c * 1099511627776 + d * 4294967296 + e * 16777216 + f * 65536 + g * 256 + h) ≡ a ∷ b ∷ c ∷ d ∷ e ∷ f ∷ g ∷ h ∷ []
eight_digits a b c d e f g h pa pb pc pd pe pf pg ph =
    let n = a * 72057594037927936 + b * 281474976710656 + c * 1099511627776 + d * 4294967296 + e * 16777216 + f * 65536 + g * 256 + h in
    let e0 : n / 72057594037927936 ≡ a = omega arith in
    let e1 : n / 281474976710656 ≡ a * 256 + b = omega arith in
    let e2 : n / 1099511627776 ≡ a * 65536 + b * 256 + c = omega arith in
    let e3 : n / 4294967296 ≡ a * 16777216 + b * 65536 + c * 256 + d = omega arith in
    let e4 : n / 16777216 ≡ a * 4294967296 + b * 16777216 + c * 65536 + d * 256 + e = omega arith in
    let e5 : n / 65536 ≡ a * 1099511627776 + b * 4294967296 + c * 16777216 + d * 65536 + e * 256 + f = omega arith in
    let e6 : n / 256 ≡ a * 281474976710656 + b * 1099511627776 + c * 4294967296 + d * 16777216 + e * 65536 + f * 256 + g = omega arith in
    let f0 : n / 72057594037927936 % 256 ≡ a = omega arith in
    let f1 : n / 281474976710656 % 256 ≡ b = omega arith in
    let f2 : n / 1099511627776 % 256 ≡ c = omega arith in
    let f3 : n / 4294967296 % 256 ≡ d = omega arith in
    let f4 : n / 16777216 % 256 ≡ e = omega arith in
    let f5 : n / 65536 % 256 ≡ f = omega arith in
    let f6 : n / 256 % 256 ≡ g = omega arith in
    let f7 : n % 256 ≡ h = omega arith in
    ap (λ x. x ∷ (n / 281474976710656 % 256) ∷ (n / 1099511627776 % 256) ∷ (n / 4294967296 % 256) ∷ (n / 16777216 % 256) ∷ (n / 65536 % 256) ∷ (n / 256 % 256) ∷ (n % 256) ∷ []) f0
    ∙ ap (λ x. a ∷ x ∷ (n / 1099511627776 % 256) ∷ (n / 4294967296 % 256) ∷ (n / 16777216 % 256) ∷ (n / 65536 % 256) ∷ (n / 256 % 256) ∷ (n % 256) ∷ []) f1
    ∙ ap (λ x. a ∷ b ∷ x ∷ (n / 4294967296 % 256) ∷ (n / 16777216 % 256) ∷ (n / 65536 % 256) ∷ (n / 256 % 256) ∷ (n % 256) ∷ []) f2
    ∙ ap (λ x. a ∷ b ∷ c ∷ x ∷ (n / 16777216 % 256) ∷ (n / 65536 % 256) ∷ (n / 256 % 256) ∷ (n % 256) ∷ []) f3
    ∙ ap (λ x. a ∷ b ∷ c ∷ d ∷ x ∷ (n / 65536 % 256) ∷ (n / 256 % 256) ∷ (n % 256) ∷ []) f4
    ∙ ap (λ x. a ∷ b ∷ c ∷ d ∷ e ∷ x ∷ (n / 256 % 256) ∷ (n % 256) ∷ []) f5
    ∙ ap (λ x. a ∷ b ∷ c ∷ d ∷ e ∷ f ∷ x ∷ (n % 256) ∷ []) f6
    ∙ ap (λ x. a ∷ b ∷ c ∷ d ∷ e ∷ f ∷ g ∷ x ∷ []) f7

eight_again : (bs : List ℕ) → Bytes bs → 8 ≤ length bs → be8 (number8 bs) ++ drop 8 bs ≡ bs
unfolding Bytes number8
eight_again [] h l = absurd (omega arith)
eight_again (a ∷ []) h l = absurd (omega arith)
eight_again (a ∷ (b ∷ [])) h l = absurd (omega arith)
eight_again (a ∷ (b ∷ (c ∷ []))) h l = absurd (omega arith)
eight_again (a ∷ (b ∷ (c ∷ (d ∷ [])))) h l = absurd (omega arith)
eight_again (a ∷ (b ∷ (c ∷ (d ∷ (e ∷ []))))) h l = absurd (omega arith)
eight_again (a ∷ (b ∷ (c ∷ (d ∷ (e ∷ (f ∷ [])))))) h l = absurd (omega arith)
eight_again (a ∷ (b ∷ (c ∷ (d ∷ (e ∷ (f ∷ (g ∷ []))))))) h l = absurd (omega arith)
eight_again (a ∷ (b ∷ (c ∷ (d ∷ (e ∷ (f ∷ (g ∷ (h ∷ bs)))))))) (pa, (pb, (pc, (pd, (pe, (pf, (pg, (ph, more)))))))) l = ap (λ x. x ++ bs) (eight_digits a b c d e f g h pa pb pc pd pe pf pg ph)

pub bytes_drop : (n : ℕ) (bs : List ℕ) → Bytes bs → Bytes (drop n bs)
unfolding Bytes
bytes_drop zero bs h = h
bytes_drop (suc n) [] h = h
bytes_drop (suc n) (b ∷ bs) (p, h) = bytes_drop n bs h

pub bytes_take : (n : ℕ) (bs : List ℕ) → Bytes bs → Bytes (take n bs)
unfolding Bytes
bytes_take zero bs h = tt
bytes_take (suc n) [] h = tt
bytes_take (suc n) (b ∷ bs) (p, h) = (p, bytes_take n bs h)

-- a number at a place, and what is left
pub eight_at : (n m : ℕ) (bs : List ℕ) → Bytes bs → n + 8 ≤ length bs → m ≡ n + 8 → be8 (number8 (drop n bs)) ++ drop m bs ≡ drop n bs
eight_at n m bs h l e =
    let long : 8 ≤ length (drop n bs) = simp length-drop (omega arith) in
    ap (λ k. be8 (number8 (drop n bs)) ++ drop k bs) e
    ∙ ap (λ r. be8 (number8 (drop n bs)) ++ r) (sym (drop-drop 8 n bs))
    ∙ eight_again (drop n bs) (bytes_drop n bs h) long

four_at : (n m : ℕ) (bs : List ℕ) → Bytes bs → n + 4 ≤ length bs → m ≡ n + 4 → be4 (number4 (drop n bs)) ++ drop m bs ≡ drop n bs
four_at n m bs h l e =
    let long : 4 ≤ length (drop n bs) = simp length-drop (omega arith) in
    ap (λ k. be4 (number4 (drop n bs)) ++ drop k bs) e
    ∙ ap (λ r. be4 (number4 (drop n bs)) ++ r) (sym (drop-drop 4 n bs))
    ∙ four_again (drop n bs) (bytes_drop n bs h) long

pub byte_at : (n m : ℕ) (bs : List ℕ) → n < length bs → m ≡ n + 1 → get_or bs n 0 ∷ drop m bs ≡ drop n bs
byte_at n m bs l e = ap (λ k. get_or bs n 0 ∷ drop k bs) e ∙ sym (drop_more bs n 0 l)

-- the number that is all that is left
pub eight_last : (n : ℕ) (bs : List ℕ) → Bytes bs → length bs ≡ n + 8 → be8 (number8 (drop n bs)) ≡ drop n bs
eight_last n bs h l =
    sym (append-nil (be8 (number8 (drop n bs))))
    ∙ ap (λ r. be8 (number8 (drop n bs)) ++ r) (sym (drop_all (n + 8) bs (omega arith)))
    ∙ eight_at n (n + 8) bs h (omega arith) refl

pub byte_last : (n : ℕ) (bs : List ℕ) → length bs ≡ n + 1 → get_or bs n 0 ∷ [] ≡ drop n bs
byte_last n bs l = ap (λ r. get_or bs n 0 ∷ r) (sym (drop_all (n + 1) bs (omega arith))) ∙ byte_at n (n + 1) bs (omega arith) refl

-- which branch gave the value
pub pick : {X : Type 0} (t : Bool) (x y : Result X Refusal) (m : X) → cond t x y ≡ Ok m → ((t ≡ true) × (x ≡ Ok m)) ⊎ ((t ≡ false) × (y ≡ Ok m))
pick true x y m h = inl (refl, h)
pick false x y m h = inr (refl, h)

pub no_value : {X : Type 0} {e : Refusal} {m : X} {P : Type 0} → ◌≡◌ {A = Result X Refusal} (Err e) (Ok m) → P
no_value h = let z : ◌≡◌ {A = ℕ} 0 1 = cc in absurd (omega arith)

pub value_of : {X : Type 0} {x m : X} → ◌≡◌ {A = Result X Refusal} (Ok x) (Ok m) → x ≡ m
value_of h = cc

-- where the length is right
pub sized : {X : Type 0} (bs : List ℕ) (n : ℕ) (x y : Result X Refusal) (e : Refusal) (m : X) (P : Type 0) → y ≡ Err e → cond (eqb (length bs) n) x y ≡ Ok m → (length bs ≡ n → x ≡ Ok m → P) → P
sized bs n x y e m P bad h f = ⊎_elim (λ p. f (eqb-true (length bs) n p.0) p.1) (λ p. no_value (sym bad ∙ p.1)) (pick (eqb (length bs) n) x y m h)

-- messages to the box
reply_again : (bs : List ℕ) (m : Message) → Bytes bs → reply_of bs ≡ Ok m → Inputs.bytes_of m ≡ 2 ∷ bs
reply_again bs m b h = sized bs 109 _ _ Malformed m _ refl h (λ l e. ap Inputs.bytes_of (sym (value_of e)) ∙ whole l) where
  whole : length bs ≡ 109
      → 2 ∷ get_or bs 0 0 ∷ (take 32 (drop 1 bs) ++ (be8 (number8 (drop 33 bs)) ++ (be4 (number4 (drop 41 bs)) ++ drop 45 bs))) ≡ 2 ∷ bs
  whole l =
      ap (λ r. 2 ∷ get_or bs 0 0 ∷ (take 32 (drop 1 bs) ++ (be8 (number8 (drop 33 bs)) ++ r))) (four_at 41 45 bs b (omega arith) refl)
      ∙ ap (λ r. 2 ∷ get_or bs 0 0 ∷ (take 32 (drop 1 bs) ++ r)) (eight_at 33 41 bs b (omega arith) refl)
      ∙ ap (λ r. 2 ∷ get_or bs 0 0 ∷ (take 32 (drop 1 bs) ++ r)) (sym (drop-drop 32 1 bs))
      ∙ ap (λ r. 2 ∷ get_or bs 0 0 ∷ r) (take-append-drop 32 (drop 1 bs))
      ∙ ap (λ r. 2 ∷ r) (byte_at 0 1 bs (omega arith) refl)

settings_again : (bs : List ℕ) (m : Message) → Bytes bs → setup_of bs ≡ Ok m → Inputs.bytes_of m ≡ 16 ∷ bs
settings_again bs m b h =
    sized bs (6 + 32 * get_or bs 0 0) _ _ Malformed m _ refl h
    (λ l e. ⊎_elim (λ p. ap Inputs.bytes_of (sym (value_of p.1)) ∙ whole l) (λ p. no_value p.1) (pick (in_range (get_or bs 0 0) (get_or bs 1 0) (number4 (drop 2 bs))) _ _ m e)) where
      whole : length bs ≡ 6 + 32 * get_or bs 0 0 → 16 ∷ get_or bs 0 0 ∷ get_or bs 1 0 ∷ (be4 (number4 (drop 2 bs)) ++ drop 6 bs) ≡ 16 ∷ bs
      whole l =
          ap (λ r. 16 ∷ get_or bs 0 0 ∷ get_or bs 1 0 ∷ r) (four_at 2 6 bs b (omega arith) refl)
          ∙ ap (λ r. 16 ∷ get_or bs 0 0 ∷ r) (byte_at 1 2 bs (omega arith) refl)
          ∙ ap (λ r. 16 ∷ r) (byte_at 0 1 bs (omega arith) refl)

count_again : (bs : List ℕ) (m : Message) → Bytes bs → count_of bs ≡ Ok m → Inputs.bytes_of m ≡ 17 ∷ bs
count_again bs m b h = sized bs 8 _ _ Malformed m _ refl h (λ l e. ap Inputs.bytes_of (sym (value_of e)) ∙ ap (λ r. 17 ∷ r) (eight_last 0 bs b l))

ask_again : (bs : List ℕ) (m : Message) → Bytes bs → ask_of bs ≡ Ok m → Inputs.bytes_of m ≡ 18 ∷ bs
ask_again bs m b h = sized bs 1 _ _ Malformed m _ refl h (λ l e. ap Inputs.bytes_of (sym (value_of e)) ∙ ap (λ r. 18 ∷ r) (byte_last 0 bs l))

mark_again : (bs : List ℕ) (m : Message) → Bytes bs → mark_of bs ≡ Ok m → Inputs.bytes_of m ≡ 19 ∷ bs
mark_again bs m b h = sized bs 0 _ _ Malformed m _ refl h (λ l e. ap Inputs.bytes_of (sym (value_of e)) ∙ ap (λ r. 19 ∷ r) (sym (nil_from_length bs l)))

event_again : (bs : List ℕ) (m : Message) → Bytes bs → event_of bs ≡ Ok m → Inputs.bytes_of m ≡ 20 ∷ bs
event_again bs m b h = sized bs 8 _ _ Malformed m _ refl h (λ l e. ap Inputs.bytes_of (sym (value_of e)) ∙ ap (λ r. 20 ∷ r) (eight_last 0 bs b l))

kind_from : (n : ℕ) (k : Kind) → kind_of n ≡ Some k → n ≡ Kinds.number_of k
kind_from n k is = grind (arith, nat_tests)

kinds : KindsByNumber
kinds Kind.Reply n = (kind_from n Kind.Reply, λ is. ap kind_of is)
kinds Kind.Settings n = (kind_from n Kind.Settings, λ is. ap kind_of is)
kinds Kind.Count n = (kind_from n Kind.Count, λ is. ap kind_of is)
kinds Kind.Ask n = (kind_from n Kind.Ask, λ is. ap kind_of is)
kinds Kind.Mark n = (kind_from n Kind.Mark, λ is. ap kind_of is)
kinds Kind.Event n = (kind_from n Kind.Event, λ is. ap kind_of is)

messages_by : (k : Option Kind) (bs : List ℕ) (n : ℕ) (m : Message) → Bytes bs → kind_of n ≡ k → body_by k bs ≡ Ok m → Inputs.bytes_of m ≡ n ∷ bs
messages_by None bs n m b is h = no_value h
messages_by (Some Kind.Reply) bs n m b is h = reply_again bs m b h ∙ ap (λ x. x ∷ bs) (sym (kind_from n Kind.Reply is))
messages_by (Some Kind.Settings) bs n m b is h = settings_again bs m b h ∙ ap (λ x. x ∷ bs) (sym (kind_from n Kind.Settings is))
messages_by (Some Kind.Count) bs n m b is h = count_again bs m b h ∙ ap (λ x. x ∷ bs) (sym (kind_from n Kind.Count is))
messages_by (Some Kind.Ask) bs n m b is h = ask_again bs m b h ∙ ap (λ x. x ∷ bs) (sym (kind_from n Kind.Ask is))
messages_by (Some Kind.Mark) bs n m b is h = mark_again bs m b h ∙ ap (λ x. x ∷ bs) (sym (kind_from n Kind.Mark is))
messages_by (Some Kind.Event) bs n m b is h = event_again bs m b h ∙ ap (λ x. x ∷ bs) (sym (kind_from n Kind.Event is))

messages_again : MessagesWrittenBack
unfolding Bytes
messages_again [] m b h = no_value h
messages_again (n ∷ bs) m (p, b) h = messages_by (kind_of n) bs n m b refl h

refusal_from : (n : ℕ) (e : Refusal) → refusal_of n ≡ Some e → n ≡ number_of e
refusal_from n e is = grind (arith, nat_tests)

refusals : RefusalsByNumber
refusals Malformed n = (refusal_from n Malformed, λ is. ap refusal_of is)
refusals OutOfRange n = (refusal_from n OutOfRange, λ is. ap refusal_of is)
refusals UnknownNonce n = (refusal_from n UnknownNonce, λ is. ap refusal_of is)
refusals WrongSignature n = (refusal_from n WrongSignature, λ is. ap refusal_of is)
refusals TooLate n = (refusal_from n TooLate, λ is. ap refusal_of is)
refusals UnknownEvent n = (refusal_from n UnknownEvent, λ is. ap refusal_of is)
refusals NoWorldLeft n = (refusal_from n NoWorldLeft, λ is. ap refusal_of is)
refusals ClockWentBack n = (refusal_from n ClockWentBack, λ is. ap refusal_of is)
refusals OldestMomentGone n = (refusal_from n OldestMomentGone, λ is. ap refusal_of is)
refusals Full n = (refusal_from n Full, λ is. ap refusal_of is)

pub message_laws : MessageLaws
message_laws = record { kinds = kinds; refusals = refusals; back = messages_back; again = messages_again; differ = messages_differ }
