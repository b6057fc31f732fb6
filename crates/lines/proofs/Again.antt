-- What is read is written again as the bytes that it was read from: no two strings of bytes are one line.
use Rattle.std.proofs.Common.{◌≡◌, ℕ, zero, suc, ◌+◌, ◌*◌, ◌/◌, eqb, List, [], ◌∷◌, ◌++◌, length, get_or, take, drop, Some, None, Ok, Option, sym, refl, ap, ◌∙◌, ⊎_elim, arith}
use Rattle.std.specs.List.{flat_map}
use Rattle.std.proofs.lemmas.List.{append-nil, drop_all, drop-drop, length-drop, length-take-le, take-append-drop, nil_from_length}
use Rattle.std.proofs.lemmas.Bool.{eqb-true}
use Rattle.std.proofs.lemmas.Bool.Decides.{nat_tests}
use Rattle.wire.specs.Laws.{Bytes}
use Rattle.lines.specs.Kinds.{kind_of}
use Rattle.lines.specs.Kinds as Kinds
use Rattle.lines.specs.Laws.{EntriesWrittenBack, EntryLaws, KindsByNumber}
use Rattle.lines.specs.declared.line.Kind.{Kind}
use Rattle.lines.specs.Lines.{Entry, body_by, hand_of, refused_by, refused_of, request_of, heard_of, reckoned_of, marked_of, said_of, asked_of, run_bytes, runs_from, runs_of}
use Rattle.lines.specs.Lines as Lines
use Rattle.wire.specs.Numbers.{be2, be8, number2, number8}
use Rattle.wire.specs.Refusals.{refusal_of}
use Rattle.wire.specs.declared.refusal.Refusal.{Refusal}
use Rattle.wire.specs.declared.refusal.Refusal.TheVariants.{Malformed}
use Rattle.wire.proofs.Again.{two_again, eight_at, byte_at, eight_last, byte_last, bytes_drop, bytes_take, pick, no_value, value_of, sized, message_laws}
use Rattle.lines.proofs.Back.{entries_back, entries_differ}

-- lines of the record
request_again : (bs : List ℕ) (m : Entry) → Bytes bs → request_of bs ≡ Ok m → Lines.bytes_of m ≡ 1 ∷ bs
request_again bs m b h = sized bs 33 _ _ Malformed m _ refl h (λ l e. ap Lines.bytes_of (sym (value_of e)) ∙ ap (λ r. 1 ∷ r) (byte_at 0 1 bs (omega arith) refl))

heard_again : (bs : List ℕ) (m : Entry) → Bytes bs → heard_of bs ≡ Ok m → Lines.bytes_of m ≡ 3 ∷ bs
heard_again bs m b h = sized bs 33 _ _ Malformed m _ refl h (λ l e. ap Lines.bytes_of (sym (value_of e)) ∙ whole l) where
  whole : length bs ≡ 33
      → 3 ∷ (be8 (number8 bs) ++ (be8 (number8 (drop 8 bs)) ++ get_or bs 16 0 ∷ (be8 (number8 (drop 17 bs)) ++ be8 (number8 (drop 25 bs))))) ≡ 3 ∷ bs
  whole l =
      ap (λ r. 3 ∷ (be8 (number8 bs) ++ (be8 (number8 (drop 8 bs)) ++ get_or bs 16 0 ∷ (be8 (number8 (drop 17 bs)) ++ r)))) (eight_last 25 bs b l)
      ∙ ap (λ r. 3 ∷ (be8 (number8 bs) ++ (be8 (number8 (drop 8 bs)) ++ get_or bs 16 0 ∷ r))) (eight_at 17 25 bs b (omega arith) refl)
      ∙ ap (λ r. 3 ∷ (be8 (number8 bs) ++ (be8 (number8 (drop 8 bs)) ++ r))) (byte_at 16 17 bs (omega arith) refl)
      ∙ ap (λ r. 3 ∷ (be8 (number8 bs) ++ r)) (eight_at 8 16 bs b (omega arith) refl)
      ∙ ap (λ r. 3 ∷ r) (eight_at 0 8 bs b (omega arith) refl)

length_from : (n : ℕ) (bs : List ℕ) → length (runs_from n bs) ≡ n
unfolding runs_from
length_from zero bs = refl
length_from (suc n) bs = ap suc (length_from n (drop 16 bs))

runs_again : (n : ℕ) (bs : List ℕ) → Bytes bs → length bs ≡ 16 * n → flat_map run_bytes (runs_from n bs) ≡ bs
unfolding runs_from
runs_again zero bs b l = sym (nil_from_length bs (omega arith))
runs_again (suc n) bs b l =
    ap (λ r. be8 (number8 bs) ++ (be8 (number8 (drop 8 bs)) ++ r)) (runs_again n (drop 16 bs) (bytes_drop 16 bs b) (simp length-drop (omega arith)))
    ∙ ap (λ r. be8 (number8 bs) ++ r) (eight_at 8 16 bs b (omega arith) refl)
    ∙ eight_at 0 8 bs b (omega arith) refl

reckoned_again : (bs : List ℕ) (m : Entry) → Bytes bs → reckoned_of bs ≡ Ok m → Lines.bytes_of m ≡ 4 ∷ bs
reckoned_again bs m b h = sized bs (11 + 16 * get_or bs 8 0) _ _ Malformed m _ refl h (λ l e. ap Lines.bytes_of (sym (value_of e)) ∙ whole l) where
  whole : length bs ≡ 11 + 16 * get_or bs 8 0
      → 4 ∷ (be8 (number8 bs) ++ length (runs_of (take (16 * get_or bs 8 0) (drop 9 bs))) ∷ (flat_map run_bytes (runs_of (take (16 * get_or bs 8 0) (drop 9 bs))) ++ be2 (number2 (drop (9 + 16 * get_or bs 8 0) bs)))) ≡ 4 ∷ bs
  whole l =
      let n = get_or bs 8 0 in
      let part = take (16 * n) (drop 9 bs) in
      let rest = drop (9 + 16 * n) bs in
      let left = length-drop 9 bs in
      let long : length part ≡ 16 * n = length-take-le (16 * n) (drop 9 bs) (omega arith) in
      let many : length part / 16 ≡ n = omega arith in
      let last = length-drop (9 + 16 * n) bs in
      let two : length rest ≡ 2 = omega arith in
      let named : be2 (number2 rest) ≡ rest
      = sym (append-nil (be2 (number2 rest))) ∙ ap (λ r. be2 (number2 rest) ++ r) (sym (drop_all 2 rest (omega arith))) ∙ two_again rest (bytes_drop (9 + 16 * n) bs b) (omega arith) in
      ap (λ k. 4 ∷ (be8 (number8 bs) ++ k ∷ (flat_map run_bytes (runs_of part) ++ be2 (number2 rest)))) (length_from (length part / 16) part ∙ many)
      ∙ ap (λ r. 4 ∷ (be8 (number8 bs) ++ n ∷ (r ++ be2 (number2 rest)))) (ap (λ k. flat_map run_bytes (runs_from k part)) many ∙ runs_again n part (bytes_take (16 * n) (drop 9 bs) (bytes_drop 9 bs b)) long)
      ∙ ap (λ r. 4 ∷ (be8 (number8 bs) ++ n ∷ (part ++ r))) (named ∙ sym (drop-drop (16 * n) 9 bs))
      ∙ ap (λ r. 4 ∷ (be8 (number8 bs) ++ n ∷ r)) (take-append-drop (16 * n) (drop 9 bs))
      ∙ ap (λ r. 4 ∷ (be8 (number8 bs) ++ r)) (byte_at 8 9 bs (omega arith) refl)
      ∙ ap (λ r. 4 ∷ r) (eight_at 0 8 bs b (omega arith) refl)

marked_again : (bs : List ℕ) (m : Entry) → Bytes bs → marked_of bs ≡ Ok m → Lines.bytes_of m ≡ 5 ∷ bs
marked_again bs m b h = sized bs 8 _ _ Malformed m _ refl h (λ l e. ap Lines.bytes_of (sym (value_of e)) ∙ ap (λ r. 5 ∷ r) (eight_last 0 bs b l))

said_again : (bs : List ℕ) (m : Entry) → Bytes bs → said_of bs ≡ Ok m → Lines.bytes_of m ≡ 6 ∷ bs
said_again bs m b h = sized bs 24 _ _ Malformed m _ refl h (λ l e. ap Lines.bytes_of (sym (value_of e)) ∙ whole l) where
  whole : length bs ≡ 24 → 6 ∷ (be8 (number8 bs) ++ (be8 (number8 (drop 8 bs)) ++ be8 (number8 (drop 16 bs)))) ≡ 6 ∷ bs
  whole l =
      ap (λ r. 6 ∷ (be8 (number8 bs) ++ (be8 (number8 (drop 8 bs)) ++ r))) (eight_last 16 bs b l)
      ∙ ap (λ r. 6 ∷ (be8 (number8 bs) ++ r)) (eight_at 8 16 bs b (omega arith) refl)
      ∙ ap (λ r. 6 ∷ r) (eight_at 0 8 bs b (omega arith) refl)

asked_again : (bs : List ℕ) (m : Entry) → Bytes bs → asked_of bs ≡ Ok m → Lines.bytes_of m ≡ 7 ∷ bs
asked_again bs m b h =
    sized bs 9 _ _ Malformed m _ refl h
    (λ l e. ap Lines.bytes_of (sym (value_of e)) ∙ ap (λ r. 7 ∷ (be8 (number8 bs) ++ r)) (byte_last 8 bs l) ∙ ap (λ r. 7 ∷ r) (eight_at 0 8 bs b (omega arith) refl))

refused_again : (bs : List ℕ) (m : Entry) → Bytes bs → refused_of bs ≡ Ok m → Lines.bytes_of m ≡ 21 ∷ bs
refused_again bs m b h = sized bs 1 _ _ Malformed m _ refl h (λ l e. go (refusal_of (get_or bs 0 0)) refl l e) where
  go : (o : Option Refusal) → refusal_of (get_or bs 0 0) ≡ o → length bs ≡ 1 → refused_by o ≡ Ok m → Lines.bytes_of m ≡ 21 ∷ bs
  go None is l e = no_value e
  go (Some x) is l e =
      ap Lines.bytes_of (sym (value_of e)) ∙ ap (λ n. 21 ∷ n ∷ []) (sym ((message_laws.refusals x (get_or bs 0 0)).0 is)) ∙ ap (λ r. 21 ∷ r) (byte_last 0 bs l)

hand_again : (bs : List ℕ) (m : Entry) → Bytes bs → hand_of bs ≡ Ok m → Lines.bytes_of m ≡ 22 ∷ bs
hand_again bs m b h =
    sized bs 9 _ _ Malformed m _ refl h
    (λ l e. ⊎_elim (λ p. ap Lines.bytes_of (sym (value_of p.1)) ∙ whole l 0 (eqb-true (get_or bs 8 0) 0 p.0))
    (λ q. ⊎_elim (λ p. ap Lines.bytes_of (sym (value_of p.1)) ∙ whole l 1 (eqb-true (get_or bs 8 0) 1 p.0)) (λ p. no_value p.1) (pick (eqb (get_or bs 8 0) 1) _ _ m q.1))
    (pick (eqb (get_or bs 8 0) 0) _ _ m e)) where
      whole : length bs ≡ 9 → (n : ℕ) → get_or bs 8 0 ≡ n → 22 ∷ (be8 (number8 bs) ++ n ∷ []) ≡ 22 ∷ bs
      whole l n is =
          ap (λ x. 22 ∷ (be8 (number8 bs) ++ x ∷ [])) (sym is)
          ∙ ap (λ r. 22 ∷ (be8 (number8 bs) ++ r)) (byte_last 8 bs l)
          ∙ ap (λ r. 22 ∷ r) (eight_at 0 8 bs b (omega arith) refl)

kind_from : (n : ℕ) (k : Kind) → kind_of n ≡ Some k → n ≡ Kinds.number_of k
kind_from n k is = grind (arith, nat_tests)

kinds : KindsByNumber
kinds Kind.Request n = (kind_from n Kind.Request, λ is. ap kind_of is)
kinds Kind.Heard n = (kind_from n Kind.Heard, λ is. ap kind_of is)
kinds Kind.Reckoned n = (kind_from n Kind.Reckoned, λ is. ap kind_of is)
kinds Kind.Marked n = (kind_from n Kind.Marked, λ is. ap kind_of is)
kinds Kind.Said n = (kind_from n Kind.Said, λ is. ap kind_of is)
kinds Kind.Asked n = (kind_from n Kind.Asked, λ is. ap kind_of is)
kinds Kind.Refused n = (kind_from n Kind.Refused, λ is. ap kind_of is)
kinds Kind.Hand n = (kind_from n Kind.Hand, λ is. ap kind_of is)

entries_by : (k : Option Kind) (bs : List ℕ) (n : ℕ) (m : Entry) → Bytes bs → kind_of n ≡ k → body_by k bs ≡ Ok m → Lines.bytes_of m ≡ n ∷ bs
entries_by None bs n m b is h = no_value h
entries_by (Some Kind.Request) bs n m b is h = request_again bs m b h ∙ ap (λ x. x ∷ bs) (sym (kind_from n Kind.Request is))
entries_by (Some Kind.Heard) bs n m b is h = heard_again bs m b h ∙ ap (λ x. x ∷ bs) (sym (kind_from n Kind.Heard is))
entries_by (Some Kind.Reckoned) bs n m b is h = reckoned_again bs m b h ∙ ap (λ x. x ∷ bs) (sym (kind_from n Kind.Reckoned is))
entries_by (Some Kind.Marked) bs n m b is h = marked_again bs m b h ∙ ap (λ x. x ∷ bs) (sym (kind_from n Kind.Marked is))
entries_by (Some Kind.Said) bs n m b is h = said_again bs m b h ∙ ap (λ x. x ∷ bs) (sym (kind_from n Kind.Said is))
entries_by (Some Kind.Asked) bs n m b is h = asked_again bs m b h ∙ ap (λ x. x ∷ bs) (sym (kind_from n Kind.Asked is))
entries_by (Some Kind.Refused) bs n m b is h = refused_again bs m b h ∙ ap (λ x. x ∷ bs) (sym (kind_from n Kind.Refused is))
entries_by (Some Kind.Hand) bs n m b is h = hand_again bs m b h ∙ ap (λ x. x ∷ bs) (sym (kind_from n Kind.Hand is))

entries_again : EntriesWrittenBack
unfolding Bytes
entries_again [] m b h = no_value h
entries_again (n ∷ bs) m (p, b) h = entries_by (kind_of n) bs n m b refl h

pub entry_laws : EntryLaws
entry_laws = record { kinds = kinds; back = entries_back; again = entries_again; differ = entries_differ }
