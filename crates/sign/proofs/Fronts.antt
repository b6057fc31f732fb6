-- A reply cut before its signature.
use Rattle.std.proofs.Common.{◌≡◌, ℕ, List, ◌∷◌, ◌++◌, length, take, drop, replicate, sym, ap, ◌∙◌, subst, arith}
use borrow.Rule.Slice.PartMut.{put_mid}
use Rattle.std.proofs.lemmas.List.{append_assoc, append-nil, length-append, take_at, drop_at}
use Rattle.wire.specs.Inputs.{bytes_of, reply}
use Rattle.wire.specs.Numbers.{be4, be8}
use Rattle.wire.specs.declared.input.Reading.{Reading}
use Rattle.sign.specs.Replies.{front_of, ReplyParts}

pub reply_parts : ReplyParts
reply_parts r long =
    let nonce = r.reading.nonce in
    let middle = be8 r.reading.midpoint ++ be4 r.reading.radius in
    let front = front_of r.reading in
    let whole : bytes_of (reply r) ≡ front ++ r.signature = ap (λ l. 2 ∷ r.reading.server ∷ l) (sym (append_assoc nonce middle r.signature)) in
    let many : length front ≡ 46 = let e = length-append nonce middle in omega arith in
    (ap (take 46) whole ∙ take_at front r.signature 46 many, ap (drop 46) whole ∙ drop_at front r.signature 46 many)

-- bytes and then a signature, written over zeros
pub joined_is : (f s f' s' : List ℕ) → f' ≡ f → s' ≡ s → length f ≡ 46 → put_mid 46 64 (put_mid 0 46 (replicate 110 0) f') s' ≡ f ++ s
joined_is f s f' s' same_f same_s many =
    let zeros = replicate 64 0 in
    ap (λ l. put_mid 46 64 (l ++ zeros) s') same_f
    ∙ ap (λ l. put_mid 46 64 (f ++ zeros) l) same_s
    ∙ ap (λ l. l ++ (s ++ drop 64 (drop 46 (f ++ zeros)))) (take_at f zeros 46 many)
    ∙ ap (λ l. f ++ (s ++ drop 64 l)) (drop_at f zeros 46 many)
    ∙ ap (λ l. f ++ l) (append-nil s)

-- the parts of a reply that was put together
module _ (valid : List ℕ → List ℕ → List ℕ → Type 0) where
  pub record Put (key : List ℕ) (reading : Reading) (r : List ℕ) : Type 0 where
    pub value : r ≡ bytes_of (reply (record { reading = reading; signature = drop 46 r }))
    pub front : take 46 r ≡ front_of reading
    pub accepted : valid key (take 46 r) (drop 46 r)

  pub put_together : (key : List ℕ) (reading : Reading) (f s r : List ℕ) → length f ≡ 46 → f ≡ front_of reading
      → r ≡ f ++ s → valid key f s → Put key reading r
  put_together key reading f s r many f_is r-is v =
      let middle = be8 reading.midpoint ++ be4 reading.radius in
      let front_is : take 46 r ≡ f = ap (take 46) r-is ∙ take_at f s 46 many in
      let back_is : drop 46 r ≡ s = ap (drop 46) r-is ∙ drop_at f s 46 many in
      record {
        value =
            r-is
            ∙ ap (λ l. l ++ s) f_is
            ∙ ap (λ l. 2 ∷ reading.server ∷ l) (append_assoc reading.nonce middle s)
            ∙ ap (λ l. 2 ∷ reading.server ∷ (reading.nonce ++ (middle ++ l))) (sym back_is);
        front = front_is ∙ f_is;
        accepted = subst (λ x. valid key (take 46 r) x) (sym back_is) (subst (λ x. valid key x s) (sym front_is) v);
      }
