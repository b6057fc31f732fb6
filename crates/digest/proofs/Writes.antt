-- What the writes to a part of an array leave.
use Rattle.std.proofs.Common.{◌≡◌, ℕ, suc, ◌+◌, ◌-◌, ◌<◌, ◌≤◌, List, [], ◌∷◌, ◌++◌, length, take, drop, set, replicate, refl, ap, ◌∙◌, arith}
use borrow.Rule.Slice.PartMut.{put_mid}
use Rattle.std.proofs.lemmas.List.{append-nil, drop_all, drop-drop, drop-replicate, set_at}
use Rattle.digest.specs.Hmac.{to_block}
use Rattle.digest.proofs.Blocks.{mark}

-- a part that reaches the end
pub put_end :
    (a k : ℕ) (xs ys : List ℕ) → length xs ≤ a + k → put_mid a k xs ys ≡ take a xs ++ ys
put_end a k xs ys h =
    let none : drop k (drop a xs) ≡ [] = drop-drop k a xs ∙ drop_all (a + k) xs h in
    ap (λ l. take a xs ++ (ys ++ l)) none ∙ ap (λ l. take a xs ++ l) (append-nil ys)

-- bytes at the front of zeros
pub put_front :
    (bytes ys : List ℕ) (k : ℕ) → ys ≡ bytes → k ≡ length bytes → put_mid 0 k (replicate 64 0) ys ≡ to_block bytes
unfolding to_block
put_front bytes ys k same n =
    let zeros : drop k (replicate 64 0) ≡ replicate (64 - length bytes) 0
    = drop-replicate k 64 0 ∙ ap (λ m. replicate (64 - m) 0) n in
    ap (λ l. ys ++ l) zeros ∙ ap (λ l. l ++ replicate (64 - length bytes) 0) same

-- and the byte after them
pub put_mark :
    (rest block : List ℕ) → block ≡ to_block rest → length rest < 64 → set block (length rest) 0x80 ≡ mark rest
unfolding to_block
put_mark rest block is h =
    let more : 64 - length rest ≡ suc (63 - length rest) = omega arith in
    let zeros : block ≡ rest ++ 0 ∷ replicate (63 - length rest) 0 = is ∙ ap (λ m. rest ++ replicate m 0) more in
    ap (λ l. set l (length rest) 0x80) zeros ∙ set_at rest 0 (replicate (63 - length rest) 0) 0x80 (length rest) refl
