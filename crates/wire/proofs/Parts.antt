-- Reading part by part: what is left after several parts.
use Rattle.std.proofs.Common.{◌≡◌, ℕ, ◌+◌, ◌-◌, ◌≤◌, List, length, take, drop, ap, ◌∙◌, arith}
use Rattle.std.proofs.lemmas.List.{drop-drop, length-drop, take_rest}

-- what a reader of n bytes hands on: the rest of the bytes
abbrev pub Left : ℕ → List ℕ → List ℕ → Type 0
Left n bs rest = (rest ≡ drop n bs) × (length rest + n ≡ length bs)

-- the rest as a pattern hands it on
pub left_by : (n : ℕ) (bs : List ℕ) → n ≤ length bs → Left n bs (take (length bs - n) (drop n bs))
left_by n bs h = (take_rest bs n, simp (take_rest, length-drop) (omega arith))

-- one part after another
pub left_then : (m n : ℕ) (xs ys zs : List ℕ) → Left m xs ys → Left n ys zs → Left (m + n) xs zs
left_then m n xs ys zs p q = (q.0 ∙ ap (drop n) p.0 ∙ drop-drop n m xs, omega arith)
