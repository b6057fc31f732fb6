-- The next time, by the first run that does not lie behind.
use Rattle.std.proofs.Common.{◌≡◌, ℕ, max, Bool, true, false, cond, leb, List, [], ◌∷◌, Some, None, Option, find, refl}
use Rattle.choice.specs.declared.runs.Run.{Run}
use Rattle.hand.specs.Hand.{next}

-- what the code reads past the end
abbrev pub none : Run
none = record { lo = 0; hi = 0 }

abbrev pub from : ℕ → Option Run → ℕ
from t None = t
from t (Some r) = max t r.lo

pub next_found : (t : ℕ) (rs : List Run) → from t (find (λ r. leb t r.hi) rs) ≡ next t rs
unfolding next
next_found t [] = refl
next_found t (r ∷ rs) = go (leb t r.hi) (next_found t rs) where
  go : (b : Bool) → from t (find (λ r. leb t r.hi) rs) ≡ next t rs → from t (cond b (Some r) (find (λ r. leb t r.hi) rs)) ≡ cond b (max t r.lo) (next t rs)
  go true h = refl
  go false h = h
