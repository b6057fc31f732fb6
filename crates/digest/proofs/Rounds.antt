-- The rounds of a block as a fold over the constants and words.
use Rattle.std.proofs.Common.{◌≡◌, ℕ, List, [], ◌∷◌, refl}
use Rattle.std.specs.List.{fold, zip}
use Rattle.digest.specs.declared.state.State.{State}
use Rattle.digest.specs.Sha256.{round_of, rounds}

abbrev pub round_at : State → ℕ × ℕ → State
round_at s p = round_of s p.0 p.1

pub rounds_fold : (s : State) (ks ws : List ℕ) → fold round_at s (zip ks ws) ≡ rounds s ks ws
unfolding rounds
rounds_fold s [] ws = refl
rounds_fold s (k ∷ ks) [] = refl
rounds_fold s (k ∷ ks) (w ∷ ws) = rounds_fold (round_of s k w) ks ws
