-- Choices of faulty servers, as bits of a number: bit v is set if server v is assumed to be faulty.
use Rattle.std.specs.Prelude.{ℕ, zero, suc, ◌+◌, ◌*◌, ◌/◌, ◌%◌, ◌^◌, ◌<◌, ◌≤◌, Bool, cond, List, [], ◌∷◌, ◌++◌, ◌==◌, count_ones}
use Rattle.span.specs.World.{Rules, Faulty}

-- whether server v is faulty in the choice c
abbrev pub bit : ℕ → ℕ → Bool
bit c v = c / 2 ^ v % 2 == 1

-- which choices there are: of the servers that exist, no more than may be faulty
pub record Allowed (r : Rules) (c : ℕ) : Type 0 where
  pub there : c < 2 ^ r.servers
  pub few : count_ones c ≤ r.faulty

-- the choice of a set of the first n servers
unfoldable pub choice_of : Faulty → ℕ → ℕ
choice_of who zero = 0
choice_of who (suc n) = cond (who 0) 1 0 + choice_of (λ v. who (suc v)) n * 2

-- the choices below a number that have just f faulty servers, in increasing order
unfoldable pub chosen : ℕ → ℕ → List ℕ
chosen f zero = []
chosen f (suc c) = chosen f c ++ cond (count_ones c == f) (c ∷ []) []
