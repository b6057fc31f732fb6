-- When a row of spans stands for a run, and what then is exact.
use Rattle.std.specs.Prelude.{◌≡◌, ℕ, ◌<◌, Bool, true, false, List, length, Decides, slice_index}
use Rattle.span.specs.World.{Rules, Event, World}
use Rattle.span.specs.Model.{moments}
use Rattle.choice.specs.declared.case.Case.{Case}
use Rattle.choice.specs.Choice.{bit}
use Rattle.choice.specs.Promise.{Full, FaultyInAll, NoWorld}
use Rattle.choice.specs.Row.{choices_in, row_through}

-- the list has just the choices of as many faulty servers as may be, fewer than all
pub record AllFull (r : Rules) (cs : List ℕ) : Type 0 where
  pub fewer : r.faulty < r.servers
  pub full : (k : ℕ) → k < length cs → Full r (slice_index cs k)
  pub all : (c : ℕ) → Full r c → (k : ℕ) × (k < length cs) × (slice_index cs k ≡ c)

-- these are all, for any rules with so many servers of which fewer may be faulty
abbrev pub AllChosen : ℕ → ℕ → List ℕ → Type 0
AllChosen n f cs = (r : Rules) → r.servers ≡ n → r.faulty ≡ f → f < n → AllFull r cs

-- the row has the spans of all these choices after the run
pub record Stands (r : Rules) (es : List Event) (row : List Case) : Type 0 where
  pub choices : AllFull r (choices_in row)
  pub spans : row ≡ row_through r (moments es) (choices_in row)

-- of every run that the row stands for: it is said that it may be t exactly if some world of the run has t now
abbrev pub MayExact : ℕ → List Case → Bool → Type 0
MayExact t row b = (r : Rules) (es : List Event) → Stands r es row → Decides b (World r es t)

-- a span is left exactly if a world is
abbrev pub LeftExact : List Case → Bool → Type 0
LeftExact row b = (r : Rules) (es : List Event) → Stands r es row → (b ≡ true → (t : ℕ) × World r es t) × (b ≡ false → NoWorld r es)

-- a server is named exactly if it is faulty in every world of the run
abbrev pub NamedExact : ℕ → List Case → Bool → Type 0
NamedExact v row b = (r : Rules) (es : List Event) → Stands r es row → Decides b (FaultyInAll r es v)

-- and so for the set of all that are named, of the first n servers
abbrev pub NamesExact : ℕ → List Case → ℕ → Type 0
NamesExact n row set = (r : Rules) (es : List Event) → Stands r es row → (v : ℕ) → (v < n → Decides (bit set v) (FaultyInAll r es v)) × (bit set v ≡ true → v < n)
