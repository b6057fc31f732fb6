-- What a ledger promises: its row of spans stands for a run of events, and what it says is exact.
use Rattle.std.specs.Prelude.{◌≡◌, ℕ, ◌<◌, ◌≤◌, List, [], ◌∷◌}
use Rattle.span.specs.Rate.{Strides}
use Rattle.span.specs.Span.{is_in}
use Rattle.span.specs.World.{Rules, Event, Shows, Asks, Accepts}
use Rattle.choice.specs.declared.case.Case.{Case}
use Rattle.choice.specs.declared.runs.Run.{Run}
use Rattle.choice.specs.Row.{any_span}
use Rattle.choice.specs.Runs.{in_runs, Apart, RunsExact}
use Rattle.choice.specs.Stands.{Stands}

-- the time is shown n ticks later; a server is asked, and its reply accepted with no tick between
abbrev pub shows : ℕ → Event
shows n = record { ticks = n; deed = Shows }

abbrev pub asks : ℕ → Event
asks v = record { ticks = 0; deed = Asks v }

abbrev pub hears : ℕ → ℕ → ℕ → Event
hears v lo hi = record { ticks = 0; deed = Accepts v 0 lo hi }

-- at the beginning the row stands for the empty run
abbrev pub Begins : ℕ → ℕ → ℕ → List Case → Type 0
Begins n f latest row = (r : Rules) → r.servers ≡ n → r.faulty ≡ f → f < n → r.latest ≡ latest → Stands r [] row

-- moved on by the stride of n ticks, for the run in which the time was shown n ticks later
abbrev pub Passes : ℕ → ℕ → List Case → List Case → Type 0
Passes low high row after = (r : Rules) (es : List Event) (n : ℕ) → Strides r.drift n low high → Stands r es row → Stands r (shows n ∷ es) after

-- and after a reply that was asked for and came at this moment, for the run with both
abbrev pub Hears : ℕ → ℕ → ℕ → ℕ → ℕ → List Case → List Case → Type 0
Hears low high v lo hi row after = (r : Rules) (es : List Event) → Strides r.drift 0 low high → lo ≤ hi → Stands r es row → Stands r (hears v lo hi ∷ (asks v ∷ es)) after

-- what is said by a row: the runs are apart, hold just what its spans hold, and so are exact
pub record Says (row : List Case) (runs : List Run) : Type 0 where
  pub apart : Apart 0 runs
  pub same : (t : ℕ) → in_runs t runs ≡ any_span (is_in t) row
  pub exact : RunsExact row runs
