-- What an exchange holds.
use Rattle.std.specs.Prelude.{ℕ, List, vec_items}
use Rattle.choice.specs.declared.runs.Run.{Run}
use Rattle.window.specs.View.{View, view_of}
use Rattle.requests.specs.Book.{Book}
use Rattle.exchange.specs.declared.Exchange.{Exchange}

-- how many servers there are, the window of moments, the requests, and the local clock's count at the last moment and now
pub record State : Type 0 where
  pub servers : ℕ
  pub window : View
  pub book : Book
  pub last : ℕ
  pub count : ℕ

abbrev pub state_of : Exchange → State
state_of x = record { servers = x.servers.many; window = view_of x.window; book = x.requests; last = x.last; count = x.count }

-- the runs of times that are said
abbrev pub runs_of : Exchange → List Run
runs_of x = vec_items x.runs
