-- What happens to somebody who asks time servers for the time, and which worlds that leaves: who is faulty, and how true time went. Relations only: nothing here is worked out.
use Rattle.std.specs.Prelude.{◌≡◌, ℕ, zero, suc, ◌+◌, ◌<◌, ◌≤◌, Bool, true, false, cond, List, [], ◌∷◌, slice_index}
use Rattle.span.specs.Rate.{Fits}
use Rattle.span.specs.Span.{ceiling}

-- What is done at a moment. The time is shown; an event is marked; a server is asked; a server's reply is accepted, which answers the asking that had so many moments after it, and says that it was made between two times.
pub data Deed : Type 0 where
  Shows : Deed
  Marks : Deed
  Asks : (server : ℕ) → Deed
  Accepts : (server since least greatest : ℕ) → Deed

-- A moment of a run: so many ticks of the local clock after the moment before it, or after the beginning. A run is a list of these, the latest first.
pub record Event : Type 0 where
  pub ticks : ℕ
  pub deed : Deed

-- How many servers there are; how many of them may be faulty; by how many millionths the local clock may be fast or slow; the latest that true time can be at the beginning.
pub record Rules : Type 0 where
  pub servers : ℕ
  pub faulty : ℕ
  pub drift : ℕ
  pub latest : ℕ

-- who is faulty
abbrev pub Faulty : Type 0
Faulty = ℕ → Bool

-- how many of the first n servers are faulty
unfoldable pub how_many : Faulty → ℕ → ℕ
how_many who zero = 0
how_many who (suc n) = cond (who n) 1 0 + how_many who n

-- a reply was made at some time: not before its asking, not after it came, and within what it says
pub record Made (asked came least greatest : ℕ) : Type 0 where
  pub at : ℕ
  pub after : asked ≤ at
  pub before : at ≤ came
  pub low : least ≤ at
  pub high : at ≤ greatest

-- What is done at a moment is true of a way that true time went: ts has its times at the moments before, the latest first, and u its time now. A reply of a server that is not faulty was made when it says; one of a faulty server says anything. (A reply to an asking that the run does not have may have been made at any time before it came.)
abbrev pub Told : Faulty → Deed → List ℕ → ℕ → Type 0
Told who Shows ts u = Unit {0}
Told who Marks ts u = Unit {0}
Told who (Asks v) ts u = Unit {0}
Told who (Accepts v since least greatest) ts u = who v ≡ false → Made (slice_index ts since) u least greatest

-- A way that true time can have gone, if these servers are faulty: its time now, and its times at all moments of the run, the latest first. It begins anywhere up to the latest, goes on from moment to moment as the local clock's ticks and drift allow, never passes the ceiling, and all that is told at a moment is true of it.
pub data Way (r : Rules) (who : Faulty) : List Event → ℕ → List ℕ → Type 0 where
  begins : {t : ℕ} → t ≤ r.latest → t ≤ ceiling → Way r who [] t []
  goes : {es : List Event} {e : Event} {t u : ℕ} {ts : List ℕ} → Way r who es t ts → Fits r.drift e.ticks t u → u ≤ ceiling → Told who e.deed ts u → Way r who (e ∷ es) u (u ∷ ts)

-- A world of a run in which it is t now: some of the servers are faulty, no more than may be, and true time has gone some way to t.
pub record World (r : Rules) (es : List Event) (t : ℕ) : Type 0 where
  pub who : Faulty
  pub there : (v : ℕ) → who v ≡ true → v < r.servers
  pub few : how_many who r.servers ≤ r.faulty
  pub times : List ℕ
  pub way : Way r who es t times
