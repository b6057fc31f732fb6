-- When a window stands for the moments of a run: whatever was forgotten, its rows are those of all of them.
use Rattle.std.specs.Prelude.{◌≡◌, ℕ, ◌<◌, List, [], ◌∷◌, take, None, slice_index_or}
use Rattle.span.specs.World.{Rules}
use Rattle.span.specs.Span.{ceiling}
use Rattle.span.specs.Model as model
use Rattle.span.specs.Model.{put}
use Rattle.choice.specs.Row.{row_through}
use Rattle.choice.specs.Stands.{AllFull}
use Rattle.trail.specs.declared.Moment.{Moment}
use Rattle.trail.specs.Trail.{moment_of, onto}
use Rattle.window.specs.Ring.{nothing}
use Rattle.window.specs.View.{View}
use Rattle.window.specs.Steps.{mark_at, place_of}

pub record Parts (r : Rules) (ms : List model.Moment) (v : View) : Type 0 where
  -- the moments that were forgotten, the latest first
  pub forgotten : List model.Moment
  -- all choices of as many faulty servers as may be
  pub choices : List ℕ
  pub servers : r.servers ≡ v.servers
  pub drift : r.drift ≡ v.drift
  pub full : AllFull r choices
  pub whole : ms ≡ onto v.kept forgotten
  pub base : v.base ≡ row_through r forgotten choices
  pub mark : v.mark ≡ row_through r (onto (take (mark_at v) v.kept) forgotten) choices
  pub here : v.here ≡ row_through r ms choices

-- the rules of a new beginning, at which true time is anything up to the ceiling
abbrev pub from_ceiling : Rules → Rules
from_ceiling r = record { servers = r.servers; faulty = r.faulty; drift = r.drift; latest = ceiling }

-- a step keeps what a window stands for
abbrev pub Keeps : View → View → Type 0
Keeps v w = (r : Rules) (ms : List model.Moment) → Parts r ms v → Parts r ms w

-- it adds a moment
abbrev pub Adds : Moment → View → View → Type 0
Adds m v w = (r : Rules) (ms : List model.Moment) → Parts r ms v → Parts r (moment_of m ∷ ms) w

-- it puts an upper bound down at the moment that has so many after it, if nothing was claimed there before
abbrev pub Bounds : ℕ → ℕ → ℕ → View → View → Type 0
Bounds since server time v w =
    (r : Rules) (ms : List model.Moment) → Parts r ms v → (slice_index_or v.kept (place_of v since) nothing).claim ≡ None → Parts r (put since server time ms) w

-- it begins anew
abbrev pub Restarts : View → View → Type 0
Restarts v w = (r : Rules) (ms : List model.Moment) → Parts r ms v → Parts (from_ceiling r) [] w

-- a window that begins stands for no moments
abbrev pub Begins : ℕ → ℕ → ℕ → ℕ → View → Type 0
Begins servers faulty drift latest v = (r : Rules) → r.servers ≡ servers → r.faulty ≡ faulty → faulty < servers → r.drift ≡ drift → r.latest ≡ latest → Parts r [] v
