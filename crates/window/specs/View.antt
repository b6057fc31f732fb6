-- What a window holds.
use Rattle.std.specs.Prelude.{ℕ, List, vec_items}
use Rattle.choice.specs.declared.case.Case.{Case}
use Rattle.trail.specs.declared.Moment.{Moment}
use Rattle.window.specs.declared.Window.{Window}

-- how many servers there are, and the drift in millionths; the rows of the choices' spans before the kept moments, at the mark, and now; the kept moments, the oldest first, and how many of them came since the mark
pub record View : Type 0 where
  pub servers : ℕ
  pub drift : ℕ
  pub base : List Case
  pub mark : List Case
  pub here : List Case
  pub kept : List Moment
  pub lag : ℕ

abbrev pub view_of : Window → View
view_of w = record {
  servers = w.servers.many;
  drift = w.drift.millionths;
  base = vec_items w.base;
  mark = vec_items w.mark;
  here = vec_items w.here;
  kept = w.ring;
  lag = w.lag;
}
