-- The number of every kind of message, and the kind that a number is of.
use Rattle.std.specs.Prelude.{ℕ, cond, Some, None, Option, ◌==◌}
use Rattle.wire.specs.declared.input.Kind.{Kind}
use Rattle.wire.specs.declared.input.Kind.TheVariants.{Reply, Settings, Count, Ask, Mark, Event}

abbrev pub number_of : Kind → ℕ
number_of Reply = 2
number_of Settings = 16
number_of Count = 17
number_of Ask = 18
number_of Mark = 19
number_of Event = 20

-- no other number is a kind's
abbrev pub kind_of : ℕ → Option Kind
kind_of n =
    cond (n == 2) (Some Reply)
    (cond (n == 16) (Some Settings)
    (cond (n == 17) (Some Count)
    (cond (n == 18) (Some Ask)
    (cond (n == 19) (Some Mark)
    (cond (n == 20) (Some Event) None)))))
