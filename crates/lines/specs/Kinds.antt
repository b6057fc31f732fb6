-- The number of every kind of line, and the kind that a number is of.
use Rattle.std.specs.Prelude.{ℕ, cond, Some, None, Option, ◌==◌}
use Rattle.lines.specs.declared.line.Kind.{Kind}
use Rattle.lines.specs.declared.line.Kind.TheVariants.{Request, Heard, Reckoned, Marked, Said, Asked, Refused, Hand}

abbrev pub number_of : Kind → ℕ
number_of Request = 1
number_of Heard = 3
number_of Reckoned = 4
number_of Marked = 5
number_of Said = 6
number_of Asked = 7
number_of Refused = 21
number_of Hand = 22

-- no other number is a kind's
abbrev pub kind_of : ℕ → Option Kind
kind_of n =
    cond (n == 1) (Some Request)
    (cond (n == 3) (Some Heard)
    (cond (n == 4) (Some Reckoned)
    (cond (n == 5) (Some Marked)
    (cond (n == 6) (Some Said)
    (cond (n == 7) (Some Asked)
    (cond (n == 21) (Some Refused)
    (cond (n == 22) (Some Hand) None)))))))
