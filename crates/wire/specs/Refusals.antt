-- The number of every refusal and notice, and the refusal that a number is of.
use Rattle.std.specs.Prelude.{ℕ, cond, Some, None, Option, ◌==◌}
use Rattle.wire.specs.declared.refusal.Refusal.{Refusal}
use Rattle.wire.specs.declared.refusal.Refusal.TheVariants.{Malformed, OutOfRange, UnknownNonce, WrongSignature, TooLate, UnknownEvent, NoWorldLeft, ClockWentBack, OldestMomentGone, Full}

abbrev pub number_of : Refusal → ℕ
number_of Malformed = 1
number_of OutOfRange = 2
number_of UnknownNonce = 3
number_of WrongSignature = 4
number_of TooLate = 5
number_of UnknownEvent = 6
number_of NoWorldLeft = 7
number_of ClockWentBack = 8
number_of OldestMomentGone = 9
number_of Full = 10

-- no other number is a refusal's
abbrev pub refusal_of : ℕ → Option Refusal
refusal_of n =
    cond (n == 1) (Some Malformed)
    (cond (n == 2) (Some OutOfRange)
    (cond (n == 3) (Some UnknownNonce)
    (cond (n == 4) (Some WrongSignature)
    (cond (n == 5) (Some TooLate)
    (cond (n == 6) (Some UnknownEvent)
    (cond (n == 7) (Some NoWorldLeft)
    (cond (n == 8) (Some ClockWentBack)
    (cond (n == 9) (Some OldestMomentGone)
    (cond (n == 10) (Some Full) None)))))))))
