-- Worked cases: one table, and one theorem over it, that the definitions give what is written in each row.
use Rattle.std.specs.Prelude.{◌≡◌, ℕ, ◌^◌, cond, List, [], ◌∷◌, nat_le}
use Rattle.span.specs.declared.Span.{Span}
use Rattle.span.specs.declared.Span.TheVariants.{Between}
use Rattle.span.specs.Rate.{least, most}
use Rattle.span.specs.Span.{later}
use Rattle.span.specs.World.{Event, Rules, Asks, Accepts}
use Rattle.span.specs.Model.{moments}
use Rattle.choice.specs.declared.runs.Run.{Run}
use Rattle.choice.specs.Choice.{choice_of, chosen}
use Rattle.choice.specs.Row.{row_through, named_by}
use Rattle.choice.specs.Runs.{runs_in, joined}

-- what is said after a run: the spans of all choices that have times, put in order by their lower ends and joined; and the named servers
unfoldable pub placed : Run → List Run → List Run
placed r [] = r ∷ []
placed r (s ∷ ss) = cond (nat_le r.lo s.lo) (r ∷ (s ∷ ss)) (s ∷ placed r ss)

unfoldable pub sorted : List Run → List Run
sorted [] = []
sorted (r ∷ rs) = placed r (sorted rs)

abbrev pub choices_of : Rules → List ℕ
choices_of r = chosen r.faulty (2 ^ r.servers)

abbrev pub said_runs : Rules → List Event → List Run
said_runs r es = joined (sorted (runs_in (row_through r (moments es) (choices_of r))))

abbrev pub said_names : Rules → List Event → ℕ
said_names r es = choice_of (λ v. named_by v (row_through r (moments es) (choices_of r))) r.servers

-- A row: a drift and a number of ticks with the least and the most that true time goes on; a span, and the span that it is so many ticks later; or rules and a run, with the runs of times that may be after it and the set of named servers.
pub data Row : Type 0 where
  Gains : (drift ticks least most : ℕ) → Row
  Moves : (drift ticks : ℕ) (before after : Span) → Row
  Says : (rules : Rules) (run : List Event) (times : List Run) (names : ℕ) → Row

abbrev pub Right : Row → Type 0
Right (Gains d n a e) = (least d n ≡ a) × (most d n ≡ e)
Right (Moves d n s t) = later d n s ≡ t
Right (Says r es times names) = (said_runs r es ≡ times) × (said_names r es ≡ names)

abbrev pub AllRight : List Row → Type 0
AllRight [] = Unit {0}
AllRight (row ∷ rows) = Right row × AllRight rows

abbrev pub rules : ℕ → ℕ → Rules
rules n f = record { servers = n; faulty = f; drift = 0; latest = 2 ^ 61 }

abbrev pub run : ℕ → ℕ → Run
run lo hi = record { lo = lo; hi = hi }

-- a server is asked; a reply is accepted, with so many moments since its asking
abbrev pub ask : ℕ → ℕ → Event
ask n v = record { ticks = n; deed = Asks v }

abbrev pub reply : ℕ → ℕ → ℕ → ℕ → ℕ → Event
reply n v since lo hi = record { ticks = n; deed = Accepts v since lo hi }

-- three servers, asked and heard at one moment
abbrev pub three : ℕ → ℕ → ℕ → ℕ → ℕ → ℕ → List Event
three a b c d e f = reply 0 2 2 e f ∷ (reply 0 1 2 c d ∷ (reply 0 0 2 a b ∷ (ask 0 2 ∷ (ask 0 1 ∷ (ask 0 0 ∷ [])))))

abbrev pub table : List Row
table =
    -- two agree: the third is named
    Says (rules 3 1) (three 10 20 15 25 40 50) (run 15 20 ∷ []) 4 ∷
    -- either end may be wrong
    (Says (rules 3 1) (three 10 20 18 30 28 40) (run 18 20 ∷ (run 28 30 ∷ [])) 0 ∷
    -- a tick later the one in the middle decides
    (Says (rules 3 1) (reply 0 1 0 19 21 ∷ (ask 1 1 ∷ three 10 20 18 30 28 40)) (run 19 21 ∷ []) 4 ∷
    -- through the drift
    (Moves 100 1000000 (Between 5 7) (Between 999905 1000107) ∷
    (Gains 100 10 10 10 ∷
    -- a reply of 100 with radius 5, asked 30 ticks before
    (Says (rules 1 0) (reply 30 0 0 95 105 ∷ (ask 0 0 ∷ [])) (run 95 135 ∷ []) 0 ∷
    -- one server that contradicts itself: no world, and no time is said
    (Says (rules 1 0) (reply 0 0 0 30 40 ∷ (ask 0 0 ∷ (reply 0 0 0 10 20 ∷ (ask 0 0 ∷ [])))) [] 1 ∷
    []))))))

abbrev pub Worked : Type 0
Worked = AllRight table
