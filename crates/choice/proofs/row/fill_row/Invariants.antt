use Rattle.std.proofs.Common.{◌≡◌, ◌++◌, take, drop}
use Rattle.choice.specs.Row.{over_row}
use Rattle.choice.proofs.row.fill_row.Given as goal

-- what is done and what is left to do are the whole
abbrev pub invariant-loop-place : goal.invariant-loop-place
invariant-loop-place l = take l.place-index l.row ++ over_row (λ c s. l.span) (drop l.place-index l.row) ≡ over_row (λ c s. l.span) l.initial.row
