use Rattle.std.proofs.Common.{◌≡◌, ◌++◌, take, drop}
use Rattle.span.specs.Model.{cut_by}
use Rattle.choice.specs.Choice.{bit}
use Rattle.choice.specs.Row.{over_row}
use Rattle.choice.specs.Moves.{claim_of}
use Rattle.choice.proofs.row.cut_row.Given as goal

-- what is done and what is left to do are the whole
abbrev pub invariant-loop-each : goal.invariant-loop-each
invariant-loop-each l = take l.each-index l.row ++ over_row (λ c s. cut_by (bit c) (claim_of l.claim) s) (drop l.each-index l.row) ≡ over_row (λ c s. cut_by (bit c) (claim_of l.claim) s) l.initial.row
