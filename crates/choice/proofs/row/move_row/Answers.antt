use Rattle.std.proofs.Common.{sym, ◌∙◌, subst, arith}
use Rattle.span.specs.Span.{moved}
use Rattle.choice.specs.Moves.{RowMoves}
use Rattle.choice.specs.Row.{respan}
use Rattle.choice.proofs.Rows.{map_all, map_step, row_moves}
use Rattle.choice.proofs.row.move_row.Goals as goal

pub loop-case-preserved : goal.loop-case-preserved
loop-case-preserved c =
    map_step (respan (λ k s. moved c.args.stride.least c.args.stride.most s)) c.loop-case.case-index c.loop-case.row _ _ (omega arith) c.moved.ensures.value ∙ c.loop-case.invariant

pub returns : goal.returns
returns c =
    let low = c.args.stride.least in
    let high = c.args.stride.most in
    let whole = sym (map_all (respan (λ k s. moved low high s)) c.loop-case.case-index c.loop-case.row (omega arith)) ∙ c.loop-case.invariant in
    record { after = whole; moves = subst (RowMoves low high c.args.row.now) (sym whole) (row_moves low high c.args.row.now) }
