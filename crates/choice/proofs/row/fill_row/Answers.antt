use Rattle.std.proofs.Common.{sym, ◌∙◌, subst, arith}
use Rattle.choice.specs.Moves.{RowFills}
use Rattle.choice.specs.Row.{respan}
use Rattle.choice.proofs.Rows.{map_all, map_step, row_fills}
use Rattle.choice.proofs.row.fill_row.Goals as goal

pub loop-place-preserved : goal.loop-place-preserved
loop-place-preserved c = map_step (respan (λ k s. c.args.span)) c.loop-place.place-index c.loop-place.row _ _ (omega arith) c.new.ensures.value ∙ c.loop-place.invariant

pub returns : goal.returns
returns c =
    let whole = sym (map_all (respan (λ k s. c.args.span)) c.loop-place.place-index c.loop-place.row (omega arith)) ∙ c.loop-place.invariant in
    record { after = whole; fills = subst (RowFills c.args.span c.args.row.now) (sym whole) (row_fills c.args.span c.args.row.now) }
