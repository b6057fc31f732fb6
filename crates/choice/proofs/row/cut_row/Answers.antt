use Rattle.std.proofs.Common.{sym, ◌∙◌, subst, arith}
use Rattle.span.specs.Model.{cut_by}
use Rattle.choice.specs.Choice.{bit}
use Rattle.choice.specs.Moves.{claim_of, RowCuts}
use Rattle.choice.specs.Row.{respan}
use Rattle.choice.proofs.Rows.{map_all, map_step, row_cuts}
use Rattle.choice.proofs.row.cut_row.Goals as goal

pub loop-each-preserved : goal.loop-each-preserved
loop-each-preserved c =
    map_step (respan (λ k s. cut_by (bit k) (claim_of c.args.claim) s)) c.loop-each.each-index c.loop-each.row _ _ (omega arith) c.cut.ensures.value ∙ c.loop-each.invariant

pub returns : goal.returns
returns c =
    let claim = c.args.claim in
    let whole = sym (map_all (respan (λ k s. cut_by (bit k) (claim_of claim) s)) c.loop-each.each-index c.loop-each.row (omega arith)) ∙ c.loop-each.invariant in
    record { after = whole; cuts = subst (RowCuts claim c.args.row.now) (sym whole) (row_cuts claim c.args.row.now) }
