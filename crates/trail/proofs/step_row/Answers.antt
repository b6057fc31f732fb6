use Rattle.std.proofs.Common.{get_or, sym, ap, ◌∙◌, subst, arith}
use Rattle.span.specs.Span.{moved}
use Rattle.choice.specs.Row.{respan}
use Rattle.choice.proofs.Rows.{map_all, map_step, no_case}
use Rattle.trail.specs.Trail.{stepped, RowSteps}
use Rattle.trail.proofs.Walks.{row_steps, step_case}
use Rattle.trail.proofs.step_row.Goals as goal

pub loop-case-preserved : goal.loop-case-preserved
loop-case-preserved c =
    let d = c.args.drift.millionths in
    let m = c.args.moment in
    let k = get_or c.loop-case.row c.loop-case.case-index no_case in
    map_step (respan (stepped d m)) c.loop-case.case-index c.loop-case.row _ _ (omega arith) (c.new.ensures.value ∙ step_case d _ _ m k _ _ c.stride-stride.ensures.value (c.moved-span.ensures.value ∙ ap (moved c.stride-stride.result.least c.stride-stride.result.most) c.span.ensures.value) c.cut_by.ensures.value) ∙ c.loop-case.invariant

pub returns : goal.returns
returns c =
    let d = c.args.drift.millionths in
    let m = c.args.moment in
    let row = c.args.row.now in
    let e = sym (map_all (respan (stepped d m)) c.loop-case.case-index c.loop-case.row (omega arith)) ∙ c.loop-case.invariant in
    record { after = e; steps = subst (RowSteps d m row) (sym e) (row_steps d m row) }
