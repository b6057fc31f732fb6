use Rattle.std.proofs.Common.{◌+◌, ◌++◌, take, drop, sym, ap, ◌∙◌, ap₂, arith}
use Rattle.choice.specs.Runs.{runs_in}
use Rattle.choice.proofs.Joins.{gather_put, gather_skip, gather_end}
use Rattle.choice.proofs.runs.gather.Goals as goal
use Rattle.choice.proofs.runs.gather.Goals.{then-case, else-case}

pub loop-case-preserved : goal.loop-case-preserved
loop-case-preserved c =
    let k = c.loop-case.case-index in
    let row = c.args.row.now in
    elim c.if-case.branch [
      | then-case w ↦ (omega (arith, w.n-is, c.loop-case.invariant.0), ap₂ (λ n room. take n room ++ runs_in (drop (k + 1) row)) w.n-is w.room-is ∙ gather_put k c.loop-case.n row c.loop-case.room (omega arith) (omega arith) w.if-case.true ∙ c.loop-case.invariant.1)
      | else-case w ↦ (omega (arith, w.n-is, c.loop-case.invariant.0), ap₂ (λ n room. take n room ++ runs_in (drop (k + 1) row)) w.n-is w.room-is ∙ ap (λ x. take c.loop-case.n c.loop-case.room ++ x) (gather_skip k row (omega arith) w.if-case.false) ∙ c.loop-case.invariant.1)
    ]

pub returns : goal.returns
returns c = record {
  front = sym (gather_end c.loop-case.case-index c.loop-case.n c.args.row.now c.loop-case.room (omega arith)) ∙ c.loop-case.invariant.1;
  within = omega (arith, c.loop-case.invariant.0);
}
