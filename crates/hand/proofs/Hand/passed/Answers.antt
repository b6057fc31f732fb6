use Rattle.std.proofs.Common.{sym}
use Rattle.hand.specs.Steady.{Passed}
use Rattle.hand.proofs.Updates.{passed_lost, passed_steps, promised}
use Rattle.hand.proofs.Hand.passed.Goals as goal

pub returns-then-goes_freely : goal.returns-then-goes_freely
returns-then-goes_freely c =
    let is = passed_lost c.args.runs.now c.args.ticks c.args.self _ (sym c.if-goes_freely.ensures.value) c.lost.ensures.value in
    let p = promised (Passed c.args.runs.now c.args.ticks) c.args.self _ is in
    record { value = is; back = p.0; keeps = p.1; stands = p.2 }

pub returns : goal.returns
returns c =
    let is = passed_steps c.args.runs.now c.args.ticks c.args.self _ (sym c.if-goes_freely.ensures.value) c.stepped.ensures.value in
    let p = promised (Passed c.args.runs.now c.args.ticks) c.args.self _ is in
    record { value = is; back = p.0; keeps = p.1; stands = p.2 }
