use Rattle.std.proofs.Common.{arith, rules}
use Rattle.lines.proofs.Lines.{no_run, one_run}
use Rattle.lines.proofs.line.next_run.Goals as goal

pub returns-in_err-lo : goal.returns-in_err-lo
returns-in_err-lo c = let none = no_run c.args.runs.now (omega (arith, c.in_err-lo.ensures.cases)) in search rules

pub returns-in_err-hi : goal.returns-in_err-hi
returns-in_err-hi c =
    let none = no_run c.args.runs.now (omega (arith, c.in_ok-lo.ensures.cases.2, c.in_err-hi.ensures.cases)) in search rules

pub returns : goal.returns
returns c =
    let lo = c.in_ok-lo.ensures.cases in
    let hi = c.in_ok-hi.ensures.cases in
    record { cases = one_run c.args.runs.now _ c.in_ok-hi.rest.now _ _ lo.0 (lo.1, lo.2) hi.0 (hi.1, hi.2) }
