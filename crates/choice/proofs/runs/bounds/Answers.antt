use Rattle.std.proofs.Common.{◌≡◌, Some, rules}
use Rattle.choice.specs.Runs.{bounds_of}
use Rattle.choice.proofs.Joins.{bounds_exact}
use Rattle.choice.proofs.runs.bounds.Goals as goal

pub returns-clause-exact : goal.returns-clause-exact
returns-clause-exact c =
    let e : Some (c.in_ok-first.first.now.lo, c.in_ok-last.last.now.hi) ≡ bounds_of c.args.runs.now = search rules in
    bounds_exact c.args.runs.now (Some (c.in_ok-first.first.now.lo, c.in_ok-last.last.now.hi)) e
