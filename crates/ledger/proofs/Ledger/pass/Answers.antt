use Rattle.std.proofs.Common.{rules}
use Rattle.ledger.proofs.Runs.{passes_on}
use Rattle.ledger.proofs.Ledger.pass.Goals as goal

pub returns-clause-passes : goal.returns-clause-passes
returns-clause-passes c = search (rules, passes_on)
