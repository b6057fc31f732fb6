use Rattle.std.proofs.Common.{◌≡◌}
use Rattle.choice.specs.Choice.{choice_of}
use Rattle.choice.specs.Row.{named_by}
use Rattle.choice.proofs.row.named.Given as goal

abbrev pub invariant-loop-server : goal.invariant-loop-server
invariant-loop-server l = l.named ≡ choice_of (λ v. named_by v l.row) l.server
