use Rattle.std.proofs.Common.{◌≡◌, true, drop}
use Rattle.choice.specs.Row.{named_by}
use Rattle.choice.proofs.row.is_named.Given as goal

-- what is left to look at decides
abbrev pub invariant-choices : goal.invariant-choices
invariant-choices l = (l.named ≡ true) × (named_by l.server (drop l.case-index l.row) ≡ named_by l.server l.row)
