use Rattle.std.proofs.Common.{rules}
use Rattle.std.proofs.lemmas.Iterator.{YieldsList-from_slice}
use Rattle.std.proofs.lemmas.Iterator.Search.{any_from_yields_List}
use Rattle.choice.specs.Row.{has_times, span_in}
use Rattle.choice.proofs.Standing.{left_exact}
use Rattle.choice.proofs.row.any_left.Goals as goal

pub returns-clause-exact : goal.returns-clause-exact
returns-clause-exact c =
    let row = c.args.row.now in
    left_exact row _ (any_from_yields_List (λ k. has_times (span_in k)) _ _ c.any.result c.any.ensures.ran (YieldsList-from_slice row cc) (λ x b q k. search rules))
