use Rattle.std.proofs.Common.{rules}
use Rattle.std.proofs.lemmas.Iterator.{YieldsList-from_slice}
use Rattle.std.proofs.lemmas.Iterator.Search.{any_from_yields_List}
use Rattle.span.specs.Span.{is_in}
use Rattle.choice.specs.Row.{span_in}
use Rattle.choice.proofs.Standing.{may_exact}
use Rattle.choice.proofs.row.may.Goals as goal

pub returns-clause-exact : goal.returns-clause-exact
returns-clause-exact c =
    let t = c.args.t in
    let row = c.args.row.now in
    may_exact t row _ (any_from_yields_List (λ k. is_in t (span_in k)) _ _ c.any.result c.any.ensures.ran (YieldsList-from_slice row cc) (λ x b q k. search rules))
