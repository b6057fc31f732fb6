use Rattle.std.proofs.Common.{◌≡◌, cond, ltb, eqb, length, Some, None, ◌∙◌, rules}
use borrow.Author.Tests.{tests}
use Rattle.std.proofs.lemmas.Iterator.{YieldsList-from_slice}
use Rattle.std.proofs.lemmas.Iterator.Search.{position_from_yields_List}
use Rattle.hextext.specs.Hex.{line_length}
use Rattle.hextext.proofs.Texts.{first_end}
use Rattle.hextext.proofs.hex.line_length.Goals as goal

pub returns-clause-value : goal.returns-clause-value
returns-clause-value c =
    let text = c.args.text.now in
    let place : c.position.result ≡ cond (ltb (line_length text) (length text)) (Some (line_length text)) None
    = position_from_yields_List (λ x. eqb x 10) _ _ c.position.result c.position.ensures.ran (YieldsList-from_slice text cc) (λ x b q k. search (rules, tests)) in
    c.unwrap_or.ensures ∙ first_end text c.position.result place
