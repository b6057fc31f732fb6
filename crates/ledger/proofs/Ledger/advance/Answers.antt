use Rattle.std.proofs.Common.{ℕ, ap, ◌∙◌}
use Rattle.std.proofs.lemmas.List.{with_items_is}
use Rattle.span.specs.Span.{moved}
use Rattle.span.specs.declared.Span.{Span}
use Rattle.choice.specs.Row.{choices_in, over_row}
use Rattle.choice.proofs.Standing.{choices_over}
use Rattle.ledger.proofs.Ledger.advance.Goals as goal

pub returns-clause-choices : goal.returns-clause-choices
returns-clause-choices c =
    let f : ℕ → Span → Span = λ k s. moved c.args.stride.least c.args.stride.most s in
    ap choices_in (with_items_is c.args.self.now.row c.move_row.new.row (c.move_row.auto.row ∙ c.deref_mut.ensures.len) ∙ c.move_row.ensures.after ∙ ap (over_row f) c.deref_mut.ensures.value)
    ∙ choices_over f _
