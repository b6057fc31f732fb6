use Rattle.std.proofs.Common.{ℕ, ap, ◌∙◌}
use Rattle.std.proofs.lemmas.List.{with_items_is}
use Rattle.span.specs.Model.{cut_by}
use Rattle.choice.specs.Choice.{bit}
use Rattle.choice.specs.Moves.{claim_of}
use Rattle.span.specs.declared.Span.{Span}
use Rattle.choice.specs.Row.{choices_in, over_row}
use Rattle.choice.proofs.Standing.{choices_over}
use Rattle.ledger.proofs.Ledger.cut.Goals as goal

pub returns-clause-choices : goal.returns-clause-choices
returns-clause-choices c =
    let f : ℕ → Span → Span = λ k s. cut_by (bit k) (claim_of c.args.claim) s in
    ap choices_in (with_items_is c.args.self.now.row c.cut_row.new.row (c.cut_row.auto.row ∙ c.deref_mut.ensures.len) ∙ c.cut_row.ensures.after ∙ ap (over_row f) c.deref_mut.ensures.value)
    ∙ choices_over f _
