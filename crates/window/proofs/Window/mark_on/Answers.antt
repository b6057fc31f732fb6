use Rattle.std.proofs.Common.{ap, ◌∙◌}
use Rattle.std.proofs.lemmas.List.{with_items_is}
use Rattle.choice.specs.Row.{choices_in}
use Rattle.window.proofs.Walks.{choices_walked}
use Rattle.window.proofs.Window.mark_on.Goals as goal

pub invariant_of-self-clause-mark_choices : goal.invariant_of-self-clause-mark_choices
invariant_of-self-clause-mark_choices c =
    let w = c.args.self.now in
    let mark = with_items_is w.mark c.walk_row.new.row (c.walk_row.auto.row ∙ c.deref_mut.ensures.len) ∙ c.walk_row.ensures.after in
    ap choices_in mark ∙ choices_walked w.drift.millionths _ _ ∙ ap choices_in c.deref_mut.ensures.value ∙ w.mark_choices
