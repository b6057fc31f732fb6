use Rattle.std.proofs.Common.{sym, ap, ◌∙◌}
use Rattle.std.proofs.lemmas.List.{with_items_is}
use Rattle.choice.specs.Row.{choices_in}
use Rattle.window.proofs.Walks.{choices_walked}
use Rattle.window.proofs.Window.wind.Goals as goal

pub invariant_of-self-clause-base_choices : goal.invariant_of-self-clause-base_choices
invariant_of-self-clause-base_choices c =
    let w = c.args.self.now in
    let here = with_items_is c.copy_from_slice.new.self c.walk_row.new.row (c.walk_row.auto.row ∙ c.deref_mut.ensures.len) ∙ c.walk_row.ensures.after in
    let copied = c.deref_mut.ensures.value ∙ c.copy_from_slice.ensures.items ∙ c.deref.ensures.value in
    w.base_choices ∙ sym (ap choices_in here ∙ choices_walked w.drift.millionths _ _ ∙ ap choices_in copied ∙ w.mark_choices)

pub invariant_of-self-clause-mark_choices : goal.invariant_of-self-clause-mark_choices
invariant_of-self-clause-mark_choices c =
    let w = c.args.self.now in
    let here = with_items_is c.copy_from_slice.new.self c.walk_row.new.row (c.walk_row.auto.row ∙ c.deref_mut.ensures.len) ∙ c.walk_row.ensures.after in
    let copied = c.deref_mut.ensures.value ∙ c.copy_from_slice.ensures.items ∙ c.deref.ensures.value in
    w.mark_choices ∙ sym (ap choices_in here ∙ choices_walked w.drift.millionths _ _ ∙ ap choices_in copied ∙ w.mark_choices)
