use Rattle.std.proofs.Common.{sym, ap, ◌∙◌}
use Rattle.std.proofs.lemmas.List.{with_items_is}
use Rattle.span.specs.Span.{ceiling, upto}
use Rattle.choice.specs.Row.{choices_in}
use Rattle.choice.proofs.Standing.{choices_over}
use Rattle.window.specs.View.{view_of}
use Rattle.window.specs.Steps.{forgets_all}
use Rattle.window.proofs.Walks.{view_same}
use Rattle.window.proofs.Stays.{restarts_by}
use Rattle.window.proofs.Window.begin_anew.Goals as goal

pub returns-clause-restarts : goal.returns-clause-restarts
returns-clause-restarts c =
    let w = c.args.self.now in
    let base = with_items_is w.base c.forget_all.new.row (c.forget_all.auto.row ∙ c.deref_mut.ensures.len) ∙ c.forget_all.ensures.after ∙ ap forgets_all c.deref_mut.ensures.value in
    let mark = with_items_is w.mark c.forget_all-2.new.row (c.forget_all-2.auto.row ∙ c.deref_mut-2.ensures.len) ∙ c.forget_all-2.ensures.after ∙ ap forgets_all c.deref_mut-2.ensures.value in
    let here = with_items_is w.here c.forget_all-3.new.row (c.forget_all-3.auto.row ∙ c.deref_mut-3.ensures.len) ∙ c.forget_all-3.ensures.after ∙ ap forgets_all c.deref_mut-3.ensures.value in
    restarts_by (view_of w) _ (view_same w.servers.many w.drift.millionths 0 base mark here c.clear.ensures.kept)

pub invariant_of-self-clause-base_choices : goal.invariant_of-self-clause-base_choices
invariant_of-self-clause-base_choices c =
    let w = c.args.self.now in
    let base = with_items_is w.base c.forget_all.new.row (c.forget_all.auto.row ∙ c.deref_mut.ensures.len) ∙ c.forget_all.ensures.after ∙ ap forgets_all c.deref_mut.ensures.value in
    let here = with_items_is w.here c.forget_all-3.new.row (c.forget_all-3.auto.row ∙ c.deref_mut-3.ensures.len) ∙ c.forget_all-3.ensures.after ∙ ap forgets_all c.deref_mut-3.ensures.value in
    ap choices_in base ∙ choices_over (λ c s. upto ceiling) _ ∙ w.base_choices ∙ sym (ap choices_in here ∙ choices_over (λ c s. upto ceiling) _)

pub invariant_of-self-clause-mark_choices : goal.invariant_of-self-clause-mark_choices
invariant_of-self-clause-mark_choices c =
    let w = c.args.self.now in
    let mark = with_items_is w.mark c.forget_all-2.new.row (c.forget_all-2.auto.row ∙ c.deref_mut-2.ensures.len) ∙ c.forget_all-2.ensures.after ∙ ap forgets_all c.deref_mut-2.ensures.value in
    let here = with_items_is w.here c.forget_all-3.new.row (c.forget_all-3.auto.row ∙ c.deref_mut-3.ensures.len) ∙ c.forget_all-3.ensures.after ∙ ap forgets_all c.deref_mut-3.ensures.value in
    ap choices_in mark ∙ choices_over (λ c s. upto ceiling) _ ∙ w.mark_choices ∙ sym (ap choices_in here ∙ choices_over (λ c s. upto ceiling) _)

pub returns-clause-choices : goal.returns-clause-choices
returns-clause-choices c =
    let w = c.args.self.now in
    let here = with_items_is w.here c.forget_all-3.new.row (c.forget_all-3.auto.row ∙ c.deref_mut-3.ensures.len) ∙ c.forget_all-3.ensures.after ∙ ap forgets_all c.deref_mut-3.ensures.value in
    ap choices_in here ∙ choices_over (λ c s. upto ceiling) _
