use Rattle.std.proofs.Common.{◌+◌, sym, refl, ap, ◌∙◌}
use Rattle.std.proofs.lemmas.List.{with_items_is}
use Rattle.choice.specs.Row.{choices_in, over_row}
use Rattle.choice.proofs.Standing.{choices_over}
use Rattle.trail.specs.Trail.{stepped}
use Rattle.window.specs.View.{view_of}
use Rattle.window.proofs.Walks.{view_same}
use Rattle.window.proofs.Stays.{adds_by}
use Rattle.window.proofs.Window.make.Goals as goal

pub returns-clause-adds : goal.returns-clause-adds
returns-clause-adds c =
    let w = c.args.self.now in
    let d = w.drift.millionths in
    let m = c.args.moment in
    let here =
    with_items_is w.here c.step_row.new.row (c.step_row.auto.row ∙ c.deref_mut.ensures.len) ∙ c.step_row.ensures.after ∙ ap (over_row (stepped d m)) c.deref_mut.ensures.value in
    adds_by m (view_of w) _ w.reach (view_same w.servers.many d (w.lag + 1) refl refl here c.push.ensures.kept)

pub invariant_of-self-clause-base_choices : goal.invariant_of-self-clause-base_choices
invariant_of-self-clause-base_choices c =
    let w = c.args.self.now in
    let f = stepped w.drift.millionths c.args.moment in
    let here = with_items_is w.here c.step_row.new.row (c.step_row.auto.row ∙ c.deref_mut.ensures.len) ∙ c.step_row.ensures.after ∙ ap (over_row f) c.deref_mut.ensures.value in
    w.base_choices ∙ sym (ap choices_in here ∙ choices_over f _)

pub invariant_of-self-clause-mark_choices : goal.invariant_of-self-clause-mark_choices
invariant_of-self-clause-mark_choices c =
    let w = c.args.self.now in
    let f = stepped w.drift.millionths c.args.moment in
    let here = with_items_is w.here c.step_row.new.row (c.step_row.auto.row ∙ c.deref_mut.ensures.len) ∙ c.step_row.ensures.after ∙ ap (over_row f) c.deref_mut.ensures.value in
    w.mark_choices ∙ sym (ap choices_in here ∙ choices_over f _)

pub returns-clause-choices : goal.returns-clause-choices
returns-clause-choices c =
    let w = c.args.self.now in
    let f = stepped w.drift.millionths c.args.moment in
    let here = with_items_is w.here c.step_row.new.row (c.step_row.auto.row ∙ c.deref_mut.ensures.len) ∙ c.step_row.ensures.after ∙ ap (over_row f) c.deref_mut.ensures.value in
    ap choices_in here ∙ choices_over f _
