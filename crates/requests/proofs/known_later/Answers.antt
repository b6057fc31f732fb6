use Rattle.std.proofs.Common.{map, filter, ap, ◌∙◌, rules}
use Rattle.std.proofs.lemmas.Fn.{filter_same}
use Rattle.std.proofs.lemmas.List.{with_items_is}
use Rattle.requests.specs.Request.{later_by}
use Rattle.requests.specs.Book.{is_known}
use Rattle.requests.proofs.known_later.Goals as goal

pub returns-clause-items : goal.returns-clause-items
returns-clause-items c =
    let v = c.args.closed.now in
    let later = with_items_is v c.all_later.new.requests (c.all_later.auto.requests ∙ c.deref_mut.ensures.len) ∙ c.all_later.ensures.after ∙ ap (map later_by) c.deref_mut.ensures.value in
    filter_same _ is_known _ (λ x b f' k. search rules) _ _ c.retain.ensures.filtered ∙ ap (filter is_known) later
