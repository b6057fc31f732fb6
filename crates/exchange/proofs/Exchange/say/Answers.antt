use Rattle.std.proofs.Common.{take, vec_items, sym, ◌∙◌, subst}
use Rattle.std.proofs.lemmas.List.{with_items_is}
use Rattle.exchange.specs.Stands.{Said}
use Rattle.exchange.proofs.Exchange.say.Goals as goal

pub returns-clause-says : goal.returns-clause-says
returns-clause-says c =
    let row = vec_items c.args.self.now.window.here in
    let after = c.union-many.new.room in
    let is = with_items_is c.resize.new.self after (c.union-many.auto.room ∙ c.deref_mut.ensures.len) in
    subst (Said row) (sym c.truncate.ensures.items)
    (subst (λ runs. Said row (take c.union-many.result runs)) (sym is) (record { apart = c.union-many.ensures.apart; same = c.union-many.ensures.same }))
