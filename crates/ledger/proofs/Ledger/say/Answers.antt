use Rattle.std.proofs.Common.{take, vec_items, sym, ◌∙◌, subst}
use Rattle.std.proofs.lemmas.List.{with_items_is}
use Rattle.ledger.specs.Ledger.{Says}
use Rattle.ledger.proofs.Ledger.say.Goals as goal

pub returns-clause-says : goal.returns-clause-says
returns-clause-says c =
    let row = vec_items c.args.self.now.row in
    let n = c.union-many.result in
    let after = c.union-many.new.room in
    let is = with_items_is c.resize.new.self after (c.union-many.auto.room ∙ c.deref_mut.ensures.len) in
    let told = c.union-many.ensures in
    subst (Says row) (sym c.truncate.ensures.items)
    (subst (λ runs. Says row (take n runs)) (sym is)
    (subst (λ row. Says row (take n after)) c.deref.ensures.value (record { apart = told.apart; same = told.same; exact = told.exact })))
