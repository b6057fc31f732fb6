use Rattle.std.proofs.Common.{◌^◌, take, vec_items, sym, ap, ◌∙◌, subst}
use Rattle.std.proofs.lemmas.List.{with_items_is}
use Rattle.choice.specs.Choice.{chosen}
use Rattle.choice.specs.Row.{row_of}
use Rattle.ledger.specs.Ledger.{Says}
use Rattle.ledger.proofs.Runs.{begins}
use Rattle.ledger.proofs.Ledger.new.Goals as goal

pub returns-clause-begins : goal.returns-clause-begins
returns-clause-begins c =
    let s = c.args.servers in
    let cs = chosen s.faulty (2 ^ s.many) in
    begins s.many s.faulty c.args.latest cs _ c.in_ok-row.ensures.all (c.in_ok-row.ensures.row ∙ ap (λ span. row_of (λ _. span) cs) c.upto.ensures.value)

pub returns-clause-says : goal.returns-clause-says
returns-clause-says c =
    let row = vec_items c.in_ok-row.row in
    let n = c.union-many.result in
    let after = c.union-many.new.room in
    let is = with_items_is c.in_ok-runs.runs after (c.union-many.auto.room ∙ c.deref_mut.ensures.len) in
    let told = c.union-many.ensures in
    subst (Says row) (sym c.truncate.ensures.items)
    (subst (λ runs. Says row (take n runs)) (sym is)
    (subst (λ row. Says row (take n after)) c.deref.ensures.value (record { apart = told.apart; same = told.same; exact = told.exact })))
