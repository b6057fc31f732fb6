use Rattle.std.proofs.Common.{◌^◌, [], sym, ap, ◌∙◌, subst}
use Rattle.choice.specs.Choice.{chosen}
use Rattle.choice.specs.Row.{row_of}
use Rattle.window.specs.Stands.{Parts}
use Rattle.window.proofs.Walks.{view_same}
use Rattle.window.proofs.Stays.{begins_by}
use Rattle.window.proofs.Window.new.Goals as goal

pub returns-clause-begins : goal.returns-clause-begins
returns-clause-begins c r s f l p q =
    let n = c.args.servers.many in
    let d = c.args.drift.millionths in
    let cs = chosen c.args.servers.faulty (2 ^ n) in
    let row = ap (λ s. row_of (λ _. s) cs) c.upto-ever.ensures.value in
    let base = c.in_ok-base.ensures.row ∙ row in
    let mark = c.in_ok-mark.ensures.items ∙ c.deref.ensures.value ∙ base in
    let here = c.in_ok-here.ensures.items ∙ c.deref-2.ensures.value ∙ base in
    let e = view_same n d 0 base mark here c.in_ok-ring.ensures.kept in
    subst (Parts r []) (sym e) (begins_by n d c.args.latest cs r s p q (c.in_ok-base.ensures.all r s f l))
