use Rattle.std.proofs.Common.{◌≡◌, ◌<◌, vec_items, refl, ap, ◌∙◌, subst, arith}
use Rattle.std.proofs.lemmas.Bool.Decides.{nat_tests}
use Rattle.ledger.specs.Ledger.{Begins}
use Rattle.play.specs.Scene.{latest}
use Rattle.play.proofs.Acts.{begins_world}
use Rattle.play.proofs.scene.Scene.new.Goals as goal

pub returns-clause-begins : goal.returns-clause-begins
returns-clause-begins c =
    let s = c.args.settings.now in
    let cast = c.in_ok-cast.ensures.ok_part in
    let servers : c.in_ok-cast.cast.servers.many ≡ s.servers = rw cast at c.new.ensures.servers in
    let faulty : c.in_ok-cast.cast.servers.faulty ≡ s.faulty = rw cast at c.new.ensures.faulty in
    let liars = rw cast at c.new.ensures.liars in
    let lied = rw cast at c.new.ensures.lied in
    let range = rw cast at c.new.ensures.range in
    let rate = rw c.in_ok-drift.ensures.ok_part at c.new-2.ensures.cases in
    let fewer : s.faulty < s.servers = omega (arith, c.in_ok-cast.cast.fewer, servers, faulty) in
    let row = vec_items c.in_ok-ledger.ledger.row in
    let many = ap (λ s. s.many) c.servers.ensures.value ∙ servers in
    let first : Begins s.servers s.faulty latest row =
    subst (λ n. Begins n s.faulty latest row) many
    (subst (λ f. Begins c.servers.result.many f latest row) (ap (λ s. s.faulty) c.servers.ensures.value ∙ faulty) c.in_ok-ledger.ensures.begins) in
    (grind (arith, nat_tests), begins_world s _ (omega arith) fewer servers faulty liars lied rate.1 refl refl first c.in_ok-ledger.ensures.says (ap (λ s. s.many) c.in_ok-ledger.ensures.servers ∙ many))
