use Rattle.std.proofs.Common.{◌≡◌, ◌+◌, sym, refl, ap, ◌∙◌, arith}
use Rattle.std.proofs.lemmas.Bool.Decides.{nat_tests}
use Rattle.hand.specs.Hand.{passed}
use Rattle.play.proofs.Acts.{passes_on}
use Rattle.play.proofs.scene.Scene.pass.Goals as goal

pub returns : goal.returns
returns c =
    let truth : c.saturating_add-truth.result ≡ c.args.self.now.truth + c.args.step = omega arith in
    let added = rw c.in_ok-count.ensures.ok_part at c.checked_add.ensures in
    let count : c.in_ok-count.count ≡ c.args.self.now.count + c.args.ticks = added.1 in
    record {
      answer = grind (arith, nat_tests);
      after = record { same = record { servers = refl; faulty = refl; drift = refl; naming = ap (λ s. s.many) c.pass.ensures.same }; liars = record { liars = refl; lied = refl }; count = count; truth = truth; hand = c.passed-self.ensures.value ∙ ap (λ rs. passed rs c.args.ticks c.args.self.now.hand) c.runs.ensures.value };
      same = tt;
      leads = passes_on c.args.ticks c.args.step _ _ _ _ (sym c.if-not-allows.ensures.value) (omega arith) c.stride.ensures.value count truth (record { servers = refl; faulty = refl; drift = refl; naming = ap (λ s. s.many) c.pass.ensures.same }) (record { liars = refl; lied = refl }) c.pass.ensures.passes c.pass.ensures.says;
    }
