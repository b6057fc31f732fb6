use Rattle.std.proofs.Common.{refl, ap, ◌∙◌}
use Rattle.choice.specs.Runs.{in_runs, bounds_of}
use Rattle.hand.specs.Hand.{sound_in}
use Rattle.play.specs.Scene.{view_of, wide}
use Rattle.play.proofs.Acts.{always_said, names_all}
use Rattle.play.proofs.scene.Scene.moment.Goals as goal

pub returns : goal.returns
returns c =
    let self = view_of c.args.self.now in
    let said = c.contains.ensures.value ∙ ap (in_runs c.args.self.now.truth) c.runs-runs.ensures.value in
    record {
      shown = record {
        count = refl;
        truth = refl;
        said = said;
        width = c.width.ensures.value ∙ ap (λ rs. wide (bounds_of rs)) c.runs-runs.ensures.value;
        named = names_all self c.named.result c.named.ensures.exact;
        hand = c.shown.ensures.value;
        sound = c.is_sound.ensures.value ∙ ap (λ rs. sound_in rs c.args.self.now.hand.time) c.runs-runs.ensures.value;
      };
      always = λ rs es ts h. said ∙ always_said rs es ts self h;
    }
