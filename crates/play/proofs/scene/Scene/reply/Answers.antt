use Rattle.play.specs.Scene.{view_of}
use Rattle.play.proofs.Acts.{replies_on, true_word}
use Rattle.play.proofs.scene.Scene.reply.Goals as goal

pub returns : goal.returns
returns c =
    let none = c.in_ok-check_reply.ensures.answer in
    let k = true_word (view_of c.args.self.now) c.args.word.now none in
    let h = c.hear.ensures.heard in
    record {
      answer = none;
      after = record { same = h.same; liars = c.hear.ensures.liars; count = h.count; truth = h.truth; hand = h.hand };
      same = tt;
      leads = replies_on h.low h.high _ _ c.args.word.now k.0 k.1 h.strides h.count h.truth h.same c.hear.ensures.liars h.hears h.says;
    }
