use Rattle.std.proofs.Common.{◌<◌, length, ap, ◌∙◌, arith}
use Rattle.play.specs.Scene.{view_of, Same}
use Rattle.play.proofs.Acts.{lies_on, may_lie_lem}
use Rattle.play.proofs.scene.Scene.lie.Goals as goal

pub returns : goal.returns
returns c =
    let p = view_of c.args.self.now in
    let w = c.args.word.now in
    let none = c.in_ok-check_lie.ensures.answer in
    let k = may_lie_lem p w none in
    let l = c.lie.ensures in
    let h = c.hear.ensures.heard in
    let who = c.hear.ensures.liars in
    let same : Same p (view_of c.hear.new.self) = record { servers = h.same.servers ∙ ap (λ s. s.many) l.servers; faulty = h.same.faulty ∙ ap (λ s. s.faulty) l.servers; drift = h.same.drift; naming = h.same.naming } in
    let liars = who.liars ∙ l.liars k.0 k.1 in
    let lied = who.lied ∙ l.lied k.0 k.1 in
    let long : w.server < length p.lied = omega (arith, k.0, c.args.self.now.cast.servers.few, c.args.self.now.cast.ten) in
    record {
      answer = none;
      after = record { same = same; liars = liars; lied = lied; count = h.count; truth = h.truth; hand = h.hand };
      same = tt;
      leads = lies_on h.low h.high p (view_of c.hear.new.self) w k.0 long c.hear.new.self.cast.few (omega arith) h.strides h.count h.truth same lied liars h.hears h.says;
    }
