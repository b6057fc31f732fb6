use Rattle.std.proofs.Common.{true, cond, length, Some, None, Ok, filter, ap, ◌∙◌, subst, arith}
use Rattle.std.proofs.lemmas.Bool.{lt-leb}
use Rattle.wire.specs.declared.refusal.Refusal.TheVariants.{Full}
use Rattle.exchange.specs.State.{state_of, runs_of}
use Rattle.exchange.specs.Steps.{events, is_event, momented}
use Rattle.exchange.specs.Calls.{Makes, MarksNow}
use Rattle.exchange.proofs.Following.{marks_on}
use Rattle.exchange.proofs.Exchange.mark.Goals as goal

pub returns : goal.returns
returns c =
    let x = c.args.self.now in
    let s = state_of x in
    let many = c.count_events.ensures.value ∙ ap (λ w. length (filter (is_event s.count) w)) c.kept.ensures.value in
    let told : MarksNow s c.make.result (state_of c.make.new.self) (runs_of c.make.new.self) = record {
      none = ap (λ b. cond b (Some Full) None) (lt-leb 256 (length (events s)) (omega (arith, many, c.if-count_events-ge-EVENTS.false)));
      makes = subst (λ t. Makes t (momented true None t) c.make.result (state_of c.make.new.self) (runs_of c.make.new.self)) c.close_far.ensures.value c.make.ensures.makes;
    } in
    record { marks = told; on = marks_on (state_of x) (runs_of x) x.reach x.window.reach x.order (Ok c.make.result) (state_of c.make.new.self) (runs_of c.make.new.self) told }
