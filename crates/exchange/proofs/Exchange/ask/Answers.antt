use Rattle.std.proofs.Common.{◌-◌, false, cond, length, Some, None, Ok, sym, ap, ◌∙◌, ap₂, arith}
use Rattle.std.proofs.lemmas.Bool.{lt-leb}
use Rattle.wire.specs.declared.refusal.Refusal.TheVariants.{OutOfRange, Full}
use Rattle.exchange.specs.declared.made.Made.{Made}
use Rattle.exchange.specs.State.{state_of, runs_of}
use Rattle.exchange.specs.Steps.{forgets, is_lost, finished, momented, waiting}
use Rattle.exchange.specs.Calls.{AsksNow}
use Rattle.exchange.proofs.Views.{room_left}
use Rattle.exchange.proofs.Following.{asks_on}
use Rattle.exchange.proofs.Exchange.ask.Goals as goal

pub wait_for-requires : goal.wait_for-requires
wait_for-requires c =
    let x = c.args.self.now in
    let left = room_left (state_of x).book.pending c.if-is_full.ensures.few (sym c.if-is_full.ensures.value) in
    record {
      spare = c.moment-forgot.ensures.spare (omega (arith, ap (λ s. length s.book.pending) c.close_far.ensures.value, left));
      wide = c.moment-forgot.ensures.wide;
    }

pub returns : goal.returns
returns c =
    let x = c.args.self.now in
    let s = state_of x in
    let near = c.close_far.ensures.value in
    let made = c.wait_for.ensures.value ∙ ap (waiting c.args.server c.args.nonce) (c.moment-forgot.ensures.value ∙ ap (momented false None) near) in
    let made_it : Made = record { ticks = c.close_far.new.self.count - c.close_far.new.self.last; forgot = c.moment-forgot.result; lost = c.finish-lost.result } in
    let told : AsksNow c.args.server c.args.nonce s made_it (state_of c.finish-lost.new.self) (runs_of c.finish-lost.new.self) = record {
      none = ap₂ (λ a b. cond a (Some OutOfRange) (cond b (Some Full) None)) (lt-leb s.servers c.args.server (omega (arith, c.if-server-many.false, c.many.ensures.value))) (sym c.if-is_full.ensures.value);
      makes = record {
        ticks = ap (λ t. t.count - t.last) near;
        forgot = c.moment-forgot.ensures.forgot ∙ ap forgets near;
        lost = c.finish-lost.ensures.lost ∙ ap is_lost made;
        state = c.finish-lost.ensures.value ∙ ap finished made;
        says = c.finish-lost.ensures.says;
      };
    } in
    record { asks = told; on = asks_on (state_of x) (runs_of x) x.reach x.window.reach x.order c.args.server c.args.nonce (Ok made_it) (state_of c.finish-lost.new.self) (runs_of c.finish-lost.new.self) told }
