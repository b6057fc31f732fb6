use Rattle.std.proofs.Common.{false, cond, Some, None, Ok, sym, ap, ◌∙◌, subst, arith}
use Rattle.std.proofs.lemmas.Bool.{le-ltb, lt-ltb}
use Rattle.requests.specs.Request.{reach_of}
use Rattle.wire.specs.declared.refusal.Refusal.TheVariants.{ClockWentBack}
use Rattle.exchange.specs.State.{state_of, runs_of}
use Rattle.exchange.specs.Steps.{is_put_off, momented}
use Rattle.exchange.specs.Calls.{Makes, PutsOff, ShowsNow}
use Rattle.exchange.proofs.Following.{shows_on}
use Rattle.exchange.proofs.Exchange.show.Goals as goal

pub returns : goal.returns
returns c =
    let x = c.args.self.now in
    let s = state_of x in
    let clock = c.set_clock.ensures.value in
    let told : ShowsNow c.args.count s c.make.result (state_of c.make.new.self) (runs_of c.make.new.self) = record {
      none = ap (λ b. cond b (Some ClockWentBack) None) (le-ltb c.args.count s.count c.if-count-self.false);
      on = ap is_put_off (sym clock) ∙ le-ltb 64 (reach_of (state_of c.set_clock.new.self).book.pending) (omega (arith, c.reach.ensures.value, c.if-reach-gt64.false));
      makes = subst (λ t. Makes t (momented false None t) c.make.result (state_of c.make.new.self) (runs_of c.make.new.self)) clock c.make.ensures.makes;
    } in
    record { shows = told; on = shows_on (state_of x) (runs_of x) x.reach x.window.reach x.order c.args.count (Ok (Some c.make.result)) (state_of c.make.new.self) (runs_of c.make.new.self) told }

pub returns-then-reach-gt64 : goal.returns-then-reach-gt64
returns-then-reach-gt64 c =
    let x = c.args.self.now in
    let s = state_of x in
    let clock = c.set_clock.ensures.value in
    let told : PutsOff c.args.count s (runs_of x) (state_of c.set_clock.new.self) (runs_of c.set_clock.new.self) = record {
      none = ap (λ b. cond b (Some ClockWentBack) None) (le-ltb c.args.count s.count c.if-count-self.false);
      off = ap is_put_off (sym clock) ∙ lt-ltb 64 (reach_of (state_of c.set_clock.new.self).book.pending) (omega (arith, c.reach.ensures.value, c.if-reach-gt64.true));
      state = clock;
      runs = c.set_clock.ensures.runs;
    } in
    record { shows = told; on = shows_on s (runs_of x) x.reach x.window.reach x.order c.args.count (Ok None) (state_of c.set_clock.new.self) (runs_of c.set_clock.new.self) told }
