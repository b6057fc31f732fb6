use Rattle.std.proofs.Common.{length, position, sym, ap, ◌∙◌, arith}
use Rattle.past.proofs.Said.{said_never_widens}
use Rattle.wire.specs.declared.refusal.Refusal.TheVariants.{UnknownEvent}
use Rattle.exchange.specs.State.{state_of, runs_of}
use Rattle.exchange.specs.Steps.{is_this}
use Rattle.exchange.proofs.Saying.{event_told, found_by}
use Rattle.exchange.proofs.Exchange.event.Goals as goal

pub returns-in_err-place-clause-narrows : goal.returns-in_err-place-clause-narrows
returns-in_err-place-clause-narrows c = said_never_widens

pub returns : goal.returns
returns c =
    let x = c.args.self.now in
    let s = state_of x in
    let at = found_by c.find_event.result UnknownEvent c.in_ok-place.place (sym c.ok_or.ensures.value ∙ c.in_ok-place.was) ∙ c.find_event.ensures.value ∙ ap (position (is_this c.args.count s.count)) c.kept.ensures.value in
    let told = event_told c.args.count s (runs_of x) c.in_ok-place.place c.said_of.result c.ok_or-2.result c.ok_or-2.ensures.value at c.said_of.ensures.value c.said_of.ensures.exact in
    record { value = told.0; exact = told.1; few = omega (arith, c.kept.ensures.few, ap length c.kept.ensures.value); narrows = said_never_widens }
