use Rattle.std.proofs.Common.{◌≡◌, ◌+◌, ◌-◌, false, Some, Ok, sym, ap, ◌∙◌, subst, arith}
use Rattle.choice.specs.declared.case.Claim.TheVariants.{AtLeast}
use Rattle.exchange.specs.declared.made.Heard.{Heard}
use Rattle.exchange.specs.State.{state_of, runs_of}
use Rattle.exchange.specs.Steps.{momented, nearer, replied, taken_for, place_of}
use Rattle.exchange.specs.Calls.{answering, Makes, AcceptsNow}
use Rattle.exchange.proofs.Views.{standing_at, in_range_lem}
use Rattle.exchange.proofs.Following.{accepts_on}
use Rattle.exchange.proofs.Exchange.accept.Goals as goal

pub take_reply-asked-requires : goal.take_reply-asked-requires
take_reply-asked-requires c =
    let q = c.args.reading.now in
    let at = standing_at q.server q.nonce (state_of c.args.self.now).book c.in_ok-place.place c.in_ok-place.ensures.cases.2 in
    record { there = at.0; near = at.1 }

pub returns : goal.returns
returns c =
    let x = c.args.self.now in
    let s = state_of x in
    let q = c.args.reading.now in
    let v = q.server in
    let m = q.midpoint in
    let d = q.radius in
    let told = c.in_ok-place.ensures.cases in
    let place : answering q s ≡ c.in_ok-place.place = ap place_of told.2 in
    let range = in_range_lem q s told.1 in
    let low : c.saturating_sub-least.result ≡ m - d = omega (arith, c.saturating_sub-least.ensures, c.from-radius.ensures) in
    let high : c.saturating_add-greatest.result ≡ m + d = omega (arith, c.saturating_add-greatest.ensures, c.from-radius.ensures) in
    let near : state_of c.close_far.new.self ≡ nearer (replied (answering q s) v (m + d) s) =
    c.close_far.ensures.value ∙ ap nearer (c.take_reply-asked.ensures.value ∙ ap (λ p. replied p v c.saturating_add-greatest.result s) (sym place) ∙ ap (λ t. replied (answering q s) v t s) high) in
    let makes = c.make-made.ensures.makes in
    let m_low = subst (λ t. Makes (state_of c.close_far.new.self) (momented false (Some (AtLeast v t)) (state_of c.close_far.new.self)) c.make-made.result (state_of c.make-made.new.self) (runs_of c.make-made.new.self)) low makes in
    let heard : Heard = record { made = c.make-made.result; asked = c.take_reply-asked.result; least = c.saturating_sub-least.result; greatest = c.saturating_add-greatest.result } in
    let all : AcceptsNow q s heard (state_of c.make-made.new.self) (runs_of c.make-made.new.self) = record {
      none = told.0;
      asked = c.take_reply-asked.ensures.asked ∙ ap (λ p. (taken_for p s).count) (sym place);
      least = low;
      greatest = high;
      makes = subst (λ t. Makes t (momented false (Some (AtLeast v (m - d))) t) c.make-made.result (state_of c.make-made.new.self) (runs_of c.make-made.new.self)) near m_low;
    } in
    record { accepts = all; on = accepts_on s (runs_of x) x.reach x.window.reach x.order q (Ok heard) (state_of c.make-made.new.self) (runs_of c.make-made.new.self) all }
