use Rattle.std.proofs.Common.{None, ap₂, ◌∙◌}
use Rattle.span.proofs.Past.{known_past_exact}
use Rattle.choice.proofs.Past.{past_exact, past_never_widens}
use Rattle.past.specs.Event.{said_by, span_then}
use Rattle.past.proofs.Said.{each_exact, said_exact, said_never_widens}
use Rattle.past.proofs.said_of.Goals as goal

pub returns : goal.returns
returns c =
    let d = c.args.drift.millionths in
    let base = c.args.base.now in
    let kept = c.args.moments.now in
    let place = c.args.place in
    let is = c.said_by.ensures.value ∙ ap₂ (λ upto after. said_by (λ k. span_then d k upto after) None base) c.split_at.ensures.front c.split_at.ensures.back in
    record {
      value = is;
      each = each_exact d base kept place;
      exact = said_exact d base kept place _ c.requires.there is;
      known = known_past_exact;
      whole = past_exact;
      never_widens = past_never_widens;
      narrows = said_never_widens;
    }
