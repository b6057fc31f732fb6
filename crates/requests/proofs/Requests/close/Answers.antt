use Rattle.std.proofs.Common.{sym, ap, ◌∙◌}
use Rattle.requests.specs.Book.{closed_by}
use Rattle.requests.proofs.Closing.{close_step, close_end}
use Rattle.requests.proofs.Requests.close.Goals as goal

pub loop-place-preserved : goal.loop-place-preserved
loop-place-preserved c =
    ap (closed_by c.args.why) c.close_at.ensures.value ∙ close_step c.args.why c.loop-place.self c.in-Some.place (sym c.in-Some.ensures.value) ∙ c.loop-place.invariant

pub returns : goal.returns
returns c = record { value = sym (close_end c.args.why c.loop-place.self (sym c.in_default.ensures.value)) ∙ c.loop-place.invariant }
