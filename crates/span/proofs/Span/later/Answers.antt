use Rattle.std.proofs.Common.{◌≡◌, sym, ◌∙◌, subst}
use Rattle.span.specs.Span.{later}
use Rattle.span.specs.Exact.{StepExact}
use Rattle.span.proofs.Steps.{stride_later, step_exact}
use Rattle.span.proofs.Span.later.Goals as goal

-- what comes out is the step of the model, and that is exact
pub returns : goal.returns
returns c =
    let d = c.args.drift.millionths in
    let n = c.args.ticks in
    let is : c.moved.result ≡ later d n c.args.self = c.moved.ensures.value ∙ stride_later d n _ _ c.args.self c.stride.ensures.value in
    record { value = is; exact = subst (StepExact d n c.args.self) (sym is) (step_exact d n c.args.self) }
