use Rattle.std.proofs.Common.{◌≡◌, sym, ap, ◌∙◌, subst, arith}
use Rattle.span.specs.Span.{earlier}
use Rattle.span.specs.Exact.{BackExact}
use Rattle.span.proofs.Steps.{back_held, back_exact}
use Rattle.span.proofs.Span.earlier.Goals as goal

-- what comes out is the step back of the model, and that is exact
pub returns : goal.returns
returns c =
    let d = c.args.drift.millionths in
    let n = c.args.ticks in
    let is : c.new.result ≡ earlier d n c.args.self =
    c.new.ensures.value
    ∙ back_held d n c.in-Between.lo c.in-Between.hi _ _ _ _ c.stride-stride.ensures.value (omega arith) (omega arith) (omega arith) (omega arith) (omega arith)
    ∙ ap (earlier d n) (sym c.in-Between.is) in
    record { value = is; exact = subst (BackExact d n c.args.self) (sym is) (back_exact d n c.args.self) }
