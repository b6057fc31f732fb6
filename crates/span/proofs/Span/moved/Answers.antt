use Rattle.std.proofs.Common.{sym, ap, ◌∙◌, arith}
use Rattle.span.specs.Span.{moved}
use Rattle.span.proofs.Steps.{moved_held}
use Rattle.span.proofs.Span.moved.Goals as goal

pub returns : goal.returns
returns c =
    let a = c.args.stride.least in
    let e = c.args.stride.most in
    record {
      value =
          c.new.ensures.value
          ∙ moved_held c.in-Between.lo c.in-Between.hi a e _ _ (omega arith) (omega arith) (omega arith)
          ∙ ap (moved a e) (sym c.in-Between.is);
    }
