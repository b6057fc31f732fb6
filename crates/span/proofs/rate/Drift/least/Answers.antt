use Rattle.std.proofs.Common.{◌-◌, ap, ◌∙◌, arith}
use Rattle.span.proofs.Products.{least_by_share}
use Rattle.span.proofs.rate.Drift.least.Goals as goal

pub returns : goal.returns
returns c =
    let n = c.args.ticks in
    record { value = ap (λ x. n - x) c.share.ensures.value ∙ least_by_share c.args.self.millionths n (omega arith) }
