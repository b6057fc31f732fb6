use Rattle.std.proofs.Common.{◌/◌, ◌%◌, ◌≤◌, mul-le-mul_left, arith}
use Rattle.span.specs.Rate.{million}
use Rattle.span.proofs.Products.{cut_in_two, share_below}
use Rattle.span.proofs.rate.Drift.share.Goals as goal

pub overflow_mul-result : goal.overflow_mul-result
overflow_mul-result c =
    let k : c.args.self.millionths ≤ 1000 = omega arith in
    omega (arith, mul-le-mul_left (c.args.ticks / million) k)

pub overflow_add-result : goal.overflow_add-result
overflow_add-result c =
    let k : c.args.self.millionths ≤ 1000 = omega arith in
    omega (arith, mul-le-mul_left (c.args.ticks / million) k, mul-le-mul_left (c.args.ticks % million) k)

pub returns : goal.returns
returns c =
    let d = c.args.self.millionths in
    let n = c.args.ticks in
    let whole = cut_in_two n d in
    record { value = whole; small = omega (arith, share_below d n (omega arith)) }
