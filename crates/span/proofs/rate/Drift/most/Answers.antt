use Rattle.std.proofs.Common.{arith}
use Rattle.span.proofs.Products.{most_by_share}
use Rattle.span.proofs.rate.Drift.most.Goals as goal

pub returns : goal.returns
returns c = record { value = omega (arith, most_by_share c.args.self.millionths c.args.ticks) }
