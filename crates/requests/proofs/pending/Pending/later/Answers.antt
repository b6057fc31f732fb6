use Rattle.std.proofs.Common.{ap, arith}
use Rattle.requests.specs.Request.{reach_of}
use Rattle.requests.proofs.Reach.{near_each}
use Rattle.requests.proofs.pending.Pending.later.Goals as goal

pub all_later-requires : goal.all_later-requires
all_later-requires c = near_each _ (omega (arith, c.requires, ap reach_of c.self.view_is))
