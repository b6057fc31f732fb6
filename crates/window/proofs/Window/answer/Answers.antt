use Rattle.std.proofs.Common.{rules}
use Rattle.window.specs.View.{view_of}
use Rattle.window.proofs.Stays.{bounds_by}
use Rattle.window.proofs.Window.answer.Goals as goal

pub returns-clause-bounds : goal.returns-clause-bounds
returns-clause-bounds c = bounds_by c.args.since c.args.server c.args.greatest (view_of c.args.self.now) _ c.requires c.args.self.now.reach (search rules)
