use Rattle.std.proofs.Common.{rules}
use Rattle.window.specs.View.{view_of}
use Rattle.window.proofs.Stays.{settles_by}
use Rattle.window.proofs.Window.settle.Goals as goal

pub returns-then-since-eq0-clause-keeps : goal.returns-then-since-eq0-clause-keeps
returns-then-since-eq0-clause-keeps c = settles_by c.args.since (view_of c.args.self.now) _ c.requires c.args.self.now.reach (search rules)

pub returns-clause-keeps : goal.returns-clause-keeps
returns-clause-keeps c = settles_by c.args.since (view_of c.args.self.now) _ c.requires c.args.self.now.reach (search rules)
