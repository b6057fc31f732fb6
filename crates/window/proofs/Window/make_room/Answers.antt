use Rattle.std.proofs.Common.{rules}
use Rattle.window.specs.View.{view_of}
use Rattle.window.proofs.Stays.{makes_room_by}
use Rattle.window.proofs.Window.make_room.Goals as goal

pub returns-then-full-clause-keeps : goal.returns-then-full-clause-keeps
returns-then-full-clause-keeps c = makes_room_by c.args.count (view_of c.args.self.now) _ c.args.self.now.reach c.requires (search rules)

pub returns-else-full-clause-keeps : goal.returns-else-full-clause-keeps
returns-else-full-clause-keeps c = makes_room_by c.args.count (view_of c.args.self.now) _ c.args.self.now.reach c.requires (search rules)
