use Rattle.choice.proofs.Chosen.{all_full}
use Rattle.choice.proofs.row.new_row.Goals as goal

pub returns-in_err-choices-clause-all : goal.returns-in_err-choices-clause-all
returns-in_err-choices-clause-all c r = all_full r c.args.servers.many c.args.servers.faulty

pub returns-clause-all : goal.returns-clause-all
returns-clause-all c r = all_full r c.args.servers.many c.args.servers.faulty
