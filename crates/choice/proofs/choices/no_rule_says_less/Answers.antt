use Rattle.choice.proofs.Whole.{says_no_less}
use Rattle.choice.proofs.choices.no_rule_says_less.Goals as goal

pub returns : goal.returns
returns g c = record { least = says_no_less g.R.Rule.says g.R.Rule.blames }
