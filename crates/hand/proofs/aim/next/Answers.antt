use Rattle.std.proofs.Common.{sym, ap, ◌∙◌}
use Rattle.hand.proofs.Looks.{from, next_found}
use Rattle.hand.proofs.aim.next.Goals as goal

pub returns-in-Some : goal.returns-in-Some
returns-in-Some c = record { value = c.max.ensures ∙ ap (from c.args.time) (sym c.in-Some.is ∙ c.first_ahead.ensures.value) ∙ next_found c.args.time c.args.runs.now }

pub returns-in-None : goal.returns-in-None
returns-in-None c = record { value = ap (from c.args.time) (sym c.in-None.is ∙ c.first_ahead.ensures.value) ∙ next_found c.args.time c.args.runs.now }
