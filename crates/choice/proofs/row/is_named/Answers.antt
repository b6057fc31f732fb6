use Rattle.std.proofs.Common.{sym, ap, ◌∙◌, arith}
use Rattle.std.proofs.lemmas.List.{drop_all}
use Rattle.choice.specs.Row.{named_by}
use Rattle.choice.proofs.Rows.{named_hit, named_miss}
use Rattle.choice.proofs.Standing.{named_exact}
use Rattle.choice.proofs.row.is_named.Goals as goal

pub choices-preserved : goal.choices-preserved
choices-preserved c =
    let i = c.choices.case-index in
    (c.choices.invariant.0, sym (named_miss c.args.server i c.args.row.now (omega arith) (sym c.if-not-is_silent.ensures.value)) ∙ c.choices.invariant.1)

pub returns-after-choices : goal.returns-after-choices
returns-after-choices c =
    let row = c.args.row.now in
    let whole = c.choices.invariant.0 ∙ ap (named_by c.args.server) (sym (drop_all c.choices.case-index row (omega arith))) ∙ c.choices.invariant.1 in
    record { value = whole; exact = named_exact c.args.server row _ whole }

pub returns-then-not-is_silent : goal.returns-then-not-is_silent
returns-then-not-is_silent c =
    let i = c.choices.case-index in
    let whole = sym (named_hit c.args.server i c.args.row.now (omega arith) (sym c.if-not-is_silent.ensures.value)) ∙ c.choices.invariant.1 in
    record { value = whole; exact = named_exact c.args.server c.args.row.now _ whole }
