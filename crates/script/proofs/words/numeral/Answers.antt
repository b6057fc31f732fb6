use Rattle.std.proofs.Common.{Err, sym, ap, ◌∙◌, arith}
use Rattle.std.proofs.lemmas.Result.{err_from_is_err_and}
use Rattle.script.proofs.Lines.{numeral_err, numeral_ok, numeral_ends}
use Rattle.script.proofs.words.numeral.Goals as goal

pub returns-in_err-value : goal.returns-in_err-value
returns-in_err-value c =
    let p = err_from_is_err_and c.from_residual.result c.from_residual.ensures.1 in
    let e = numeral_err c.loop-c.value c.args.word.now c.loop-c.c-index _ (omega arith) (sym c.in_err-value.ensures.value) in
    record { value = p.1 ∙ ap Err p.2 ∙ sym e ∙ c.loop-c.invariant }

pub loop-c-preserved : goal.loop-c-preserved
loop-c-preserved c =
    sym (numeral_ok c.loop-c.value c.args.word.now c.loop-c.c-index _ (omega arith) (sym c.in_ok-value.ensures.value)) ∙ c.loop-c.invariant

pub returns : goal.returns
returns c = record { value = sym (numeral_ends c.loop-c.value c.args.word.now c.loop-c.c-index (omega arith)) ∙ c.loop-c.invariant }
