use Rattle.std.proofs.Common.{◌≡◌, ◌+◌, ◌-◌, Ok, Err, take, sym, ap, ◌∙◌, arith, length-set}
use Rattle.std.proofs.lemmas.List.{take_all, take_more_set}
use Rattle.std.proofs.lemmas.Result.{err_from_is_err_and}
use Rattle.script.specs.Words.{number, numbers}
use Rattle.script.proofs.Lines.{onto, one_more, none_more, last_read, too_much}
use Rattle.script.proofs.words.numbers.Goals as goal

pub returns-in_err-value : goal.returns-in_err-value
returns-in_err-value g c =
    let l = c.loop-place in
    let p = err_from_is_err_and c.from_residual.result c.from_residual.ensures.1 in
    record { value = p.1 ∙ ap Err p.2 ∙ sym (none_more _ (g.row.N - l.place-index - 1) (take l.place-index l.place-items) l.rest.now _ (omega arith) c.in_err-value.ensures.cases) ∙ l.invariant.whole }

pub loop-place-preserved : goal.loop-place-preserved
loop-place-preserved g c =
    let l = c.loop-place in
    let value = c.in_ok-value.value in
    let after = c.in_ok-value.after.now in
    let read : number l.rest.now ≡ Ok (value, after) = c.in_ok-value.ensures.cases in
    let left = g.row.N - (l.place-index + 1) in
    record {
      long = length-set l.place-items l.place-index value ∙ l.invariant.long;
      whole =
          ap (λ xs. onto xs (numbers left after)) (take_more_set l.place-items l.place-index value (omega arith))
          ∙ sym (one_more _ left (take l.place-index l.place-items) l.rest.now after value (omega arith) read)
          ∙ l.invariant.whole;
    }

pub returns-in_err-ended : goal.returns-in_err-ended
returns-in_err-ended g c =
    let l = c.loop-place in
    let p = err_from_is_err_and c.from_residual-in_err-ended.result c.from_residual-in_err-ended.ensures.1 in
    record { value = p.1 ∙ ap Err p.2 ∙ sym (too_much _ (take l.place-index l.place-items) l.rest.now _ (omega arith) (sym c.in_err-ended.ensures.value)) ∙ l.invariant.whole }

pub returns : goal.returns
returns g c =
    let l = c.loop-place in
    record { value = ap Ok (sym (take_all l.place-index l.place-items (omega arith))) ∙ sym (last_read _ (take l.place-index l.place-items) l.rest.now (omega arith) (sym c.in_ok-ended.ensures.value)) ∙ l.invariant.whole }
