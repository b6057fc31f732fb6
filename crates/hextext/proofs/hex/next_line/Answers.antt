use Rattle.std.proofs.Common.{length, take, drop, sym, ap, ◌∙◌, arith, rules}
use Rattle.std.proofs.lemmas.Bool.{eqb-false}
use Rattle.hextext.proofs.Texts.{next_is, after_none, after_end}
use Rattle.hextext.proofs.hex.next_line.Goals as goal

pub returns-in-empty : goal.returns-in-empty
returns-in-empty c =
    let text = c.args.text.now in
    let some = eqb-false (length text) 0 (sym c.if-is_empty.ensures) in
    let long = c.line_length.ensures.value in
    record {
      cases =
          next_is text _ _ (omega arith) (c.split_at.ensures.front ∙ ap (λ n. take n text) long)
          (after_none text _ (c.split_at.ensures.back ∙ ap (λ n. drop n text) long) (search rules) (omega (arith, c.split_at.ensures.back_len)));
    }

pub returns-in-len1-up : goal.returns-in-len1-up
returns-in-len1-up c =
    let text = c.args.text.now in
    let some = eqb-false (length text) 0 (sym c.if-is_empty.ensures) in
    let long = c.line_length.ensures.value in
    record {
      cases =
          next_is text _ _ (omega arith) (c.split_at.ensures.front ∙ ap (λ n. take n text) long)
          (after_end text c.split_at.result.1.now (c.split_at.ensures.back ∙ ap (λ n. drop n text) long));
    }
