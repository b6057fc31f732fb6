use Rattle.std.proofs.Common.{◌≡◌, not, length, take, drop, unwrap_or, ap, ◌∙◌, rules, tests}
use Rattle.std.specs.List.{position_or_len}
use Rattle.std.proofs.lemmas.Iterator.{YieldsList-from_slice}
use Rattle.std.proofs.lemmas.Iterator.Search.{position_from_yields_List}
use Rattle.script.specs.Words.{is_blank, trimmed}
use Rattle.script.proofs.Lines.{or_end}
use Rattle.script.proofs.words.first_word.Goals as goal

pub returns : goal.returns
returns c =
    let line = c.args.line.now in
    let start : c.unwrap_or-start.result ≡ position_or_len (λ b. not (is_blank b)) line =
    c.unwrap_or-start.ensures ∙ ap (λ o. unwrap_or o (length line)) (position_from_yields_List (λ b. not (is_blank b)) _ _ _ c.position.ensures.ran (YieldsList-from_slice line cc) (λ x b q k. search (rules, tests))) ∙ or_end (λ b. not (is_blank b)) line in
    let rest = c.split_at.result.1.now in
    let cut : rest ≡ trimmed line = c.split_at.ensures.back ∙ ap (λ n. drop n line) start in
    let end : c.unwrap_or-end.result ≡ position_or_len is_blank rest =
    c.unwrap_or-end.ensures ∙ ap (λ o. unwrap_or o (length rest)) (position_from_yields_List is_blank _ _ _ c.position-2.ensures.ran (YieldsList-from_slice rest cc) (λ x b q k. search (rules, tests))) ∙ or_end is_blank rest in
    record {
      word = c.split_at-2.ensures.front ∙ ap (λ n. take n rest) end ∙ ap (λ l. take (position_or_len is_blank l) l) cut;
      rest = c.split_at-2.ensures.back ∙ ap (λ n. drop n rest) end ∙ ap (λ l. drop (position_or_len is_blank l) l) cut;
    }
