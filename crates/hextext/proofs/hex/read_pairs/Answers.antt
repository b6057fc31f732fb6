use Rattle.std.proofs.Common.{◌≡◌, ◌/◌, ◌++◌, length, drop, ap, ◌∙◌, arith}
use Rattle.std.proofs.lemmas.List.{take_all}
use Rattle.hextext.specs.Hex.{pairs}
use Rattle.hextext.proofs.Texts.{chunk_below, length_pairs, one_more, pair_read}
use Rattle.hextext.proofs.hex.read_pairs.Goals as goal

pub overflow_mul-out : goal.overflow_mul-out
overflow_mul-out c =
    let below = chunk_below c.as_chunks.result.0.now c.args.text.now c.loop-i.i c.requires.digits c.as_chunks.ensures.front (omega arith) in
    omega (arith, below.0, below.1, c.digit.ensures.value)

pub overflow_add-out : goal.overflow_add-out
overflow_add-out c =
    let below = chunk_below c.as_chunks.result.0.now c.args.text.now c.loop-i.i c.requires.digits c.as_chunks.ensures.front (omega arith) in
    omega (arith, below.0, below.1, c.digit.ensures.value, c.digit-in-loop-i.ensures.value)

pub loop-i-preserved : goal.loop-i-preserved
loop-i-preserved c =
    let text = c.args.text.now in
    let long = length_pairs text in
    let read = pair_read c.as_chunks.result.0.now text c.loop-i.i _ _ c.as_chunks.ensures.front (omega arith) c.digit.ensures.value c.digit-in-loop-i.ensures.value in
    one_more (pairs text) c.args.out.now c.loop-i.out c.loop-i.i _ (omega arith) (omega arith) c.loop-i.invariant read

pub returns : goal.returns
returns c =
    let text = c.args.text.now in
    let long = length_pairs text in
    let i_is : c.loop-i.i ≡ length text / 2 = omega arith in
    record {
      after =
          c.loop-i.invariant
          ∙ ap (λ l. l ++ drop c.loop-i.i c.args.out.now) (take_all c.loop-i.i (pairs text) (omega arith))
          ∙ ap (λ n. pairs text ++ drop n c.args.out.now) i_is;
    }
