-- That one word more keeps the invariant, and that sixteen are the words of the block.
use Rattle.std.proofs.Common.{◌≡◌, ◌/◌, length, ap, ◌∙◌, arith, length-set}
use Rattle.std.specs.Simd.{first_chunks}
use Rattle.std.proofs.lemmas.List.Edits.{fill_by_more}
use Rattle.digest.specs.Sha256.{word_at}
use Rattle.digest.proofs.Chunks.{word_in}
use Rattle.digest.proofs.Extending.{words_from}
use Rattle.digest.proofs.schedule.parse.Goals as goal

pub loop-t-preserved : goal.loop-t-preserved
loop-t-preserved c =
    let m = c.args.block.now in
    let t = c.loop-t.t in
    let sixteen : length m / 4 ≡ 16 = omega arith in
    let fours : c.as_chunks.result.0.now ≡ first_chunks 4 16 m = c.as_chunks.ensures.front ∙ ap (λ n. first_chunks 4 n m) sixteen in
    let value : c.from_be_bytes.result ≡ word_at m t = word_in m c.as_chunks.result.0.now t _ (omega arith) fours c.from_be_bytes.ensures in (
      length-set c.loop-t.w t c.from_be_bytes.result ∙ c.loop-t.invariant.0,
      simp value (fill_by_more (word_at m) c.loop-t.w t 0 (omega arith) c.loop-t.invariant.1),
    )

pub returns : goal.returns
returns c =
    words_from c.loop-t.w c.args.block.now c.loop-t.invariant.0 (λ k h. c.loop-t.invariant.1 k (omega arith))
