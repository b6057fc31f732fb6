use Rattle.std.proofs.Common.{arith}
use Rattle.wire.specs.Numbers.{number2}
use Rattle.wire.proofs.Parts.{left_by}
use Rattle.lines.proofs.Lines.{reckoned_read}
use Rattle.lines.proofs.line.read_reckoned.Goals as goal

pub returns : goal.returns
unfolding number2
returns c =
    let count = c.in-Some.ensures.cases in
    let last = c.in-Some-split_last_chunk.ensures.cases in
    record {
      value =
          reckoned_read c.args.body.now c.in-Some.rest.now _ c.in-Some-split_last_chunk.runs.now c.in-Some-split_last_chunk.named.now _ c.from_be_bytes.result
          count.0 (count.1, count.2) (left_by 1 c.in-Some.rest.now (omega arith)) last.0 last.1 last.2
          c.if-runs-many.false c.from_be_bytes.ensures;
    }
