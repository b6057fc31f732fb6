use Rattle.std.proofs.Common.{arith, rules}
use Rattle.wire.proofs.Parts.{left_by}
use Rattle.wire.proofs.Inputs.{reply_read}
use Rattle.wire.proofs.input.read_reply.Goals as goal

pub returns : goal.returns
returns c =
    let nonce = c.in-Some.ensures.cases in
    let midpoint = c.in-Some-split_number.ensures.cases in
    let radius = c.in-Some-split_number-2.ensures.cases in
    record {
      value =
          reply_read c.args.body.now _ _ _ c.in-Some-split_number-2.rest.now _ _ _ _
          (left_by 1 c.args.body.now (omega arith)) nonce.0 (nonce.1, nonce.2) midpoint.0 (midpoint.1, midpoint.2)
          radius.0 (radius.1, radius.2) c.in-Some-default-empty.ensures.cases.0 (search rules);
    }
