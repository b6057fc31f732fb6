-- That so many bytes are an array, and that the number is that of all the bytes.
use Rattle.std.proofs.Common.{ap, ◌∙◌, arith}
use Rattle.wire.proofs.number.split_number.Goals as goal

pub split_first_chunk-requires : goal.split_first_chunk-requires
split_first_chunk-requires g c = omega (arith, g.met.T.Number.fits)

pub returns : goal.returns
returns g c =
    let there = c.in_ok-front.ensures.cases in
    record {
      cases = (c.from_bytes.ensures ∙ ap g.T.Number.number there.0 ∙ g.met.T.Number.of_front c.args.bytes.now, there.1, there.2);
    }
