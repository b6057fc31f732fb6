use Rattle.std.proofs.Common.{map, refl, arith}
use Rattle.std.specs.List.{range_with_len}
use Rattle.hextext.specs.Hex.{digit_of}
use Rattle.hextext.proofs.Texts.{digit_read}
use Rattle.hextext.proofs.hex.digit.Goals as goal

pub returns : goal.returns
unfolding digit_of
returns c = record { value = digit_read (map digit_of (range_with_len 0 256)) c.args.c refl (omega arith) }
