use Rattle.hextext.proofs.Texts.{digits_written}
use Rattle.hextext.proofs.hex.write_digits.Goals as goal

pub loop-i-preserved : goal.loop-i-preserved
loop-i-preserved c =
    digits_written c.args.bytes.now c.args.out.now c.loop-i.out c.loop-i.i _ _ c.loop-i-test.true c.requires.fits
    c.loop-i.invariant c.char_of.ensures.value c.char_of-in-loop-i.ensures.value
