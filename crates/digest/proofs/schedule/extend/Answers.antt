-- That one word more keeps the invariant, and that 64 are the whole schedule.
use Rattle.std.proofs.Common.{◌-◌, get_or, ◌∙◌, arith, length-set}
use Rattle.digest.proofs.Extending.{extended_all, extended_more}
use Rattle.digest.proofs.Sums.{sum4}
use Rattle.digest.proofs.schedule.extend.Goals as goal

pub loop-t-preserved : goal.loop-t-preserved
loop-t-preserved c =
    let w = c.loop-t.w in
    let t = c.loop-t.t in
    let sum = sum4 c.small_sigma1.result (get_or w (t - 7) 0) c.small_sigma0.result (get_or w (t - 16) 0) in (
      length-set w t _ ∙ c.loop-t.invariant.0,
      extended_more w t _ c.loop-t.invariant.0 c.loop-t.auto.t (omega arith) (cc) ∙ c.loop-t.invariant.1,
    )

pub returns : goal.returns
returns c =
    extended_all c.loop-t.w _ c.loop-t.t c.loop-t.invariant.0 c.loop-t-test.false (omega arith) c.loop-t.invariant.1
