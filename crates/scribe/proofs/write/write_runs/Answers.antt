use Rattle.std.proofs.Common.{◌∙◌, arith}
use Rattle.scribe.proofs.Putting.{next_run, runs_all}
use Rattle.scribe.proofs.write.write_runs.Goals as goal

pub loop-i-preserved : goal.loop-i-preserved
loop-i-preserved c =
    next_run c.args.runs.now c.copy_from_slice.new.self c.args.out.now c.loop-i.out c.loop-i.i _ _ c.loop-i-test.true (omega arith)
    (c.copy_from_slice.ensures.after ∙ c.run_bytes.ensures.value) c.loop-i.invariant

pub returns : goal.returns
returns c =
    record {
      after = runs_all c.args.runs.now c.args.out.now c.loop-i.out c.loop-i.i c.requires.fits c.loop-i-test.false (omega arith) c.loop-i.invariant;
    }
