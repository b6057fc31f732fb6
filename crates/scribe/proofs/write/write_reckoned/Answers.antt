use Rattle.std.proofs.Common.{◌≡◌, ◌*◌, true, length, ◌∙◌, arith}
use Rattle.std.specs.List.{flat_map}
use Rattle.std.proofs.lemmas.Bool.Decides.{nat_tests}
use Rattle.lines.specs.Lines.{run_bytes}
use Rattle.lines.proofs.Runs.{length_runs}
use Rattle.scribe.specs.Room.{room}
use Rattle.scribe.proofs.Putting.{reckoned_written}
use Rattle.scribe.proofs.write.write_reckoned.Goals as goal

pub returns : goal.returns
returns c =
    let runs = c.args.runs.now in
    let fits : room (length runs) (length c.args.out.now) ≡ true = grind (arith, nat_tests) in
    record {
      cases = (
        fits,
        omega arith,
        reckoned_written c.args.count (length runs) c.args.named (16 * length runs) _ _ _ c.args.out.now _ _ _ (flat_map run_bytes runs)
            (c.copy_from_slice.ensures.after ∙ c.to_be_bytes.ensures) c.write_runs.ensures.after
            (c.copy_from_slice-2.ensures.after ∙ c.to_be_bytes-2.ensures) (length_runs runs) (omega arith) (omega arith) (omega arith) (omega arith),
      );
    }
