use Rattle.std.proofs.Common.{◌≡◌, ◌*◌, ◌++◌, take, drop}
use Rattle.std.specs.List.{flat_map}
use Rattle.lines.specs.Lines.{run_bytes}
use Rattle.scribe.proofs.write.write_runs.Given as goal

-- the runs so far are written, and nothing else
abbrev pub invariant-loop-i : goal.invariant-loop-i
invariant-loop-i l = l.out ≡ flat_map run_bytes (take l.i l.runs) ++ drop (16 * l.i) l.initial.out
