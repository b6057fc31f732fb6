-- How long runs are as bytes.
use Rattle.std.proofs.Common.{◌≡◌, ◌*◌, List, [], ◌∷◌, length, refl, arith}
use Rattle.std.specs.List.{flat_map}
use Rattle.lines.specs.Lines.{run_bytes}
use Rattle.choice.specs.declared.runs.Run.{Run}

-- a run takes sixteen bytes
pub length_runs : (rs : List Run) → length (flat_map run_bytes rs) ≡ 16 * length rs
length_runs [] = refl
length_runs (r ∷ rs) = let e = length_runs rs in omega arith
