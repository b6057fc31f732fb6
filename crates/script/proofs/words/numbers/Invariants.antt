use Rattle.std.proofs.Common.{◌≡◌, ◌-◌, take, length}
use Rattle.script.specs.Words.{numbers}
use Rattle.script.proofs.Lines.{onto}
use Rattle.script.proofs.words.numbers.Given as goal

-- the numbers so far and those that are left are the whole
abbrev pub invariant-loop-place : goal.invariant-loop-place
invariant-loop-place g l = record {
  long : length l.place-items ≡ g.row.N;
  whole : onto (take l.place-index l.place-items) (numbers (g.row.N - l.place-index) l.rest) ≡ numbers g.row.N l.line;
}
