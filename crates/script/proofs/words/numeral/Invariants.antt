use Rattle.std.proofs.Common.{◌≡◌, drop}
use Rattle.script.specs.Words.{numeral}
use Rattle.script.proofs.words.numeral.Given as goal

-- what was read and what is still to read are the whole
abbrev pub invariant-loop-c : goal.invariant-loop-c
invariant-loop-c l = numeral l.value (drop l.c-index l.word) ≡ numeral 0 l.word
