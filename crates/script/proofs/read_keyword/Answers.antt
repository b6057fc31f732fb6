use Rattle.std.proofs.Common.{codes, sym, ap, rules}
use Rattle.std.proofs.lemmas.Slice.Eq.{text_from_reads}
use Rattle.script.specs.Script.{keyword_of}
use Rattle.script.proofs.read_keyword.Goals as goal

pub returns-in-settings : goal.returns-in-settings
returns-in-settings c = record { value = sym (ap keyword_of (text_from_reads c.args.word.now (codes "settings") (search rules) (search rules))) }
