use Rattle.std.proofs.Common.{◌/◌, ◌^◌, eqb, sym, ap, ◌∙◌, arith}
use Rattle.std.proofs.lemmas.Nat.{and_mask}
use Rattle.std.proofs.lemmas.Bool.{le-ltb}
use Rattle.choice.proofs.Bits.{bit_beyond}
use Rattle.choice.proofs.case.is_faulty.Goals as goal

pub returns-then-server-lt16 : goal.returns-then-server-lt16
returns-then-server-lt16 c = record { value = ap (λ x. eqb x 1) (and_mask (c.args.choice / 2 ^ c.args.server) 1) }

pub returns-else-server-lt16 : goal.returns-else-server-lt16
returns-else-server-lt16 c = record { value = le-ltb c.args.server 16 (omega arith) ∙ sym (bit_beyond c.args.choice 16 c.args.server (omega arith) (omega arith)) }
