use Rattle.std.proofs.Common.{arith, rules}
use Rattle.hand.specs.Steady.{Heard}
use Rattle.hand.proofs.Updates.{heard_none, heard_some, promised}
use Rattle.hand.proofs.Hand.heard.Goals as goal

pub returns-in_default : goal.returns-in_default
returns-in_default c =
    let is = heard_none c.args.runs.now c.args.ticks c.args.self _ (omega arith) c.lost.ensures.value in
    let p = promised (Heard c.args.runs.now c.args.ticks) c.args.self _ is in
    record { value = is; back = p.0; keeps = p.1; stands = p.2 }

pub returns : goal.returns
returns c =
    let is = heard_some c.args.runs.now c.args.ticks _ c.args.self c.stepped-hand.result (omega arith) c.stepped-hand.ensures.value (search rules) in
    let p = promised (Heard c.args.runs.now c.args.ticks) c.args.self _ is in
    record { value = is; back = p.0; keeps = p.1; stands = p.2 }
