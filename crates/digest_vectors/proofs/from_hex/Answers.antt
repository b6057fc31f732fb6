-- That the invariant holds, that two characters more keep it, and that it is the answer in the end.
use Rattle.std.proofs.Common.{◌≤◌, ◌++◌, length, vec_items, ap, rules, true-eqb}
use Rattle.digest_vectors.specs.Hex.{hex_of}
use Rattle.digest_vectors.proofs.Pushes.{hex_all, hex_next}
use Rattle.digest_vectors.proofs.from_hex.Goals as goal

pub loop-left-init : goal.loop-left-init
unfolding hex_of
loop-left-init c = ap (λ l. hex_of l ++ c.args.text.now) c.new-bytes.ensures.items

pub loop-left-preserved : goal.loop-left-preserved
loop-left-preserved c =
    let two : 2 ≤ length c.loop-left.left.now = search rules in
    let high = c.in_ok-x.ensures in
    let low = c.in_ok-y.ensures in
    hex_next (vec_items c.loop-left.bytes) c.loop-left.left.now c.args.text.now (vec_items c.push.new.self)
    c.in_ok-x.x c.in_ok-y.y two high.0 low.0 high.1 low.1
    c.in_ok-push.ensures.items c.loop-left.invariant

pub returns : goal.returns
returns c =
    hex_all (vec_items c.loop-left.bytes) c.loop-left.left.now c.args.text.now
    (true-eqb (length c.loop-left.left.now) 0 c.if-not-is_empty.ensures) c.loop-left.invariant
