use Rattle.std.proofs.Common.{◌+◌, drop, sym, ap, ◌∙◌, subst}
use Rattle.trail.specs.Trail.{walked, RowWalks}
use Rattle.trail.proofs.Walks.{walk_more, walk_end, row_walks}
use Rattle.trail.proofs.walk_row.Goals as goal

pub loop-moment-preserved : goal.loop-moment-preserved
loop-moment-preserved c =
    let d = c.args.drift.millionths in
    let rest = drop (c.loop-moment.moment-index + 1) c.args.moments.now in
    ap (walked d rest) c.step_row.ensures.after
    ∙ sym (walk_more d c.args.moments.now c.loop-moment.moment-index c.loop-moment.row c.loop-moment-test.true)
    ∙ c.loop-moment.invariant

pub returns : goal.returns
returns c =
    let d = c.args.drift.millionths in
    let w = c.args.moments.now in
    let row = c.args.row.now in
    let e = sym (walk_end d w c.loop-moment.moment-index c.loop-moment.row c.loop-moment-test.false) ∙ c.loop-moment.invariant in
    record { after = e; walks = subst (RowWalks d w row) (sym e) (row_walks d w row) }
