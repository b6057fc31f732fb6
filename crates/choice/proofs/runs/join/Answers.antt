use Rattle.std.proofs.Common.{◌≡◌, ◌-◌, ◌<◌, ◌≤◌, List, [], ◌∷◌, length, get_or, sym, refl, ◌∙◌, arith}
use Rattle.std.proofs.lemmas.List.{length-set}
use Rattle.std.proofs.lemmas.Bool.{eqb-true, eqb-false}
use Rattle.choice.specs.declared.runs.Run.{Run}
use Rattle.choice.specs.Runs.{joined}
use Rattle.choice.proofs.Joins.{none, join_starts, join_closes, join_grows, join_ends}
use Rattle.choice.proofs.runs.join.Goals as goal
use Rattle.choice.proofs.runs.join.Goals.{then-saturating_sub-gt1, else-saturating_sub-gt1}

nothing_joined : (rs : List Run) → length rs ≡ 0 → [] ≡ joined rs
unfolding joined
nothing_joined [] h = refl
nothing_joined (r ∷ rs) h = absurd (omega arith)

pub returns-then-is_empty : goal.returns-then-is_empty
returns-then-is_empty c = record { joined = nothing_joined c.args.runs.now (eqb-true _ 0 (sym c.if-is_empty.ensures)); within = omega arith }

pub loop-i-init : goal.loop-i-init
loop-i-init c =
    let some = eqb-false _ 0 (sym c.if-is_empty.ensures) in
    (omega arith, join_starts c.args.runs.now (omega arith))

pub loop-i-preserved : goal.loop-i-preserved
loop-i-preserved c =
    let i = c.loop-i.i in
    let runs = c.loop-i.runs in
    elim c.if-saturating_sub-gt1.branch [
      | then-saturating_sub-gt1 w ↦
          (let apart : 1 < (get_or runs i none).lo - c.loop-i.wide.hi = omega (arith, w.if-saturating_sub-gt1.true, c.saturating_sub.ensures) in
          let e = join_closes c.loop-i.n i runs c.loop-i.wide c.loop-i.invariant.0 (omega arith) apart in
          (omega (arith, w.n-is, c.loop-i.invariant.0), cc (e, w.n-is, w.runs-is, w.wide-is, c.loop-i.invariant.1)))
      | else-saturating_sub-gt1 w ↦
          (let beside : (get_or runs i none).lo - c.loop-i.wide.hi ≤ 1 = omega (arith, w.if-saturating_sub-gt1.false, c.saturating_sub.ensures) in
          let e = join_grows c.loop-i.n i runs c.loop-i.wide (omega arith) beside in
          (omega (arith, w.n-is, c.loop-i.invariant.0), cc (e, w.n-is, w.runs-is, w.wide-is, c.loop-i.invariant.1)))
    ]

pub returns : goal.returns
returns c =
    let some = eqb-false _ 0 (sym c.if-is_empty.ensures) in
    let n = c.loop-i.n in
    let runs = c.loop-i.runs in
    record {
      joined = join_ends n c.loop-i.i runs c.loop-i.wide (omega (arith, c.loop-i.invariant.0)) (omega arith) ∙ c.loop-i.invariant.1;
      within = omega (arith, c.loop-i.invariant.0, length-set runs n c.loop-i.wide);
    }
