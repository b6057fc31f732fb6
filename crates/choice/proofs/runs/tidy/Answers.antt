use Rattle.std.proofs.Common.{◌≡◌, ℕ, sym, ap, ◌∙◌, subst, arith}
use Rattle.choice.specs.Runs.{in_runs, Ordered, Apart, joined}
use Rattle.choice.proofs.Sorts.{joined_sorted}
use Rattle.choice.proofs.runs.tidy.Goals as goal

pub returns : goal.returns
returns c =
    let runs = c.args.runs.now in
    let sorted = c.sort_unstable.new.self in
    let whole : Ordered runs → Apart 0 (joined sorted) × ((t : ℕ) → in_runs t (joined sorted) ≡ in_runs t runs) = λ o. joined_sorted runs sorted o c.sort_unstable.ensures.permutation c.sort_unstable.ensures.sorted in
    record {
      apart = λ o. subst (Apart 0) (sym c.join.ensures.joined) (whole o).0;
      same = λ o t. ap (in_runs t) c.join.ensures.joined ∙ (whole o).1 t;
      within = omega (arith, c.join.ensures.within, c.sort_unstable.ensures.len);
    }
