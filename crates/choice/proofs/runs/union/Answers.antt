use Rattle.std.proofs.Common.{◌≡◌, ℕ, ◌-◌, ◌≤◌, List, length, take, Decides, sym, ap, ◌∙◌, subst, arith}
use lib.Seq.{take-append-le}
use Rattle.span.specs.Span.{is_in}
use Rattle.span.specs.World.{World}
use Rattle.choice.specs.declared.case.Case.{Case}
use Rattle.choice.specs.declared.runs.Run.{Run}
use Rattle.choice.specs.Row.{any_span}
use Rattle.choice.specs.Runs.{in_runs, runs_in, Apart, Ordered, RunsExact}
use Rattle.choice.proofs.Joins.{runs_any, runs_few, runs_ordered}
use Rattle.choice.proofs.Standing.{may_row}
use Rattle.choice.proofs.runs.union.Goals as goal

exact : (row : List Case) (rs : List Run) → ((t : ℕ) → in_runs t rs ≡ any_span (is_in t) row) → RunsExact row rs
exact row rs h r es s t = subst (λ b. Decides b (World r es t)) (sym (h t)) (may_row r es row s t)

-- all that is promised of the runs, whatever stands behind them in the room
whole : (row : List Case) (n : ℕ) (room : List Run) {rs : List Run} → take n room ≡ rs → Apart 0 rs → ((t : ℕ) → in_runs t rs ≡ any_span (is_in t) row) → n ≤ length row → record { apart : Apart 0 (take n room); same : (t : ℕ) → in_runs t (take n room) ≡ any_span (is_in t) row; exact : RunsExact row (take n room); few : n ≤ length row }
whole row n room e apart same few = record {
  apart = subst (Apart 0) (sym e) apart;
  same = λ t. ap (in_runs t) e ∙ same t;
  exact = exact row (take n room) (λ t. ap (in_runs t) e ∙ same t);
  few = few;
}

pub returns : goal.returns
returns c =
    let row = c.args.row.now in
    let n = c.gather-n.result in
    let front : take (n - 0) c.gather-n.new.room ≡ runs_in row = ap (λ k. take k c.gather-n.new.room) (omega arith) ∙ c.gather-n.ensures.front in
    let ordered = subst Ordered (sym front) (runs_ordered row) in
    let long = ap length front in
    let short : c.tidy.result ≤ length c.tidy.new.runs = omega (arith, c.tidy.ensures.within, c.tidy.auto.runs) in
    let same : (t : ℕ) → in_runs t (take c.tidy.result c.tidy.new.runs) ≡ any_span (is_in t) row = λ t. c.tidy.ensures.same ordered t ∙ ap (in_runs t) front ∙ runs_any t row in
    whole row _ _ (take-append-le c.tidy.result c.tidy.new.runs _ short) (c.tidy.ensures.apart ordered) same (omega (arith, c.tidy.ensures.within, long, runs_few row))
