use Rattle.std.proofs.Common.{◌≡◌, ◌^◌, eqb, filter, length, vec_items, sym, ap, ap₂, ◌∙◌, subst, arith}
use lib.Count.{ones}
use Rattle.std.specs.List.{range_with_len}
use Rattle.std.proofs.lemmas.Nat.{one_shl}
use Rattle.std.proofs.lemmas.Result.{IfOk-weaker}
use Rattle.choice.specs.Choice.{chosen}
use Rattle.choice.specs.Stands.{AllFull}
use Rattle.choice.proofs.Table.{worked}
use Rattle.span.proofs.Paths.{bounds_lose_nothing, known_exact, more_faulty_wider}
use Rattle.choice.proofs.Whole.{exact_over_all}
use Rattle.choice.proofs.Fuller.{full_say, no_rule_says_less}
use Rattle.choice.proofs.Chosen.{all_full, chosen_few, chosen_is}
use Rattle.choice.proofs.choices.choices.Goals as goal

pub returns : goal.returns
returns c =
    let n = c.args.servers.many in
    let f = c.args.servers.faulty in
    let end = one_shl c.many.result 16 (omega (arith, c.many.ensures.few)) ∙ ap (λ k. 2 ^ k) c.many.ensures.value in
    let items = IfOk-weaker c.with_ones.result _ (λ v. vec_items v ≡ chosen f (2 ^ n)) (λ v h. h ∙ ap₂ (λ m k. filter (λ c. eqb (ones c) m) (range_with_len 0 k)) (c.from.ensures ∙ c.faulty.ensures.value) end ∙ chosen_is f (2 ^ n)) c.with_ones.ensures.items in
    record {
      items = items;
      all = IfOk-weaker c.with_ones.result _ _ (λ v h r s q l. subst (AllFull r) (sym h) (all_full r n f s q l)) items;
      bounds = bounds_lose_nothing;
      known = known_exact;
      whole = exact_over_all;
      least = no_rule_says_less;
      wider = more_faulty_wider;
      full = full_say;
      worked = worked;
      few = IfOk-weaker c.with_ones.result _ _ (λ v h l. omega (arith, v.ok.0, ap length h, chosen_few n f c.args.servers.few l)) items;
    }
