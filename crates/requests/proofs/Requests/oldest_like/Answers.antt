use Rattle.std.proofs.Common.{length, sym, ap, ◌∙◌, subst, ◌<◌}
use Rattle.requests.proofs.Firsts.{oldest_or_place}
use Rattle.requests.proofs.Requests.oldest_like.Goals as goal

pub returns : goal.returns
returns c =
    let ps = c.args.self.now.pending in
    let found = oldest_or_place ps _ c.args.place c.first_like.result c.first_like.ensures.value (c.all-all.ensures.value ∙ ap (λ b. b.pending) c.self.view_is) c.requires in
    record {
      value = λ near. c.unwrap_or.ensures ∙ found.0 near;
      within = subst (λ n. n < length ps) (sym c.unwrap_or.ensures) found.1;
    }
