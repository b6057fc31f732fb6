-- That no bit is set exactly where all bytes are equal.
use Rattle.std.proofs.Common.{◌≡◌, sym, ap, ◌∙◌, rules, eq-eqb, eqb-true}
use Rattle.std.specs.List.{fold, zip}
use Rattle.std.proofs.lemmas.List.{take_all}
use Rattle.std.proofs.lemmas.Iterator.{YieldsList-from_slice, YieldsList-from_zip}
use Rattle.std.proofs.lemmas.Iterator.Consumers.{fold_from_yields_List}
use Rattle.digest.proofs.Differing.{marked, none_marked, same_marked}
use Rattle.digest.proofs.equal.same.Goals as goal

pub returns : goal.returns
returns g c =
    let a = c.args.a.now in
    let b = c.args.b.now in
    let pairs = YieldsList-from_zip (YieldsList-from_slice a (search (rules, take_all))) (YieldsList-from_slice b (search (rules, take_all))) in
    let value : c.fold-differs.result ≡ fold marked 0 (zip a b) = fold_from_yields_List _ marked 0 _ c.fold-differs.ensures.ran pairs (λ d p e q k. search rules) in
    record {
      decides = (
        λ yes. (none_marked a b 0 (search rules) (sym value ∙ eqb-true c.fold-differs.result 0 yes)).1,
        λ same. eq-eqb c.fold-differs.result 0 (value ∙ ap (λ l. fold marked 0 (zip l b)) same ∙ same_marked b),
      );
    }
