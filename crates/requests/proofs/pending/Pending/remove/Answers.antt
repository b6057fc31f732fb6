use Rattle.std.proofs.Common.{◌≡◌, ◌-◌, ◌<◌, [], ◌∷◌, ◌++◌, length, get_or, take, ap, ◌∙◌, append_assoc, arith, length-take}
use borrow.Rule.Slice.PartMut.{post_of}
use Rattle.std.specs.List.{remove}
use Rattle.std.proofs.lemmas.List.{take_at}
use Rattle.std.proofs.lemmas.List.Edits.{length-remove}
use Rattle.std.proofs.lemmas.Slice.{put_mid-rotated}
use Rattle.requests.specs.Request.{no_request}
use Rattle.requests.proofs.pending.Pending.remove.Goals as goal

pub returns-clause-waiting : goal.returns-clause-waiting
returns-clause-waiting c =
    let p = c.self.inside in
    let ps = take p.many p.items in
    let at = c.args.place in
    let rest = post_of 0 p.many p.items in
    let long = length-take p.many p.items in
    let there : at < length ps = omega (arith, c.requires, ap length c.self.view_is) in
    let less : length (remove ps at) ≡ p.many - 1 = omega (arith, length-remove ps at there, c.self.invariant) in
    ap (λ l. take (p.many - 1) (l ++ rest)) (put_mid-rotated at (length ps - at) ps c.rotate_left.new.self no_request there (omega arith) c.rotate_left.ensures.after)
    ∙ ap (take (p.many - 1)) (append_assoc (remove ps at) (get_or ps at no_request ∷ []) rest)
    ∙ take_at (remove ps at) (get_or ps at no_request ∷ [] ++ rest) (p.many - 1) less
    ∙ ap (λ l. remove l at) c.self.view_is
