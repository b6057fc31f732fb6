-- That the whole blocks, and then the last ones, give the hash.
use Rattle.std.proofs.Common.{◌≡◌, ◌+◌, ◌*◌, ◌/◌, ◌++◌, length, drop, sym, ap, ◌∙◌, arith, rules}
use Rattle.std.specs.List.{fold}
use Rattle.std.specs.Simd.{first_chunks}
use Rattle.std.proofs.lemmas.Iterator.{YieldsList-from_slice}
use Rattle.std.proofs.lemmas.Iterator.Consumers.{fold_from_yields_List}
use Rattle.digest.specs.Sha256.{absorbed_all, compressed, ending, padding, state_bytes}
use Rattle.digest.proofs.Blocks.{absorbed_chunks, padding_mod}
use Rattle.digest.proofs.hash.finish.Goals as goal

pub returns : goal.returns
unfolding ending
returns c =
    let m = c.args.bytes.now in
    let n = length m / 64 in
    let tail = padding (c.args.done + length m) in
    let blocks = YieldsList-from_slice (first_chunks 64 n m) cc in
    let state : c.fold-state.result ≡ fold compressed c.args.state (first_chunks 64 n m) = fold_from_yields_List _ compressed c.args.state _ c.fold-state.ensures.ran blocks (λ s b t q k. search rules) in
    let rest : c.as_chunks.result.1.now ≡ drop (n * 64) m = c.as_chunks.ensures.back in
    c.to_bytes.ensures
    ∙ ap state_bytes
    (
    c.close.ensures
    ∙ ap (λ l. absorbed_all c.fold-state.result (c.as_chunks.result.1.now ++ l)) (padding_mod (c.args.done + length m))
    ∙ ap (λ s. absorbed_all s (c.as_chunks.result.1.now ++ tail)) state
    ∙ ap (λ l. absorbed_all (fold compressed c.args.state (first_chunks 64 n m)) (l ++ tail)) rest
    ∙ sym (absorbed_chunks n c.args.state m tail (omega arith))
    )
