-- That the bytes of the words, one after another, are those of the definition.
use Rattle.std.proofs.Common.{[], refl, ap, ◌∙◌, rules}
use Rattle.std.specs.List.{flat_map}
use Rattle.digest.specs.Sha256.{be32, state_bytes}
use Rattle.digest.proofs.Mapped.{mapped}
use Rattle.digest.proofs.state.State.to_bytes.Goals as goal

pub returns : goal.returns
unfolding be32 state_bytes
returns c =
    let words = mapped _ be32 _ _ c.map.result 8 0 [] refl c.map.ensures.items (λ p x y q k. search rules) in
    c.copy_from_slice.ensures.after ∙ c.as_flattened.ensures.value ∙ ap (flat_map (λ x. x)) words
