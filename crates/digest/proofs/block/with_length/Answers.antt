-- That the copy leaves the front and then the length.
use Rattle.std.proofs.Common.{◌≡◌, ◌++◌, length, take, ap, ◌∙◌, arith, rules}
use Rattle.digest.specs.Sha256.{be64}
use Rattle.digest.proofs.Writes.{put_end}
use Rattle.digest.proofs.block.with_length.Goals as goal

pub returns : goal.returns
unfolding be64
returns c =
    let long : length c.args.block ≡ 64 = search rules in
    put_end 56 8 c.args.block c.copy_from_slice.new.self (omega arith)
    ∙ ap (λ l. take 56 c.args.block ++ l) (c.copy_from_slice.ensures.after ∙ c.to_be_bytes.ensures)
