use Rattle.std.proofs.Common.{◌∙◌}
use Rattle.sign.proofs.reply.reply_front.Goals as goal

pub returns : goal.returns
returns c =
    let first = c.copy_from_slice.ensures.after ∙ c.to_be_bytes.ensures in
    let second = c.copy_from_slice-2.ensures.after ∙ c.to_be_bytes-2.ensures in
    let third = c.copy_from_slice-3.ensures.after in
    record { value = simp (c.from.ensures, first, second, third) }
