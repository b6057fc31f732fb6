use Rattle.std.proofs.Common.{rules}
use Rattle.sign.proofs.Fronts.{put_together}
use Rattle.sign.proofs.reply.signed_reply.Goals as goal

pub returns : goal.returns
returns g c =
    let p = put_together g.S.Signatures.valid _ c.args.reading.now _ _ c.with_signature.result (search rules) c.reply_front-front.ensures.value c.with_signature.ensures.value c.sign-signature.ensures.accepted in
    record { value = p.value; front = p.front; accepted = p.accepted }
