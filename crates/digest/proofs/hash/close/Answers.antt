-- That one block, or two, end the message with its padding.
use Rattle.std.proofs.Common.{◌≡◌, ◌*◌, ◌%◌, ◌^◌, ◌++◌, take, ap, ◌∙◌}
use Rattle.digest.specs.Sha256.{be64, compressed}
use Rattle.digest.proofs.Blocks.{close_long, close_short, mark}
use Rattle.digest.proofs.hash.close.Goals as goal

pub returns-then-rest-lt-LENGTH_AT : goal.returns-then-rest-lt-LENGTH_AT
returns-then-rest-lt-LENGTH_AT c =
    let block = c.with_length.result in
    let marked : c.marked.result ≡ mark c.args.rest.now = c.marked.ensures in
    let closed : block ≡ take 56 (mark c.args.rest.now) ++ be64 ((c.args.total * 8) % 2 ^ 64)
    = c.with_length.ensures ∙ ap (λ l. take 56 l ++ be64 ((c.args.total * 8) % 2 ^ 64)) marked in
    c.compress.ensures ∙ close_short c.args.state c.args.rest.now block c.args.total c.requires c.if-rest-lt-LENGTH_AT.true closed

pub returns-else-rest-lt-LENGTH_AT : goal.returns-else-rest-lt-LENGTH_AT
returns-else-rest-lt-LENGTH_AT c =
    let first = c.marked-else-rest-lt-LENGTH_AT.result in
    let last = c.with_length-else-rest-lt-LENGTH_AT.result in
    c.compress-else-rest-lt-LENGTH_AT-2.ensures
    ∙ ap (λ s. compressed s last) c.compress-else-rest-lt-LENGTH_AT.ensures
    ∙ close_long c.args.state c.args.rest.now first last c.args.total c.requires c.if-rest-lt-LENGTH_AT.false
    c.marked-else-rest-lt-LENGTH_AT.ensures c.with_length-else-rest-lt-LENGTH_AT.ensures
