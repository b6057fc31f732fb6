use Rattle.std.proofs.Common.{get_or, arith}
use Rattle.std.proofs.lemmas.List.Edits.{map_over_more}
use Rattle.std.proofs.lemmas.List.{get_or_default}
use Rattle.requests.specs.Request.{later_by, no_request}
use Rattle.requests.proofs.request.all_later.Goals as goal

pub loop-request-preserved : goal.loop-request-preserved
loop-request-preserved c =
    let l = c.loop-request in
    map_over_more later_by c.args.requests.now l.requests l.request-index (get_or l.requests l.request-index no_request) (omega arith) l.invariant (get_or_default l.requests l.request-index no_request _ (omega arith))
