use Rattle.std.proofs.Common.{◌≡◌, ◌++◌, map, take, drop}
use Rattle.requests.specs.Request.{later_by}
use Rattle.requests.proofs.request.all_later.Given as goal

-- the first are later, the others as they were
abbrev pub invariant-loop-request : goal.invariant-loop-request
invariant-loop-request l =
    l.requests ≡ map later_by (take l.request-index l.initial.requests) ++ drop l.request-index l.initial.requests
