use Rattle.std.proofs.Common.{◌≡◌, length}
use Rattle.requests.specs.Book.{closed_by}
use Rattle.requests.proofs.Requests.close.Given as goal

-- what is left to close gives the whole
abbrev pub invariant-loop-place : goal.invariant-loop-place
invariant-loop-place l = closed_by l.why l.self ≡ closed_by l.why l.initial.self

abbrev pub decreases-loop-place : goal.decreases-loop-place
decreases-loop-place l = length l.self.pending
