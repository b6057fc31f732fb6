-- Requests: when one is over, which one a reply is for, and how many are known.
use Rattle.std.specs.Prelude.{ℕ, ◌+◌, ◌-◌, max, Bool, true, ◌&&◌, List, [], ◌∷◌, count_by, ◌==◌, nat_le, nat_lt}
use Rattle.std.specs.Str.{bytes_eq}
use Rattle.requests.specs.declared.request.Request.{Request}
use Rattle.requests.specs.declared.request.Over.{Over}
use Rattle.requests.specs.declared.request.Over.TheVariants.{Age, Far, Any}

-- a request is pending for ten seconds, and for 64 moments
abbrev pub ten_seconds : ℕ
ten_seconds = 10000000

abbrev pub over : Over → Request → Bool
over (Age count) q = nat_lt ten_seconds (count - q.count)
over Far q = nat_le 64 q.since
over Any q = true

-- this nonce was sent to this server
abbrev pub is_for : ℕ → List ℕ → Request → Bool
is_for server nonce q = q.server == server && bytes_eq q.nonce nonce

-- a pending request that is not far, of the same server and count
abbrev pub alike : Request → Request → Bool
alike p q = q.server == p.server && q.count == p.count && nat_lt q.since 64

-- how many moments one has to go back to reach them all
unfoldable pub reach_of : List Request → ℕ
reach_of [] = 0
reach_of (q ∷ qs) = max (q.since + 1) (reach_of qs)

-- how many were closed in the last k moments
abbrev pub known_upto : ℕ → List Request → ℕ
known_upto k cs = count_by (λ c. nat_le c.since k) cs

-- one moment later
abbrev pub later_by : Request → Request
later_by q = record q { since = q.since + 1 }

-- closed just now
abbrev pub closed_now : Request → Request
closed_now q = record q { since = 0 }

-- what stands past the end of a list
abbrev pub no_request : Request
no_request = record { server = 0; nonce = []; count = 0; since = 0 }

-- with another nonce
abbrev pub renonced : List ℕ → Request → Request
renonced nonce q = record q { nonce = nonce }
