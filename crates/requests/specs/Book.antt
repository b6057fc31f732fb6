-- The requests that are pending and those that are closed and known, and what becomes of them.
use Rattle.std.specs.Prelude.{ℕ, ◌+◌, ◌≤◌, Bool, cond, not, ◌&&◌, List, [], ◌∷◌, ◌++◌, All, map, length, filter, remove, Ok, Err, Result, ◌==◌, nat_le, nat_lt, slice_index_or, slice_set}
use Rattle.std.specs.List.{list_any, position_or_len}
use Rattle.requests.specs.declared.request.Request.{Request}
use Rattle.requests.specs.declared.request.Over.{Over}
use Rattle.requests.specs.declared.request.Unfit.{Unfit}
use Rattle.requests.specs.declared.request.Unfit.TheVariants.{Unknown, Late}
use Rattle.requests.specs.Request.{over, is_for, alike, reach_of, known_upto, later_by, closed_now, no_request, renonced}

pub record Book : Type 0 where
  pub pending : List Request
  pub closed : List Request

-- What is true of each book, and of the room for what is closed. Each moment makes at most one request and at most sixteen are pending, so that of those that are pending or were closed in the last k moments there are at most 16 + k.
pub record IsKept (pending closed : List Request) (room : ℕ) : Type 0 where
  pub near : reach_of pending ≤ 65
  pub roomy : 81 ≤ room
  pub few : (k : ℕ) → length pending + known_upto k closed ≤ 16 + k
  pub fresh : All (λ c. c.since ≤ 64) closed

abbrev pub no_book : Book
no_book = record { pending = []; closed = [] }

-- How a nonce of a server stands. It is sought among the pending requests first, the oldest first; one of these that has 64 moments since it is too late, and so is one that is closed.
abbrev pub pending_at : ℕ → List Request → Result ℕ Unfit
pending_at i ps = cond (nat_lt (slice_index_or ps i no_request).since 64) (Ok i) (Err Late)

abbrev pub standing_of : ℕ → List ℕ → Book → Result ℕ Unfit
standing_of server nonce b = cond (nat_lt (position_or_len (is_for server nonce) b.pending) (length b.pending)) (pending_at (position_or_len (is_for server nonce) b.pending) b.pending) (cond (list_any (is_for server nonce) b.closed) (Err Late) (Err Unknown))

-- one is closed
abbrev pub closed_at : ℕ → Book → Book
closed_at i b = record { pending = remove b.pending i; closed = b.closed ++ closed_now (slice_index_or b.pending i no_request) ∷ [] }

-- each that is over is closed, and the others stay
abbrev pub closed_by : Over → Book → Book
closed_by why b = record {
  pending = filter (λ q. not (over why q)) b.pending;
  closed = b.closed ++ map closed_now (filter (over why) b.pending);
}

-- one moment later: closed requests are known for 64 moments
abbrev pub is_known : Request → Bool
is_known c = nat_le c.since 64

abbrev pub ticked : Book → Book
ticked b = record { pending = map later_by b.pending; closed = filter is_known (map later_by b.closed) }

-- one more is asked
abbrev pub asked_for : ℕ → List ℕ → ℕ → Book → Book
asked_for server nonce count b = record { pending = b.pending ++ record { server = server; nonce = nonce; count = count; since = 0 } ∷ []; closed = b.closed }

-- so many are pending that one more would be too many, though those that are far were closed
abbrev pub is_full : List Request → Bool
is_full ps = length ps == 16 && nat_le (reach_of ps) 64

-- The reply to the request at a place is taken for the oldest request of the same server and count that is not far; the nonce of that one stays with the younger.
abbrev pub oldest_like : ℕ → List Request → ℕ
oldest_like i ps = position_or_len (alike (slice_index_or ps i no_request)) ps

abbrev pub answered_at : ℕ → Book → Book
answered_at i b = record {
  pending = remove (slice_set b.pending i (renonced (slice_index_or b.pending (oldest_like i b.pending) no_request).nonce (slice_index_or b.pending i no_request))) (oldest_like i b.pending);
  closed = b.closed;
}

-- there is room for one more request at this moment, and for all that can be closed from now on
abbrev pub Spare : Book → Type 0
Spare b = (k : ℕ) → length b.pending + known_upto k b.closed + 1 ≤ 16 + k
