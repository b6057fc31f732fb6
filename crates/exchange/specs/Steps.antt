-- What each call makes of the state, and when it is refused.
use Rattle.std.specs.Prelude.{ℕ, ◌-◌, ◌^◌, Bool, true, false, cond, not, ◌&&◌, List, length, Some, None, Ok, Err, filter, position, Option, Result, ◌==◌, nat_le, nat_lt, slice_index_or}
use Rattle.span.specs.Span.{ceiling}
use Rattle.choice.specs.declared.case.Claim.{Claim}
use Rattle.choice.specs.declared.case.Claim.TheVariants.{AtMost, AtLeast}
use Rattle.choice.specs.Row.{any_span, has_times}
use Rattle.trail.specs.declared.Moment.{Moment}
use Rattle.window.specs.View.{View}
use Rattle.window.specs.Steps.{made_by, settled, aged, is_full, roomy, answered, anew, said_at}
use Rattle.requests.specs.declared.request.Request.{Request}
use Rattle.requests.specs.declared.request.Over.TheVariants.{Age, Far, Any}
use Rattle.requests.specs.declared.request.Unfit.{Unfit}
use Rattle.requests.specs.declared.request.Unfit.TheVariants.{Unknown, Late}
use Rattle.requests.specs.Request.{reach_of, no_request}
use Rattle.requests.specs.Book.{Book, standing_of, closed_by, ticked, asked_for, oldest_like, answered_at}
use Rattle.requests.specs.Book as book
use Rattle.wire.specs.declared.input.Reading.{Reading}
use Rattle.wire.specs.declared.refusal.Refusal.{Refusal}
use Rattle.wire.specs.declared.refusal.Refusal.TheVariants.{OutOfRange, UnknownNonce, TooLate, ClockWentBack, Full}
use Rattle.exchange.specs.State.{State}

-- with another window, and with other requests
abbrev pub with_window : View → State → State
with_window w s = record { servers = s.servers; window = w; book = s.book; last = s.last; count = s.count }

abbrev pub with_book : Book → State → State
with_book b s = record { servers = s.servers; window = s.window; book = b; last = s.last; count = s.count }

-- the moment that is made now
abbrev pub moment_now : Bool → Option Claim → State → Moment
moment_now marked claim s = record { count = s.count; ticks = s.count - s.last; marked = marked; claim = claim }

-- The mark is at the oldest pending request, and there is room for one more moment.
abbrev pub marked : State → View
marked s = settled (reach_of s.book.pending) s.window

-- one moment more, of all that is kept and of the requests
abbrev pub momented : Bool → Option Claim → State → State
momented mark claim s = record {
  servers = s.servers;
  window = made_by (moment_now mark claim s) (roomy s.count (marked s));
  book = ticked s.book;
  last = s.count;
  count = s.count;
}

-- a moment that is not older than two hours had to go for it
abbrev pub forgets : State → Bool
forgets s = is_full (aged s.count (marked s))

-- no choice has a span
abbrev pub is_lost : State → Bool
is_lost s = not (any_span has_times s.window.here)

-- If no world is left, all requests are closed, what was kept is forgotten, and true time is anything up to the ceiling.
abbrev pub restarted : State → State
restarted s = with_window (anew s.window) (with_book (closed_by Any s.book) s)

abbrev pub finished : State → State
finished s = cond (is_lost s) (restarted s) s

-- The clock is set, and requests that are too old by it are closed.
abbrev pub clocked : ℕ → State → State
clocked count s = record { servers = s.servers; window = s.window; book = closed_by (Age count) s.book; last = s.last; count = count }

-- a showing is put off while 64 moments have come since the oldest pending request
abbrev pub is_put_off : State → Bool
is_put_off s = nat_lt 64 (reach_of s.book.pending)

-- requests with 64 moments since are closed
abbrev pub nearer : State → State
nearer s = with_book (closed_by Far s.book) s

-- one more request waits
abbrev pub waiting : ℕ → List ℕ → State → State
waiting server nonce s = with_book (asked_for server nonce s.count s.book) s

-- the request that the reply to the one at a place is taken for
abbrev pub taken_for : ℕ → State → Request
taken_for place s = slice_index_or s.book.pending (oldest_like place s.book.pending) no_request

-- it is answered: the greatest that the reply says stands at its asking
abbrev pub replied : ℕ → ℕ → ℕ → State → State
replied place server greatest s = record {
  servers = s.servers;
  window = answered (taken_for place s).since (AtMost server greatest) s.window;
  book = answered_at place s.book;
  last = s.last;
  count = s.count;
}

-- The moments of the calls, before it is asked whether a world is left.
abbrev pub shown_by : ℕ → State → State
shown_by count s = momented false None (clocked count s)

abbrev pub asked_by : ℕ → List ℕ → State → State
asked_by server nonce s = waiting server nonce (momented false None (nearer s))

abbrev pub marked_by : State → State
marked_by s = momented true None (nearer s)

abbrev pub accepted_by : ℕ → ℕ → ℕ → ℕ → State → State
accepted_by place server least greatest s = momented false (Some (AtLeast server least)) (nearer (replied place server greatest s))

-- When a call is refused: a count below the last.
abbrev pub show_refusal : ℕ → State → Option Refusal
show_refusal count s = cond (nat_lt count s.count) (Some ClockWentBack) None

-- a server that isn't there, or a seventeenth pending request
abbrev pub ask_refusal : ℕ → State → Option Refusal
ask_refusal server s = cond (nat_le s.servers server) (Some OutOfRange) (cond (book.is_full s.book.pending) (Some Full) None)

-- an event is kept for an hour: those that are kept
abbrev pub an_hour : ℕ
an_hour = 3600000000

abbrev pub is_event : ℕ → Moment → Bool
is_event count m = m.marked && nat_le (count - m.count) an_hour

abbrev pub events : State → List Moment
events s = filter (is_event s.count) s.window.kept

abbrev pub mark_refusal : State → Option Refusal
mark_refusal s = cond (nat_le 256 (length (events s))) (Some Full) None

-- a server that isn't there, a midpoint or a radius out of range; a nonce that wasn't sent to this server or was answered; too late
abbrev pub in_range : Reading → State → Bool
in_range q s = nat_lt q.server s.servers && nat_le q.midpoint ceiling && nat_le q.radius (2 ^ 31)

abbrev pub refusal_for : Unfit → Refusal
refusal_for Unknown = UnknownNonce
refusal_for Late = TooLate

abbrev pub by_standing : Result ℕ Unfit → Option Refusal
by_standing (Ok place) = None
by_standing (Err unfit) = Some (refusal_for unfit)

abbrev pub reply_refusal : Reading → State → Option Refusal
reply_refusal q s = cond (in_range q s) (by_standing (standing_of q.server q.nonce s.book)) (Some OutOfRange)

-- the place of the pending request that has this nonce of this server
abbrev pub place_of : Result ℕ Unfit → ℕ
place_of (Ok place) = place
place_of (Err unfit) = 0

-- the event of a count, if it is kept
abbrev pub is_this : ℕ → ℕ → Moment → Bool
is_this event count m = is_event count m && m.count == event

-- what is said of it
abbrev pub said_if : Option ℕ → State → Option (ℕ × ℕ)
said_if None s = None
said_if (Some place) s = said_at place s.window

abbrev pub event_said : ℕ → State → Option (ℕ × ℕ)
event_said event s = said_if (position (is_this event s.count) s.window.kept) s
