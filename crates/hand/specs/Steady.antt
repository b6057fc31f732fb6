-- What is promised of the hand, whatever comes and for as long as it goes.
use Rattle.std.specs.Prelude.{◌≡◌, ℕ, ◌+◌, ◌<◌, ◌≤◌, min, Bool, true, false, not, ◌&&◌, ◌||◌, ◌⊎◌, List, [], ◌∷◌, ◌++◌, length, is_some, Some, None, Decides, slice_index_or}
use Rattle.std.specs.List.{IsFirstBest, AllByRecursion}
use Rattle.span.specs.Span.{ceiling}
use Rattle.choice.specs.declared.runs.Run.{Run}
use Rattle.choice.specs.Runs.{in_runs, Apart}
use Rattle.hand.specs.declared.Hand.{Hand}
use Rattle.hand.specs.Hand.{longer, middle, wanted, reach, fresh, lost, heard, passed}

-- every time that may be is behind t
abbrev pub Behind : List Run → ℕ → Type 0
Behind rs t = (v : ℕ) → in_runs v rs ≡ true → v < t

-- t is the least time that may be
abbrev pub Least : List Run → ℕ → Type 0
Least rs t = (in_runs t rs ≡ true) × ((v : ℕ) → in_runs v rs ≡ true → t ≤ v)

-- no time that may be is above the ceiling
abbrev pub Upto : List Run → Type 0
Upto rs = (v : ℕ) → in_runs v rs ≡ true → v ≤ ceiling

-- t is the middle of the longest run, of the first of these if there are several, and it may be
pub record Middle (rs : List Run) (t : ℕ) : Type 0 where
  pub place : ℕ
  pub best : IsFirstBest longer rs (length rs) place
  pub value : (d : Run) → t ≡ middle (slice_index_or rs place d)
  pub may : in_runs t rs ≡ true

-- from t the hand went past its reach to u, and had to: u may be, and no time from the reach on up to u may
abbrev pub Forced : List Run → ℕ → ℕ → ℕ → Type 0
Forced rs n t u = (reach n t < u) × (in_runs u rs ≡ true) × ((v : ℕ) → reach n t ≤ v → v < u → in_runs v rs ≡ false)

-- an ordinary step from t to u in n ticks
pub record Step (rs : List Run) (n t u : ℕ) : Type 0 where
  -- it never goes back
  pub ahead : t ≤ u
  -- it is at no time that may be exactly if every one is behind it
  pub sound : Decides (not (in_runs u rs)) (Behind rs u)
  -- it is faster than the local clock by more than 500 millionths only if it had to
  pub forced : reach n t < u → Forced rs n t u
  -- it is at the middle of the longest run if that is ahead and within reach, and does not pass it
  pub arrives : t ≤ wanted rs → wanted rs ≤ reach n t → u ≡ wanted rs
  pub short : t ≤ wanted rs → u ≤ wanted rs
  -- it stands still where the middle is behind and its time may be
  pub still : wanted rs ≤ t → in_runs t rs ≡ true → u ≡ t

-- the free run from t to u in n ticks: as fast as the local clock, and up to the ceiling
pub record Freely (n t u : ℕ) : Type 0 where
  pub ahead : t ≤ u
  pub slow : u ≤ t + n
  pub whole : min (t + n) ceiling ≤ u

-- a time that is shown stays shown, and never goes back
abbrev pub NeverBack : Hand → Hand → Type 0
NeverBack h k = (t : ℕ) → h.time ≡ Some t → (u : ℕ) × (k.time ≡ Some u) × (t ≤ u)

-- from the hand h to the hand k in n ticks, where these runs say what may be
pub record Kept (rs : List Run) (n : ℕ) (h k : Hand) : Type 0 where
  -- at first it is the least time that may be
  pub first : h.time ≡ None → (u : ℕ) → k.time ≡ Some u → Least rs u
  -- unless it runs freely, it takes ordinary steps, and is at no time that may be exactly if every one is behind it
  pub steps : k.free ≡ false → (t u : ℕ) → h.time ≡ Some t → k.time ≡ Some u → Step rs n t u
  pub sound : k.free ≡ false → (u : ℕ) → k.time ≡ Some u → Decides (not (in_runs u rs)) (Behind rs u)
  pub freely : k.free ≡ true → (t u : ℕ) → h.time ≡ Some t → k.time ≡ Some u → Freely n t u
  -- it does not pass the ceiling if no time that may be does
  pub under : Upto rs → ((t : ℕ) → h.time ≡ Some t → t ≤ ceiling) → (u : ℕ) → k.time ≡ Some u → u ≤ ceiling

-- What can come, so many ticks after the last update: a reply is accepted, anything else happens, or no world is left.
pub data Update : Type 0 where
  Heard : List Run → ℕ → Update
  Passed : List Run → ℕ → Update
  Lost : ℕ → Update

abbrev pub runs_of : Update → List Run
runs_of (Heard rs n) = rs
runs_of (Passed rs n) = rs
runs_of (Lost n) = []

abbrev pub ticks_of : Update → ℕ
ticks_of (Heard rs n) = n
ticks_of (Passed rs n) = n
ticks_of (Lost n) = n

abbrev pub updated : Update → Hand → Hand
updated (Heard rs n) h = heard rs n h
updated (Passed rs n) h = passed rs n h
updated (Lost n) h = lost n h

-- the hand after these updates, the latest first
unfoldable pub after : List Update → Hand
after [] = fresh
after (e ∷ es) = updated e (after es)

-- a hand is the one after these updates
abbrev pub Stands : List Update → Hand → Type 0
Stands es h = h ≡ after es

-- a reply was accepted with a world left
abbrev pub is_showing : Update → Bool
is_showing (Heard [] n) = false
is_showing (Heard (r ∷ rs) n) = true
is_showing (Passed rs n) = false
is_showing (Lost n) = false

unfoldable pub any_showing : List Update → Bool
any_showing [] = false
any_showing (e ∷ es) = is_showing e || any_showing es

-- no world is left
abbrev pub is_lost : Update → Bool
is_lost (Heard [] n) = true
is_lost (Heard (r ∷ rs) n) = false
is_lost (Passed [] n) = true
is_lost (Passed (r ∷ rs) n) = false
is_lost (Lost n) = true

-- from an update at which no world is left until a reply is accepted with one
unfoldable pub free_after : List Update → Bool
free_after [] = false
free_after (e ∷ es) = is_lost e || (not (is_showing e) && free_after es)

-- the ticks of some updates together
unfoldable pub ticks_in : List Update → ℕ
ticks_in [] = 0
ticks_in (e ∷ es) = ticks_of e + ticks_in es

-- at one of the latest updates, after those before them, the hand went past its reach, and had to
unfoldable pub SomewhereForced : List Update → List Update → Type 0
SomewhereForced es [] = ⊥
SomewhereForced es (e ∷ more) =
    ((t : ℕ) × (u : ℕ) × ((after (more ++ es)).time ≡ Some t) × ((after (e ∷ (more ++ es))).time ≡ Some u) × Forced (runs_of e) (ticks_of e) t u)
    ⊎ SomewhereForced es more

-- Each update of a history keeps what is promised.
abbrev pub AlwaysKept : Type 0
AlwaysKept = (es : List Update) (e : Update) → Apart 0 (runs_of e) → Kept (runs_of e) (ticks_of e) (after es) (after (e ∷ es))

-- However many updates follow, the hand shows no earlier time.
abbrev pub NeverGoesBack : Type 0
NeverGoesBack = (es more : List Update) → NeverBack (after es) (after (more ++ es))

-- Over any updates together it is faster than the local clock by at most 500 millionths, or it went past its reach at one of them, and had to.
abbrev pub SlowUnlessForced : Type 0
SlowUnlessForced =
    (es more : List Update) → AllByRecursion (λ e. Apart 0 (runs_of e)) more →
    (t u : ℕ) → (after es).time ≡ Some t → (after (more ++ es)).time ≡ Some u → (u ≤ reach (ticks_in more) t) ⊎ SomewhereForced es more

-- It runs freely from an update at which no world is left until a reply is accepted with one.
abbrev pub FreeUntilHeard : Type 0
FreeUntilHeard = (es : List Update) → (after es).free ≡ free_after es

-- It shows a time exactly if a reply was accepted with a world left.
abbrev pub ShowsOnceHeard : Type 0
ShowsOnceHeard = (es : List Update) → is_some (after es).time ≡ any_showing es

-- It never passes the ceiling if no time that may be did at any update.
abbrev pub NeverPastCeiling : Type 0
NeverPastCeiling = (es : List Update) → AllByRecursion (λ e. Apart 0 (runs_of e) × Upto (runs_of e)) es → (t : ℕ) → (after es).time ≡ Some t → t ≤ ceiling

-- What it wants is the middle of the longest run.
abbrev pub WantsMiddle : Type 0
WantsMiddle = (r : Run) (rs : List Run) → Apart 0 (r ∷ rs) → Middle (r ∷ rs) (wanted (r ∷ rs))

-- Where one run is all that may be, a hand that is not before it, as in the free run, is unsound exactly if every time that may be is behind it.
abbrev pub OneRun : Type 0
OneRun = (r : Run) (t : ℕ) → r.lo ≤ t → Decides (not (in_runs t (r ∷ []))) (Behind (r ∷ []) t)

-- Asked with the runs of the latest update, a hand that does not run freely is unsound exactly if every time that may be is behind it.
abbrev pub SoundExact : List Run → Hand → Bool → Type 0
SoundExact rs h answer =
    (es : List Update) (e : Update) → Stands (e ∷ es) h → runs_of e ≡ rs → Apart 0 rs → h.free ≡ false →
    (t : ℕ) → h.time ≡ Some t → Decides (not answer) (Behind rs t)
