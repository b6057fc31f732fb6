-- What a line of a script makes of the world that is played, if there is one yet, and what is promised of it.
use Rattle.std.specs.Prelude.{◌≡◌, ℕ, true, List, [], ◌∷◌, ◌++◌, is_some, IfOk, Some, None, Ok, Err, Option, Result, MatchResult, OnOk}
use Rattle.span.specs.World.{Event, Rules}
use Rattle.choice.specs.declared.runs.Run.{Run}
use Rattle.ledger.specs.Ledger.{shows}
use Rattle.script.specs.declared.words.Unread.{Unread}
use Rattle.script.specs.declared.Statement.{Statement}
use Rattle.script.specs.declared.Statement.TheVariants.{Begin, Pass, Reply, Lie}
use Rattle.play.specs.declared.scene.Fault.{Fault}
use Rattle.play.specs.declared.scene.Fault.TheVariants.{NoSettings, SettingsAgain}
use Rattle.play.specs.declared.scene.Moment.{Moment}
use Rattle.play.specs.Scene.{Played, Answers, NotBegun, in_range, pass_fault, reply_fault, lie_fault}
use Rattle.play.specs.Plays.{Plays, Shown, rules_of, heard_of}

-- the moments that a statement makes
abbrev pub moments_of : Statement → List Event
moments_of (Begin s) = []
moments_of (Pass n u) = shows n ∷ []
moments_of (Reply w) = heard_of w
moments_of (Lie w) = heard_of w

-- why a statement is refused in a world that is played
abbrev pub act_fault : Played → Statement → Option Fault
act_fault p (Begin s) = Some SettingsAgain
act_fault p (Pass n u) = pass_fault p n u
act_fault p (Reply w) = reply_fault p w
act_fault p (Lie w) = lie_fault p w

-- The answer to a statement. Settings come once, and first.
abbrev pub Performs : {X : Type 0} → Option Played → Statement → Result X Fault → Type 0
Performs (Some p) st r = Answers (act_fault p st) r
Performs None (Begin s) r = MatchResult r (λ _. in_range s ≡ true) (λ e. NotBegun s e)
Performs None (Pass n u) r = r ≡ Err NoSettings
Performs None (Reply w) r = r ≡ Err NoSettings
Performs None (Lie w) r = r ≡ Err NoSettings

-- The answer to a line. A moment is to be shown after each statement that is done, and none after a line that says nothing.
abbrev pub PerformsLine : Option Played → Result (Option Statement) Unread → Result (Option Moment) Fault → Type 0
PerformsLine o (Ok (Some st)) r = Performs o st r × IfOk r (λ m. is_some m ≡ true)
PerformsLine o (Ok None) r = r ≡ Ok None
PerformsLine o (Err e) r = r ≡ Err (Fault.Unread e)

-- the world that is played plays this run, by these times of true time
abbrev pub Acts : Rules → List Event → List ℕ → Option Played → Type 0
Acts r es ts None = ⊥
Acts r es ts (Some p) = Plays r es ts p

-- where a run is played, a statement that is accepted leads on to the run with its moments
abbrev pub Follows : {X : Type 0} → Option Played → Statement → Result X Fault → Option Played → Type 0
Follows o st r q = (rs : Rules) (es : List Event) (ts : List ℕ) → Acts rs es ts o → OnOk r ((us : List ℕ) × Acts rs (moments_of st ++ es) us q)

-- settings that are accepted begin a world of their rules
abbrev pub Starts : {X : Type 0} → Statement → Result X Fault → Option Played → Type 0
Starts (Begin s) r q = OnOk r (Acts (rules_of s) [] [] q)
Starts (Pass n u) r q = Unit {0}
Starts (Reply w) r q = Unit {0}
Starts (Lie w) r q = Unit {0}

-- both, for the statement that is read from a line; where it says nothing, the world stays as it is
abbrev pub FollowsLine : {X : Type 0} → Option Played → Result (Option Statement) Unread → Result X Fault → Option Played → Type 0
FollowsLine o (Ok (Some st)) r q = Follows o st r q × Starts st r q
FollowsLine o (Ok None) r q = q ≡ o
FollowsLine o (Err e) r q = Unit {0}

-- what is shown is the world that is played
abbrev pub Shows : Option Played → Moment → Type 0
Shows None m = ⊥
Shows (Some p) m = Shown p m

-- the runs of times that are said, if there is a world
abbrev pub runs_of : Option Played → List Run
runs_of None = []
runs_of (Some p) = p.runs
