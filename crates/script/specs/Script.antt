-- What a line of a script says.
use Rattle.std.specs.Prelude.{ℕ, Bool, true, cond, List, [], ◌∷◌, Option, Some, None, Ok, Err, codes, Result, ◌==◌, slice_index}
use Rattle.std.specs.Str.{bytes_eq}
use Rattle.script.specs.Words.{first_word, after_word, and_then, numbers}
use Rattle.script.specs.declared.words.Unread.{Unread}
use Rattle.script.specs.declared.words.Unread.TheVariants.{UnknownWord}
use Rattle.script.specs.declared.Settings as settings
use Rattle.script.specs.declared.Keyword.{Keyword}
use Rattle.script.specs.declared.Keyword.TheVariants.{Settings, Pass, Reply, Lie}
use Rattle.script.specs.declared.Word.{Word}
use Rattle.script.specs.declared.Statement.{Statement}
use Rattle.script.specs.declared.Statement.TheVariants.{Begin}

-- no word, or a comment
abbrev pub silent : List ℕ → Bool
silent [] = true
silent (c ∷ cs) = c == 35

-- the words that a statement begins with
abbrev pub keyword_of : List ℕ → Result Keyword Unread
keyword_of w =
    cond (bytes_eq w (codes "settings")) (Ok Settings)
    (cond (bytes_eq w (codes "pass")) (Ok Pass)
    (cond (bytes_eq w (codes "reply")) (Ok Reply)
    (cond (bytes_eq w (codes "lie")) (Ok Lie)
    (Err UnknownWord))))

-- settings SERVERS FAULTY DRIFT TRUTH
abbrev pub settings_of : List ℕ → Result settings.Settings Unread
settings_of cs = and_then (numbers 4 cs) (λ xs. Ok (record { servers = slice_index xs 0; faulty = slice_index xs 1; drift = slice_index xs 2; truth = slice_index xs 3 }))

-- pass TICKS TRUTH
abbrev pub pass_of : List ℕ → Result Statement Unread
pass_of cs = and_then (numbers 2 cs) (λ xs. Ok (Statement.Pass (slice_index xs 0) (slice_index xs 1)))

-- reply SERVER MIDPOINT RADIUS, and lie SERVER MIDPOINT RADIUS
abbrev pub word_of : List ℕ → Result Word Unread
word_of cs = and_then (numbers 3 cs) (λ xs. Ok (record { server = slice_index xs 0; midpoint = slice_index xs 1; radius = slice_index xs 2 }))

-- what follows the keyword
abbrev pub said_by : Keyword → List ℕ → Result Statement Unread
said_by Settings cs = and_then (settings_of cs) (λ s. Ok (Begin s))
said_by Pass cs = pass_of cs
said_by Reply cs = and_then (word_of cs) (λ w. Ok (Statement.Reply w))
said_by Lie cs = and_then (word_of cs) (λ w. Ok (Statement.Lie w))

-- what a line says, if it says something
unfoldable pub statement_of : List ℕ → Result (Option Statement) Unread
statement_of cs = cond (silent (first_word cs)) (Ok None) (and_then (keyword_of (first_word cs)) (λ k. and_then (said_by k (after_word cs)) (λ s. Ok (Some s))))
