-- A ledger's steps, as events of a run.
use Rattle.std.proofs.Common.{◌≡◌, ℕ, suc, cond, List, [], ◌∷◌, Vec, vec_items, sym, ap, subst, ◌∙◌}
use Rattle.std.proofs.lemmas.Bool.{le-leb}
use Rattle.span.specs.Span.{upto, ceiling}
use Rattle.span.specs.Model.{moments, put, plain, lowest, through}
use Rattle.span.specs.Model as model
use Rattle.choice.specs.declared.case.Case.{Case}
use Rattle.choice.specs.declared.case.Claim.TheVariants.{AtMost, AtLeast}
use Rattle.choice.specs.Row.{choices_in, row_of, row_through}
use Rattle.choice.specs.Moves.{RowMoves, RowCuts}
use Rattle.choice.specs.Stands.{AllChosen}
use Rattle.choice.proofs.Standing.{stands_by}
use Rattle.ledger.specs.Ledger.{Begins, Passes, Hears, shows, hears, asks}

-- the row of the beginning
pub begins : (n f latest : ℕ) (cs : List ℕ) (row : List Case) → AllChosen n f cs → row ≡ row_of (λ c. upto latest) cs → Begins n f latest row
unfolding moments through
begins n f latest cs row all e r s q l t = stands_by r [] cs row (all r s q l) (e ∙ ap (λ x. row_of (λ c. upto x) cs) (sym t))

pub passes : (low high : ℕ) (row after : List Case) → RowMoves low high row after → Passes low high row after
unfolding moments
passes low high row after moves r es n s h = stands_by r (shows n ∷ es) (choices_in row) after h.choices (moves r (moments es) (choices_in row) n s h.spans)

-- the same of what a row that stays is kept in
pub passes_on : {Z : Type 0} (low high : ℕ) (row : List Case) (one after : Vec Case Z) → RowMoves low high row one.items → after ≡ one → Passes low high row after.items
passes_on low high row one after moves same = subst (Passes low high row) (ap vec_items (sym same)) (passes low high row one.items moves)

pub heard : (low high v lo hi : ℕ) (row one two three after : List Case) → RowMoves low high row one → RowCuts (AtMost v hi) one two → RowMoves low high two three → RowCuts (AtLeast v lo) three after → Hears low high v lo hi row after
unfolding moments put
heard low high v lo hi row one two three after a b c d r es s o h =
    let cs = choices_in row in
    let ms = moments es in
    let asked = b r (plain 0) ms cs (a r ms cs 0 s h.spans) in
    let came = d r (plain 0) (record { ticks = 0; claims = model.AtMost v hi ∷ [] } ∷ ms) cs (c r (record { ticks = 0; claims = model.AtMost v hi ∷ [] } ∷ ms) cs 0 s asked) in
    let low : lo ≡ lowest lo hi = sym (ap (λ b. cond b lo (suc ceiling)) (le-leb lo hi o)) in
    stands_by r (hears v lo hi ∷ (asks v ∷ es)) cs after h.choices
    (came ∙ ap (λ x. row_through r (record { ticks = 0; claims = model.AtLeast v x ∷ [] } ∷ (record { ticks = 0; claims = model.AtMost v hi ∷ [] } ∷ ms)) cs) low)
