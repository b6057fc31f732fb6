-- That a round for each constant and word, and the sum, give the state of the definition.
use Rattle.std.proofs.Common.{◌≡◌, rules}
use Rattle.std.specs.List.{fold, zip}
use Rattle.std.proofs.lemmas.Iterator.{YieldsList-from_slice, YieldsList-from_zip}
use Rattle.std.proofs.lemmas.Iterator.Consumers.{fold_from_yields_List}
use Rattle.digest.specs.Sha256.{compressed, constants}
use Rattle.digest.proofs.Rounds.{round_at, rounds_fold}
use Rattle.digest.proofs.state.State.compress.Goals as goal

pub returns : goal.returns
unfolding compressed constants
returns c =
    let words = c.schedule-words.result in
    let pairs = YieldsList-from_zip (YieldsList-from_slice constants cc) (YieldsList-from_slice words cc) in
    let value : c.fold-working.result ≡ fold round_at c.args.self (zip constants words) = fold_from_yields_List _ round_at c.args.self _ c.fold-working.ensures.ran pairs (λ s p t q k. search rules) in
    let all = rounds_fold c.args.self constants words in
    cc
