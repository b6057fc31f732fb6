use Rattle.std.proofs.Common.{vec_items, sym, ap, subst}
use Rattle.ledger.specs.Ledger.{Hears}
use Rattle.ledger.proofs.Runs.{heard}
use Rattle.ledger.proofs.Ledger.hear.Goals as goal

pub returns-clause-hears : goal.returns-clause-hears
returns-clause-hears c =
    subst (Hears c.args.still.least c.args.still.most c.args.server c.args.least c.args.greatest (vec_items c.args.self.now.row)) (ap vec_items (sym c.say.ensures.same.0))
    (heard _ _ _ _ _ _ _ _ _ _ c.advance.ensures.moves c.cut.ensures.cuts c.advance-2.ensures.moves c.cut-2.ensures.cuts)
