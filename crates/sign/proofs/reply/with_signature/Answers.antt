use Rattle.std.proofs.Common.{rules}
use Rattle.std.proofs.lemmas.List.{places}
use Rattle.sign.proofs.Fronts.{joined_is}
use Rattle.sign.proofs.reply.with_signature.Goals as goal

pub slice_bounds-out-end-2 : goal.slice_bounds-out-end-2
slice_bounds-out-end-2 c = search (rules, places)

pub returns : goal.returns
returns c =
    record {
      value =
          joined_is c.args.front.now c.args.signature.now c.copy_from_slice.new.self c.copy_from_slice-2.new.self
          c.copy_from_slice.ensures.after c.copy_from_slice-2.ensures.after (search rules);
    }
