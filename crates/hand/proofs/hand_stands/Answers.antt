use Rattle.hand.proofs.Steps.{wants_middle}
use Rattle.hand.proofs.Updates.{always_kept, never_goes_back, slow_unless_forced, free_until_heard, shows_once_heard, never_past_ceiling, one_run}
use Rattle.hand.proofs.hand_stands.Goals as goal

pub returns : goal.returns
returns c = record { kept = always_kept; back = never_goes_back; slow = slow_unless_forced; free = free_until_heard; shows = shows_once_heard; under = never_past_ceiling; middle = wants_middle; single = one_run }
