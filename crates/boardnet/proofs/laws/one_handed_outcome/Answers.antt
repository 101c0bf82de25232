use Rattle.boardnet.proofs.OneOutcome.{one_handed_outcome}
use Rattle.boardnet.proofs.laws.one_handed_outcome.Goals as goal

pub returns : goal.returns
returns c = one_handed_outcome c.one_outcome.ensures (record { listed = c.handed_is_held.ensures; real = c.handed_is_held-2.ensures })
