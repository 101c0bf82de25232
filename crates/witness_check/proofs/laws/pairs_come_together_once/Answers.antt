use Rattle.witness_check.proofs.Meeting.{pairs_come_together_once}
use Rattle.witness_check.proofs.laws.pairs_come_together_once.Goals as goal

pub returns : goal.returns
returns c = pairs_come_together_once
