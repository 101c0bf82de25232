use Rattle.xnc.proofs.Ending.{prefix_is_refused}
use Rattle.xnc.proofs.laws.prefix_is_refused.Goals as goal

pub returns : goal.returns
returns c = prefix_is_refused
