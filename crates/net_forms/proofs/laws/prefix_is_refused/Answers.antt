use Rattle.net_forms.proofs.Ending.{prefix_is_refused}
use Rattle.net_forms.proofs.laws.prefix_is_refused.Goals as goal

pub returns : goal.returns
returns c = prefix_is_refused
