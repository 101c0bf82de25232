use Rattle.ipc356_records.proofs.Ending.{prefix_is_refused}
use Rattle.ipc356_records.proofs.laws.prefix_is_refused.Goals as goal

pub returns : goal.returns
returns c = prefix_is_refused
