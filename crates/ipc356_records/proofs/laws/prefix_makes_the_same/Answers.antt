use Rattle.ipc356_records.proofs.Ending.{prefix_makes_the_same}
use Rattle.ipc356_records.proofs.laws.prefix_makes_the_same.Goals as goal

pub returns : goal.returns
returns c = prefix_makes_the_same
