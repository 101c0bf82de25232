use Rattle.x2_nets.proofs.InForce.{look_back}
use Rattle.x2_nets.proofs.laws.labels_look_back.Goals as goal

pub returns : goal.returns
returns c = look_back
