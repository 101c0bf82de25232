use Rattle.slants.proofs.Near.{near_between}
use Rattle.slants.proofs.laws.near_is_between.Goals as goal

pub returns : goal.returns
returns c = near_between
