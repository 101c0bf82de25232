use Rattle.slants.proofs.Level.{other_way_is_same}
use Rattle.slants.proofs.laws.other_way_is_same.Goals as goal

pub returns : goal.returns
returns c = other_way_is_same
