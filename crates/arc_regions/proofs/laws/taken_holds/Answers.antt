use Rattle.arc_regions.proofs.Regions.{taken_holds}
use Rattle.arc_regions.proofs.laws.taken_holds.Goals as goal

pub returns : goal.returns
returns c = taken_holds c.taken_is_between.ensures
