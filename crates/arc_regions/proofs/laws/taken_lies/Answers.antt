use Rattle.arc_regions.proofs.Regions.{taken_lies}
use Rattle.arc_regions.proofs.laws.taken_lies.Goals as goal

pub returns : goal.returns
returns c = taken_lies c.taken_is_between.ensures
