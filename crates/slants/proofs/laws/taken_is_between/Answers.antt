use Rattle.slants.proofs.Corners.{below_lies}
use Rattle.slants.proofs.Sides.{above_holds}
use Rattle.slants.proofs.laws.taken_is_between.Goals as goal

pub returns : goal.returns
returns c = λ a points p. (below_lies a points p, above_holds a points p)
