use Rattle.slants.proofs.Corners.{below_lies}
use Rattle.slants.proofs.Sides.{above_holds}
use Rattle.slants.proofs.laws.below_is_above.Goals as goal

pub returns : goal.returns
returns c = λ a lower upper p below above k. above_holds a upper p above (below_lies a lower p below k)
