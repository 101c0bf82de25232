use Rattle.slants.proofs.Circle.{sides_tell}
use Rattle.slants.proofs.laws.sides_tell_cone.Goals as goal

pub returns : goal.returns
returns c = sides_tell
