use Rattle.arcs.proofs.Moved.{moved_circle_is_held}
use Rattle.arcs.proofs.laws.moved_circle_is_held.Goals as goal

pub returns : goal.returns
returns c = moved_circle_is_held
