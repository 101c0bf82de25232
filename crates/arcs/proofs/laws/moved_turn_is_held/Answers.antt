use Rattle.arcs.proofs.Moved.{moved_turn_is_held}
use Rattle.arcs.proofs.laws.moved_turn_is_held.Goals as goal

pub returns : goal.returns
returns c = moved_turn_is_held
