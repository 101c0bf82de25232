use Rattle.slants.proofs.Circle.{each_told}
use Rattle.slants.proofs.laws.each_turn_is_told.Goals as goal

pub returns : goal.returns
returns c = each_told
