use Rattle.slants.proofs.Level.{level_is_rectangle}
use Rattle.slants.proofs.laws.level_is_rectangle.Goals as goal

pub returns : goal.returns
returns c = level_is_rectangle
