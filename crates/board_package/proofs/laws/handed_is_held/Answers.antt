use Rattle.board_package.proofs.Agreed.{handed_is_held}
use Rattle.board_package.proofs.laws.handed_is_held.Goals as goal

pub returns : goal.returns
returns c = handed_is_held
