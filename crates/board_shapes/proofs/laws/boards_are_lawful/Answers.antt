use Rattle.board_shapes.proofs.Kept.{board_is_lawful}
use Rattle.board_shapes.proofs.laws.boards_are_lawful.Goals as goal

pub returns : goal.returns
returns c = board_is_lawful
