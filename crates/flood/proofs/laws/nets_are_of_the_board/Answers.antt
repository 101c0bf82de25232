use Rattle.flood.proofs.Boards.{nets_on}
use Rattle.flood.proofs.laws.nets_are_of_the_board.Goals as goal

pub returns : goal.returns
returns c = nets_on
