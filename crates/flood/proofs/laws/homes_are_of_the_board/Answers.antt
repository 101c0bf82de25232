use Rattle.flood.proofs.Boards.{homes_on}
use Rattle.flood.proofs.laws.homes_are_of_the_board.Goals as goal

pub returns : goal.returns
returns c = homes_on
