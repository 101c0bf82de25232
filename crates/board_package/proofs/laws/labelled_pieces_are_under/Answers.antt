use Rattle.board_package.proofs.OnPieces.{pieces_are_under}
use Rattle.board_package.proofs.laws.labelled_pieces_are_under.Goals as goal

pub returns : goal.returns
returns c = pieces_are_under
