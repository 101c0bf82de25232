use Rattle.board_shapes.specs.Plain.{plain_board}
use Rattle.reports.proofs.OnBoard.{forest_on}
use Rattle.reports.proofs.gap_list.list_for.Goals as goal

pub gaps-requires-clause-trees : goal.gaps-requires-clause-trees
gaps-requires-clause-trees c = forest_on (plain_board c.args.board.now) c.args.verdict.now c.requires.right
