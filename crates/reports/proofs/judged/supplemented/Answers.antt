use Rattle.board_shapes.specs.Plain.{plain_board}
use Rattle.reports.proofs.Supplements.{supplemented_on}
use Rattle.reports.proofs.judged.supplemented.Goals as goal

pub returns-clause-right : goal.returns-clause-right
returns-clause-right c = supplemented_on (plain_board c.args.board.now) c.args.verdict c.in_ok-more.more c.requires c.in_ok-more.ensures.right
