use Rattle.board_shapes.specs.Plain.{plain_board}
use Rattle.reports.proofs.Decided.{decided_on}
use Rattle.reports.proofs.decision.decision_on.Goals as goal

pub returns : goal.returns
returns c =
    decided_on c.args.count (plain_board c.args.lower.now) (plain_board c.args.upper.now) c.in_ok-below.below c.in_ok-above.above (c.boards_are_lawful.ensures c.args.lower.now) (c.boards_are_lawful.ensures c.args.upper.now) c.in_ok-below.ensures.right c.in_ok-above.ensures.right
    c.decided.result c.decided.ensures.text c.decided.ensures.status
