use Rattle.board_shapes.specs.Plain.{plain_board}
use Rattle.reports.proofs.Rulings.{ruling_on}
use Rattle.reports.proofs.ruling.ruled.Goals as goal

pub returns-in-Ok-clause-ok : goal.returns-in-Ok-clause-ok
returns-in-Ok-clause-ok c =
    ruling_on (plain_board c.args.board.now) c.args.text.now c.in_ok-ruling.ruling c.in-Ok.answer c.in_ok-ruling.ensures.one c.in_ok-ruling.ensures.ok c.in-Ok.ensures
