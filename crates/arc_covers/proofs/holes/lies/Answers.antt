use Rattle.board_shapes.specs.Figures.{figure_of}
use Rattle.arc_covers.specs.Eighths.{frame_about}
use Rattle.arc_covers.proofs.Drilled.{not_placed}
use Rattle.arc_covers.proofs.holes.lies.Goals as goal

pub returns-else-is_placed : goal.returns-else-is_placed
returns-else-is_placed c = not_placed (frame_about c.args.holed.now.centre) c.args.holed.now (figure_of c.args.piece.now.shape) c.is_placed.result c.if-is_placed.false c.is_placed.ensures.placed
