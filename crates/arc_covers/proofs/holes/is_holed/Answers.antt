use Rattle.arc_covers.specs.Bounds.{figures_of}
use Rattle.arc_covers.specs.Eighths.{frame_about}
use Rattle.board_shapes.specs.Pieces.{plain_pieces}
use Rattle.fine_figures.specs.Holes.{HoledBelow}
use Rattle.arc_covers.proofs.Drilled.{as_figures, taken_above, taken_below}
use Rattle.arc_covers.proofs.holes.is_holed.Goals as goal

pub returns-in-Below : goal.returns-in-Below
returns-in-Below c =
    taken_below c.args.side c.args.holed.now (figures_of (plain_pieces c.args.pieces.now)) c.are_within.result c.in-Below.is
    (as_figures (HoledBelow (frame_about c.args.holed.now.centre) c.args.holed.now) c.args.pieces.now c.are_within.result c.are_within.ensures)

pub returns-in-Above : goal.returns-in-Above
returns-in-Above c = taken_above c.args.side c.args.holed.now (figures_of (plain_pieces c.args.pieces.now)) c.is_around.result c.in-Above.is c.is_around.ensures
