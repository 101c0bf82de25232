use Rattle.std.proofs.Common.{arith}
use Rattle.board_shapes.specs.Figures.{figure_of}
use Rattle.board_shapes.specs.Pieces.{plain_pieces}
use Rattle.arc_covers.specs.Bounds.{figures_of}
use Rattle.arc_covers.specs.Taken.{AloneTaken}
use Rattle.arc_covers.proofs.Contours.{more_pieces, no_pieces, one_piece, or_one}
use Rattle.arc_covers.proofs.rows.stand_alone.Goals as goal

pub returns-in-empty : goal.returns-in-empty
returns-in-empty c = no_pieces c.args.side c.args.real.now c.args.pieces.now c.is_lower.result (omega arith) c.is_lower.ensures

pub returns-in-len1 : goal.returns-in-len1
returns-in-len1 c = or_one c.args.side (AloneTaken c.args.side c.args.real.now) (figure_of c.only-item.result.shape) (figures_of (plain_pieces c.args.pieces.now)) c.is_alone.result
    (one_piece c.args.pieces.now c.only-item.result (omega arith) (omega arith) c.only-item.is) c.is_alone.ensures

pub returns-in_default : goal.returns-in_default
returns-in_default c = more_pieces c.args.side c.args.real.now c.args.pieces.now (omega arith)
