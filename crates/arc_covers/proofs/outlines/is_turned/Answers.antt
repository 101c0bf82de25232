use Rattle.std.proofs.Common.{IfOk, IsTrue, ◌↔◌, subst, sym}
use Rattle.board_shapes.specs.Pieces.{plain_pieces}
use Rattle.arc_covers.specs.Bounds.{figures_of}
use Rattle.arc_covers.specs.Taken.{TurnedTaken}
use Rattle.arc_covers.specs.declared.side.Side.{Side}
use Rattle.arc_covers.proofs.outlines.is_turned.Goals as goal

pub returns-in-Below : goal.returns-in-Below
returns-in-Below c =
    subst (λ (side : Side). IfOk c.is_below.result (λ yes. IsTrue yes ↔ TurnedTaken side c.args.figure.now.contour.items c.args.figure.now.about c.args.figure.now.angle (figures_of (plain_pieces c.args.pieces.now)))) (sym c.in-Below.is) c.is_below.ensures
