use Rattle.std.proofs.Common.{IsTrue, List, arith, subst, sym, ◌↔◌}
use Rattle.board_shapes.specs.Figures.{Figure, figure_of}
use Rattle.fine_figures.specs.Holes.{HoledAbove}
use Rattle.arc_covers.specs.Bounds.{OneFigure}
use Rattle.arc_covers.proofs.Contours.{of_figure, one_piece}
use Rattle.arc_covers.proofs.Drilled.{not_one}
use Rattle.arc_covers.proofs.holes.is_around.Goals as goal

pub returns-in-len1 : goal.returns-in-len1
returns-in-len1 c =
    subst (λ (figures : List Figure). IsTrue c.is_holed_above.result ↔ OneFigure (HoledAbove c.args.holed.now) figures) (sym (one_piece c.args.pieces.now c.only-item.result (omega arith) (omega arith) c.only-item.is))
    (of_figure (HoledAbove c.args.holed.now) (figure_of c.only-item.result.shape) c.is_holed_above.result c.is_holed_above.ensures.taken)

pub returns-in_default : goal.returns-in_default
returns-in_default c = not_one (HoledAbove c.args.holed.now) c.args.pieces.now (λ one. omega (arith, one))
