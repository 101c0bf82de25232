-- What is taken lies in the fine figure, or holds it.
use Rattle.planar.specs.Plane.{Point}
use Rattle.board_shapes.specs.Figures.{Figure, InFigure, filled, round}
use Rattle.fine_figures.specs.Fine.{InFine}
use Rattle.fine_figures.specs.Taken.{TakenAbove, TakenBelow}
use Rattle.fine_figures.specs.declared.FineFigure.{FineFigure}
use Rattle.fine_figures.specs.declared.FineFigure.TheVariants.{Round, Rectangle}
use Rattle.fine_figures.proofs.Rectangles.{around_sides, inside_sides}
use Rattle.fine_figures.proofs.Capsules.{thicker_holds, thinner_lies}

pub fine_below : (fine : FineFigure) (bound : Figure) (p : Point) → TakenBelow fine bound → InFigure bound p → InFine fine p
fine_below (Round f) (round s) p taken inside = thinner_lies f s.a s.b s.r p taken inside
fine_below (Round f) (filled points) p taken inside = absurd taken
fine_below (Rectangle sides) bound p taken inside = inside_sides sides bound p taken inside

pub fine_above : (fine : FineFigure) (bound : Figure) (p : Point) → TakenAbove fine bound → InFine fine p → InFigure bound p
fine_above (Round f) (round s) p taken inside = thicker_holds f s.a s.b s.r p taken inside
fine_above (Round f) (filled points) p taken inside = absurd taken
fine_above (Rectangle sides) (round s) p taken inside = absurd taken
fine_above (Rectangle sides) (filled points) p taken inside = around_sides sides points p taken inside
