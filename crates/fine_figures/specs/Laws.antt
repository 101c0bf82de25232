-- Laws over the definitions.
use Rattle.planar.specs.Plane.{Point}
use Rattle.planar.specs.declared.Frame.{Frame}
use Rattle.board_shapes.specs.Figures.{Figure, InFigure}
use Rattle.fine_figures.specs.Fine.{InFine}
use Rattle.fine_figures.specs.Holes.{HoledAbove, HoledBelow, InHoled}
use Rattle.fine_figures.specs.Taken.{TakenAbove, TakenBelow}
use Rattle.fine_figures.specs.declared.FineFigure.{FineFigure}
use Rattle.fine_figures.specs.declared.HoledFigure.{HoledFigure}

-- A figure that is taken below lies in the fine one, and one that is taken above holds it
abbrev pub FineIsBetween : Type 0
FineIsBetween = (fine : FineFigure) (bound : Figure) (p : Point) → (TakenBelow fine bound → InFigure bound p → InFine fine p) × (TakenAbove fine bound → InFine fine p → InFigure bound p)

-- So it is with one that has a hole
abbrev pub HoledIsBetween : Type 0
HoledIsBetween = (h : HoledFigure) (frame : Frame) (bound : Figure) (p : Point) → (HoledBelow frame h bound → InFigure bound p → InHoled h p) × (HoledAbove h bound → InHoled h p → InFigure bound p)
