-- Figures with a round hole in the middle, and exactly which figures the checks take for them.
-- Source, cited as docs/FORMATS.md says: Gerber Layer Format Specification, 4.4.2 to 4.4.4 and 4.4.6 (a hole removes a circle about the middle)
use Rattle.std.specs.Prelude.{ℕ, ◌+◌, ◌/◌, ◌%◌, pos, ◌*ℤ◌, ◌≤ℤ◌, ◌≡◌, ◌⊎◌}
use Rattle.std.specs.Int.{int_min, int_max}
use Rattle.planar.specs.Plane.{InCapsule, IsPlaced, Point, square}
use Rattle.planar.specs.declared.Frame.{Frame}
use Rattle.planar.specs.declared.Spot.{Spot}
use Rattle.contact.specs.Round.{IsCapsuleRadius, box_of}
use Rattle.contact.specs.Solid.{IsInside, SharePoint}
use Rattle.board_shapes.specs.Figures.{Figure, InFigure, figure_box, filled, round}
use Rattle.arcs.specs.Copper.{reach_of}
use Rattle.fine_figures.specs.Fine.{InFine}
use Rattle.fine_figures.specs.Taken.{IsInSides, IsThinner, TakenAbove, doubled}
use Rattle.fine_figures.specs.declared.FineFigure.{FineFigure}
use Rattle.fine_figures.specs.declared.FineFigure.TheVariants.{Round, Rectangle}
use Rattle.fine_figures.specs.declared.FineStroke.{FineStroke}
use Rattle.fine_figures.specs.declared.HoledFigure.{HoledFigure}

-- the point lies in the outline, and twice its way from the centre is at least the diameter of the hole: copper has its border, as that of an arc draw
pub record InHoled (h : HoledFigure) (p : Point) : Type 0 where
  pub inside : InFine h.outline p
  pub past : square (p.n *ℤ pos h.hole) ≤ℤ (pos 4 *ℤ reach_of h.centre p)

-- ---- below

-- the stroke leads to the right or up, along an axis, or is a disc
abbrev pub IsUpright : FineStroke → Type 0
IsUpright f = ((f.a.x ≤ℤ f.b.x) × (f.a.y ≡ f.b.y)) ⊎ ((f.a.x ≡ f.b.x) × (f.a.y ≤ℤ f.b.y))

-- the place of its middle line that is nearest to a spot
abbrev pub foot : FineStroke → Spot → Spot
foot f s = record { x = int_max f.a.x (int_min s.x f.b.x); y = int_max f.a.y (int_min s.y f.b.y) }

-- the part of it between those nearest to both ends
abbrev pub part_by : FineStroke → Spot → Spot → FineStroke
part_by f a b = record { a = foot f (doubled a); b = foot f (doubled b); r = f.r }

-- for a stroke one that is thinner than a part, for a rectangle what is between its sides
abbrev pub LiesWithin : FineFigure → Figure → Type 0
LiesWithin (Round f) (round s) = IsUpright f × IsThinner (part_by f s.a s.b) s.a s.b s.r
LiesWithin (Round f) (filled points) = ⊥
LiesWithin (Rectangle sides) figure = IsInSides sides figure

-- the figure shares no point with the disc of this radius, both in the frame
pub record IsClearOf (frame : Frame) (c : Spot) (r : ℕ) (f : Figure) : Type 0 where
  pub placed : IsPlaced c
  pub radius : IsCapsuleRadius (pos r)
  pub inside : IsInside (figure_box f) frame
  pub disc : IsInside (box_of c c (pos r)) frame
  pub apart : ¬ SharePoint (InFigure f) (InCapsule c c (pos r))

-- half of a diameter, rounded up
abbrev pub half_up : ℕ → ℕ
half_up d = d / 2 + d % 2

-- what lies in the outline, clear of the disc of the hole
abbrev pub HoledBelow : Frame → HoledFigure → Figure → Type 0
HoledBelow frame h figure = LiesWithin h.outline figure × IsClearOf frame h.centre (half_up h.hole) figure

-- ---- above

-- what holds the outline
abbrev pub HoledAbove : HoledFigure → Figure → Type 0
HoledAbove h figure = TakenAbove h.outline figure
