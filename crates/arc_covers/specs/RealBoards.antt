-- Boards of figures, arc draws, slanted lines, regions with arcs, turned figures and discs, regular polygons and fine figures, and the copper that these may have.
use Rattle.std.specs.Prelude.{ℕ, ◌≡◌, ◌↔◌, List, Option, Some, None, map, slice_get}
use Rattle.planar.specs.Plane.{Point}
use Rattle.board_shapes.specs.Figures.{InFigure, figure_of}
use Rattle.board_shapes.specs.declared.placed.Placed.{Placed}
use Rattle.arcs.specs.Copper.{IsCopper, Surely}
use Rattle.covers.specs.Boards.{Layout, Span}
use Rattle.fine_figures.specs.Fine.{InFine}
use Rattle.fine_figures.specs.Holes.{InHoled}
use Rattle.real_shapes.specs.declared.RealShape.{RealShape}
use Rattle.real_shapes.specs.declared.RealShape.TheVariants.{Plain, ArcDraw, Slanted, Region, Turned, TurnedDisc, Polygon, Fine, Holed}
use Rattle.slants.specs.Cones.{IsTurnedCopper, SurelyTurned}
use Rattle.slants.specs.Copper.{InSlant}
use Rattle.slants.specs.Discs.{IsDiscCopper, SurelyInDisc}
use Rattle.turned_polygons.specs.Copper.{IsTurnedPolygonCopper, SurelyIn}
use Rattle.arc_regions.specs.Copper as regions

-- the points are those of the figure, the slanted line or the fine figure, with a hole or without, or a copper of the arc draw, the region, the turned figure or disc, or the polygon
abbrev pub IsCopperOf : RealShape → (Point → Type 0) → Type 0
IsCopperOf (Plain shape) holds = (p : Point) → InFigure (figure_of shape) p ↔ holds p
IsCopperOf (ArcDraw arc) holds = IsCopper arc holds
IsCopperOf (Slanted line) holds = (p : Point) → InSlant line p ↔ holds p
IsCopperOf (Region area) holds = regions.IsCopper area.start area.parts.items holds
IsCopperOf (Turned t) holds = IsTurnedCopper t.contour.items t.about t.angle holds
IsCopperOf (TurnedDisc disc) holds = IsDiscCopper disc holds
IsCopperOf (Polygon g) holds = IsTurnedPolygonCopper g holds
IsCopperOf (Fine fine) holds = (p : Point) → InFine fine p ↔ holds p
IsCopperOf (Holed h) holds = (p : Point) → InHoled h p ↔ holds p

-- what is surely in it, which is the least copper that it may have
abbrev pub least_copper : RealShape → Point → Type 0
least_copper (Plain shape) p = InFigure (figure_of shape) p
least_copper (ArcDraw arc) p = Surely arc p
least_copper (Slanted line) p = InSlant line p
least_copper (Region area) p = regions.SurelyIn area.start area.parts.items p
least_copper (Turned t) p = SurelyTurned t.contour.items t.about t.angle p
least_copper (TurnedDisc disc) p = SurelyInDisc disc p
least_copper (Polygon g) p = SurelyIn g p
least_copper (Fine fine) p = InFine fine p
least_copper (Holed h) p = InHoled h p

-- that of the piece, if there is one
abbrev pub least_at : Option (Placed RealShape) → Point → Type 0
least_at None p = ⊥
least_at (Some piece) p = least_copper piece.shape p

-- the layers of the piece
abbrev pub real_span : Placed RealShape → Span
real_span piece = record { top = piece.top; bottom = piece.bottom }

-- the board has these pieces and no others, each with some copper of its shape
pub record IsReal (pieces : List (Placed RealShape)) (holds : ℕ → Point → Type 0) (b : Layout) : Type 0 where
  pub spans : b.spans ≡ map real_span pieces
  pub copper : (i : ℕ) (piece : Placed RealShape) → slice_get pieces i ≡ Some piece → IsCopperOf piece.shape (holds i)
