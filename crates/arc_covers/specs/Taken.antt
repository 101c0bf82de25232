-- Exactly which pieces the check takes for those of a real board.
use Rattle.std.specs.Prelude.{ℕ, pos, ◌≡◌, ◌⊎◌, ◌<◌, List, [], ◌∷◌, Some, length, slice_get, All}
use Rattle.planar.specs.declared.Spot.{Spot}
use Rattle.board_shapes.specs.Figures.{Figure, figure_of}
use Rattle.board_shapes.specs.Pieces.{PlainPiece}
use Rattle.board_shapes.specs.declared.placed.Placed.{Placed}
use Rattle.arcs.specs.Taken.{TakenAbove, TakenBelow}
use Rattle.arcs.specs.declared.Arc.{Arc}
use Rattle.real_shapes.specs.declared.RealShape.{RealShape}
use Rattle.real_shapes.specs.declared.RealShape.TheVariants.{Plain, ArcDraw, Slanted, Region, Turned, TurnedDisc, Polygon, Fine, Holed}
use Rattle.slants.specs.Cones.{FigureAbove, FigureBelow}
use Rattle.slants.specs.Discs.{DiscAbove, DiscBelow}
use Rattle.turned_polygons.specs.Taken.{TurnedPolygonAbove, TurnedPolygonBelow}
use Rattle.slants.specs.Taken as slants
use Rattle.slants.specs.declared.Slant.{Slant}
use Rattle.slants.specs.declared.discs.TurnedDisc.{TurnedDisc as Disc}
use Rattle.turned_polygons.specs.declared.TurnedPolygon.{TurnedPolygon}
use Rattle.arc_regions.specs.declared.Region.{Region as Contour}
use Rattle.fine_figures.specs.Taken as fine_figures
use Rattle.fine_figures.specs.Holes.{HoledAbove, HoledBelow}
use Rattle.fine_figures.specs.declared.FineFigure.{FineFigure}
use Rattle.fine_figures.specs.declared.HoledFigure.{HoledFigure}
use Rattle.arc_covers.specs.Eighths.{LiesBelow, frame_about}
use Rattle.arc_covers.specs.Outlines.{OutlineLies, OutlineStands}
use Rattle.arc_covers.specs.Regions.{RegionAbove}
use Rattle.arc_covers.specs.Bounds.{AddUp, IsOn, ContourFor, DiscFor, FigureFor, OneContour, OneDisc, OneFigure, capsules_of, figures_of, share_of}
use Rattle.arc_covers.specs.declared.side.Side.{Side}
use Rattle.arc_covers.specs.declared.side.Side.TheVariants.{Below, Above}

-- the checks of `arcs` take the chain; below, that without a spot is taken too
abbrev pub IsTaken : Side → Arc → List Spot → ℕ → Type 0
IsTaken Below arc chain r = (chain ≡ []) ⊎ TakenBelow arc chain r
IsTaken Above arc chain r = TakenAbove arc chain r

-- the checks of `slants` take the contour
abbrev pub IsLineTaken : Side → Slant → List Spot → Type 0
IsLineTaken Below line points = slants.TakenBelow line points
IsLineTaken Above line points = slants.TakenAbove line points

-- and for the figure of the first contour, turned about the spot by the angle
abbrev pub IsTurnedTaken : Side → List Spot → Spot → ℕ → List Spot → Type 0
IsTurnedTaken Below contour about angle points = FigureBelow contour about angle points
IsTurnedTaken Above contour about angle points = FigureAbove contour about angle points

-- and the disc about a spot for the turned disc
abbrev pub IsDiscTaken : Side → Disc → Spot → ℕ → Type 0
IsDiscTaken Below disc s r = DiscBelow disc s r
IsDiscTaken Above disc s r = DiscAbove disc s r

-- those of `turned_polygons` the contour for the polygon
abbrev pub IsPolygonTaken : Side → TurnedPolygon → List Spot → Type 0
IsPolygonTaken Below g points = TurnedPolygonBelow g points
IsPolygonTaken Above g points = TurnedPolygonAbove g points

-- the checks of `fine_figures` take the figure
abbrev pub IsFineTaken : Side → FineFigure → Figure → Type 0
IsFineTaken Below fine f = fine_figures.TakenBelow fine f
IsFineTaken Above fine f = fine_figures.TakenAbove fine f

-- below each figure lies in it, by the frame about its centre; above there is one, which holds it
abbrev pub HoledTaken : Side → HoledFigure → List Figure → Type 0
HoledTaken Below h figures = All (HoledBelow (frame_about h.centre) h) figures
HoledTaken Above h figures = OneFigure (HoledAbove h) figures

-- below they are one contour that is taken, or none; above the polygon and the capsules of chains that are
abbrev pub RegionTaken : Side → Contour → List Figure → Type 0
RegionTaken Below area figures = ContourFor Below (LiesBelow area.start area.parts.items) figures
RegionTaken Above area figures = RegionAbove area.start area.parts.items figures

-- one contour that is taken, by `slants`, or by `turned_outlines` for any outline, or below none; above the polygon and the capsules of an outline too
abbrev pub TurnedTaken : Side → List Spot → Spot → ℕ → List Figure → Type 0
TurnedTaken Below contour about angle figures = ContourFor Below (λ points. IsTurnedTaken Below contour about angle points ⊎ OutlineLies contour about angle points) figures
TurnedTaken Above contour about angle figures = OneContour (IsTurnedTaken Above contour about angle) figures ⊎ OutlineStands contour about angle figures

-- For a figure that figure, for a slanted line or a polygon one contour that is taken or below none. For an arc draw the capsules of one chain of one radius that is taken. Capsules have one chain; no capsules are those of none and of each single
-- spot, of which the former is taken below and nothing above. For a region or a turned figure what its own check takes, for a turned disc one disc and for a fine figure one figure that is taken or below none, for one with a hole below any that are and above one
abbrev pub StandTaken : Side → RealShape → List Figure → Type 0
StandTaken side (Plain shape) figures = figures ≡ figure_of shape ∷ []
StandTaken side (ArcDraw arc) figures = (chain : List Spot) × (r : ℕ) × (figures ≡ capsules_of chain (pos r)) × IsTaken side arc chain r
StandTaken side (Slanted line) figures = ContourFor side (IsLineTaken side line) figures
StandTaken side (Region area) figures = RegionTaken side area figures
StandTaken side (Turned t) figures = TurnedTaken side t.contour.items t.about t.angle figures
StandTaken side (TurnedDisc disc) figures = DiscFor side (IsDiscTaken side disc) figures
StandTaken side (Polygon g) figures = ContourFor side (IsPolygonTaken side g) figures
StandTaken side (Fine fine) figures = FigureFor side (IsFineTaken side fine) figures
StandTaken side (Holed h) figures = HoledTaken side h figures

-- For those that one figure alone bounds, that figure
abbrev pub AloneTaken : Side → RealShape → List Figure → Type 0
AloneTaken side (Slanted line) figures = OneContour (IsLineTaken side line) figures
AloneTaken side (TurnedDisc disc) figures = OneDisc (IsDiscTaken side disc) figures
AloneTaken side (Polygon g) figures = OneContour (IsPolygonTaken side g) figures
AloneTaken side (Fine fine) figures = OneFigure (IsFineTaken side fine) figures
AloneTaken side other figures = ⊥

-- the pieces are taken for the real piece, all on its layers
pub record PiecesAreTaken (side : Side) (real : Placed RealShape) (pieces : List PlainPiece) : Type 0 where
  pub figures : StandTaken side real.shape (figures_of pieces)
  pub layers : All (IsOn real.top real.bottom) pieces

-- for each of the first n real pieces those that are counted to it are taken
abbrev pub FirstTaken : Side → ℕ → List (Placed RealShape) → List ℕ → List PlainPiece → Type 0
FirstTaken side n real counts pieces = (i : ℕ) (piece : Placed RealShape) → i < n → slice_get real i ≡ Some piece → PiecesAreTaken side piece (share_of counts pieces i)

-- the pieces, as they are counted, are taken for the real ones
pub record AreTaken (side : Side) (real : List (Placed RealShape)) (counts : List ℕ) (pieces : List PlainPiece) : Type 0 where
  pub counted : AddUp real counts pieces
  pub taken : FirstTaken side (length real) real counts pieces
