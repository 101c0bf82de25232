-- What stands for the pieces of a real board on a board below it, and on one above it.
use Rattle.std.specs.Prelude.{ℕ, ℤ, pos, ◌≡◌, ◌⊎◌, ◌<◌, List, [], ◌∷◌, Some, length, map, slice_get, slice_index, sum, take, drop, All}
use Rattle.planar.specs.Plane.{Point}
use Rattle.planar.specs.declared.Spot.{Spot}
use Rattle.board_shapes.specs.Figures.{Figure, InFigure, filled, round, figure_of}
use Rattle.board_shapes.specs.Pieces.{PlainPiece}
use Rattle.board_shapes.specs.declared.placed.Placed.{Placed}
use Rattle.arcs.specs.Copper.{InChain, Possibly, Surely}
use Rattle.arcs.specs.declared.Arc.{Arc}
use Rattle.real_shapes.specs.declared.RealShape.{RealShape}
use Rattle.real_shapes.specs.declared.RealShape.TheVariants.{Plain, ArcDraw, Slanted, Region, Turned, TurnedDisc, Polygon, Fine, Holed}
use Rattle.slants.specs.Cones.{PossiblyTurned, SurelyTurned}
use Rattle.slants.specs.Copper.{InSlant}
use Rattle.slants.specs.Discs.{PossiblyInDisc, SurelyInDisc, disc_about}
use Rattle.turned_polygons.specs.Copper as polygons
use Rattle.turned_polygons.specs.declared.TurnedPolygon.{TurnedPolygon}
use Rattle.arc_regions.specs.Copper.{PossiblyIn, SurelyIn}
use Rattle.arc_regions.specs.declared.Region.{Region as Contour}
use Rattle.contact.specs.Solid.{SharePoint}
use Rattle.fine_figures.specs.Fine.{InFine}
use Rattle.fine_figures.specs.Holes.{InHoled}
use Rattle.fine_figures.specs.declared.FineFigure.{FineFigure}
use Rattle.fine_figures.specs.declared.HoledFigure.{HoledFigure}
use Rattle.slants.specs.declared.Slant.{Slant}
use Rattle.slants.specs.declared.discs.TurnedDisc.{TurnedDisc as Disc}
use Rattle.arc_covers.specs.declared.side.Side.{Side}
use Rattle.arc_covers.specs.declared.side.Side.TheVariants.{Below, Above}

-- a chain below lies in the copper of every curve of the arc draw, one above holds that of each
abbrev pub IsBound : Side → Arc → List Spot → ℤ → Type 0
IsBound Below arc chain r = (p : Point) → InChain chain r p → Surely arc p
IsBound Above arc chain r = (p : Point) → Possibly arc p → InChain chain r p

-- the capsules from a to the first of the list and from each spot of it to the next
abbrev pub capsules_from : Spot → List Spot → ℤ → List Figure
capsules_from a [] r = []
capsules_from a (b ∷ rest) r = round (record { a = a; b = b; r = r }) ∷ capsules_from b rest r

abbrev pub capsules_of : List Spot → ℤ → List Figure
capsules_of [] r = []
capsules_of (a ∷ rest) r = capsules_from a rest r

-- what a contour bounds lies in the slanted line, or holds it
abbrev pub IsLineBound : Side → Slant → List Spot → Type 0
IsLineBound Below line points = (p : Point) → InFigure (filled points) p → InSlant line p
IsLineBound Above line points = (p : Point) → InSlant line p → InFigure (filled points) p

-- the disc about a spot lies in the turned disc at each turn of its cone, or holds it at each
abbrev pub IsDiscBound : Side → Disc → Spot → ℕ → Type 0
IsDiscBound Below disc s r = (p : Point) → InFigure (disc_about s r) p → SurelyInDisc disc p
IsDiscBound Above disc s r = (p : Point) → PossiblyInDisc disc p → InFigure (disc_about s r) p

-- what a contour bounds lies in the polygon at all turns of its cones and of its middle's, or holds it at each
abbrev pub IsPolygonBound : Side → TurnedPolygon → List Spot → Type 0
IsPolygonBound Below g points = (p : Point) → InFigure (filled points) p → polygons.SurelyIn g p
IsPolygonBound Above g points = (p : Point) → polygons.PossiblyIn g p → InFigure (filled points) p

-- a figure lies in the fine one, or holds it
abbrev pub IsFineBound : Side → FineFigure → Figure → Type 0
IsFineBound Below fine f = (p : Point) → InFigure f p → InFine fine p
IsFineBound Above fine f = (p : Point) → InFine fine p → InFigure f p

-- the figures are one of which P holds
abbrev pub OneFigure : (Figure → Type 0) → List Figure → Type 0
OneFigure P figures = (f : Figure) × (figures ≡ f ∷ []) × P f

-- the figures are one contour of which P holds
abbrev pub OneContour : (List Spot → Type 0) → List Figure → Type 0
OneContour P figures = (points : List Spot) × (figures ≡ filled points ∷ []) × P points

-- the figures are one disc of which P holds
abbrev pub OneDisc : (Spot → ℕ → Type 0) → List Figure → Type 0
OneDisc P figures = (s : Spot) × (r : ℕ) × (figures ≡ disc_about s r ∷ []) × P s r

-- P holds of the figures, or below there are none
abbrev pub OrNone : Side → (List Figure → Type 0) → List Figure → Type 0
OrNone Below P figures = (figures ≡ []) ⊎ P figures
OrNone Above P figures = P figures

-- they are so, or below there are none
abbrev pub ContourFor : Side → (List Spot → Type 0) → List Figure → Type 0
ContourFor side P figures = OrNone side (OneContour P) figures

abbrev pub FigureFor : Side → (Figure → Type 0) → List Figure → Type 0
FigureFor side P figures = OrNone side (OneFigure P) figures

abbrev pub DiscFor : Side → (Spot → ℕ → Type 0) → List Figure → Type 0
DiscFor side P figures = OrNone side (OneDisc P) figures

-- the point lies in one of the figures
abbrev pub InSome : List Figure → Point → Type 0
InSome [] p = ⊥
InSome (f ∷ rest) p = InFigure f p ⊎ InSome rest p

-- the figures hold all points of which P holds, and each shares a point with the first
pub record HoldTogether (P : Point → Type 0) (figures : List Figure) : Type 0 where
  pub first : Figure
  pub rest : List Figure
  pub are : figures ≡ first ∷ rest
  pub meet : All (λ f. SharePoint (InFigure first) (InFigure f)) rest
  pub hold : (p : Point) → P p → InSome figures p

-- below they are one contour that lies in the region whatever curves its arcs are, or none; above they hold it by any curves
abbrev pub BoundRegion : Side → Contour → List Figure → Type 0
BoundRegion Below area figures = ContourFor Below (λ points. (p : Point) → InFigure (filled points) p → SurelyIn area.start area.parts.items p) figures
BoundRegion Above area figures = HoldTogether (PossiblyIn area.start area.parts.items) figures

-- below they are one contour that lies in the turned figure at each turn of its cone, or none; above they hold it at each
abbrev pub BoundTurned : Side → List Spot → Spot → ℕ → List Figure → Type 0
BoundTurned Below contour about angle figures = ContourFor Below (λ points. (p : Point) → InFigure (filled points) p → SurelyTurned contour about angle p) figures
BoundTurned Above contour about angle figures = HoldTogether (PossiblyTurned contour about angle) figures

-- below each of them lies in the fine figure with a hole, above one holds it
abbrev pub BoundHoled : Side → HoledFigure → List Figure → Type 0
BoundHoled Below h figures = All (λ f. (p : Point) → InFigure f p → InHoled h p) figures
BoundHoled Above h figures = OneFigure (λ f. (p : Point) → InHoled h p → InFigure f p) figures

-- for a figure stands the figure itself, for an arc draw the capsules of one chain of one radius that is a bound: below it maybe none; for a slanted line or a polygon one contour that is: below it maybe none; for a turned disc one disc, or below it none, for a fine figure one figure, or below it none;
-- for a region and a turned figure below one contour that lies in it or none, above figures that hold it together; for a fine figure with a hole below any figures that lie in it, above one
abbrev pub StandFor : Side → RealShape → List Figure → Type 0
StandFor side (Plain shape) figures = figures ≡ figure_of shape ∷ []
StandFor side (ArcDraw arc) figures = (chain : List Spot) × (r : ℕ) × (figures ≡ capsules_of chain (pos r)) × IsBound side arc chain (pos r)
StandFor side (Slanted line) figures = ContourFor side (IsLineBound side line) figures
StandFor side (Region area) figures = BoundRegion side area figures
StandFor side (Turned t) figures = BoundTurned side t.contour.items t.about t.angle figures
StandFor side (TurnedDisc disc) figures = DiscFor side (IsDiscBound side disc) figures
StandFor side (Polygon g) figures = ContourFor side (IsPolygonBound side g) figures
StandFor side (Fine fine) figures = FigureFor side (IsFineBound side fine) figures
StandFor side (Holed h) figures = BoundHoled side h figures

-- the figures of the pieces
abbrev pub figures_of : List PlainPiece → List Figure
figures_of pieces = map (λ (p : PlainPiece). p.figure) pieces

-- the piece is on these layers
abbrev pub IsOn : ℕ → ℕ → PlainPiece → Type 0
IsOn top bottom p = (p.top ≡ top) × (p.bottom ≡ bottom)

-- the pieces stand for the real piece, all on its layers
pub record PiecesStandFor (side : Side) (real : Placed RealShape) (pieces : List PlainPiece) : Type 0 where
  pub figures : StandFor side real.shape (figures_of pieces)
  pub layers : All (IsOn real.top real.bottom) pieces

-- the pieces that are counted to real piece i: as many as its count, after those of the real pieces before it
abbrev pub share_of : List ℕ → List PlainPiece → ℕ → List PlainPiece
share_of counts pieces i = take (slice_index counts i) (drop (sum (take i counts)) pieces)

-- there is one count for each real piece, and they sum to the pieces
pub record AddUp (real : List (Placed RealShape)) (counts : List ℕ) (pieces : List PlainPiece) : Type 0 where
  pub each : length counts ≡ length real
  pub all : sum counts ≡ length pieces

-- for each of the first n real pieces stand those that are counted to it
abbrev pub FirstStand : Side → ℕ → List (Placed RealShape) → List ℕ → List PlainPiece → Type 0
FirstStand side n real counts pieces = (i : ℕ) (piece : Placed RealShape) → i < n → slice_get real i ≡ Some piece → PiecesStandFor side piece (share_of counts pieces i)

-- the pieces, as they are counted, stand for the real ones
pub record AreBounds (side : Side) (real : List (Placed RealShape)) (counts : List ℕ) (pieces : List PlainPiece) : Type 0 where
  pub counted : AddUp real counts pieces
  pub stand : FirstStand side (length real) real counts pieces
