-- Exactly which pieces the checks take below a layer and above it.
use Rattle.std.specs.Prelude.{◌+◌, pos, ◌≡◌, ◌⊎◌, List, [], ◌∷◌, ◌++◌, Some, All, drop, map, slice_get, ⊤}
use Rattle.planar.specs.Plane.{EachFrom, at}
use Rattle.planar.specs.declared.Frame.{Frame}
use Rattle.planar.specs.declared.Spot.{Spot}
use Rattle.area_contact.specs.Contour.{InArea, area_box, edges_of, first_of}
use Rattle.contact.specs.Solid.{IsInside, SharePoint}
use Rattle.board_shapes.specs.Figures.{Figure, InFigure, figure_box, figure_of, filled, round}
use Rattle.board_shapes.specs.declared.shape.Shape.{Shape}
use Rattle.clear_polarity.specs.declared.LayerObject.{LayerObject}
use Rattle.clear_polarity.specs.declared.LowerPiece.{LowerPiece}
use Rattle.clear_polarity.specs.declared.Polarity.{Polarity}
use Rattle.clear_polarity.specs.declared.Polarity.TheVariants.{Dark, Clear}

-- both lie in the frame, and share no point: borders that touch are shared
pub record AreApart (frame : Frame) (f g : Figure) : Type 0 where
  pub first : IsInside (figure_box f) frame
  pub second : IsInside (figure_box g) frame
  pub apart : ¬ SharePoint (InFigure f) (InFigure g)

-- the edge as a stroke of no width
abbrev pub edge_from : Spot → Spot → Figure
edge_from a b = round (record { a = a; b = b; r = pos 0 })

-- each edge of the line through the spots is apart from the figure
abbrev pub AreEdgesApart : Frame → Figure → List Spot → Type 0
AreEdgesApart frame f [] = ⊤
AreEdgesApart frame f (a ∷ rest) = EachFrom (λ u v. AreApart frame (edge_from u v) f) a rest

-- where a stroke starts, or a contour
abbrev pub first_spot : Figure → Spot
first_spot (round s) = s.a
first_spot (filled points) = first_of points

-- the figure touches no edge of the contour, and its first spot lies in it
pub record LiesInside (frame : Frame) (f : Figure) (points : List Spot) : Type 0 where
  pub inside : IsInside (area_box points) frame
  pub edges : AreEdgesApart frame f points
  pub first : InArea (edges_of points) (at (first_spot f))

-- the figure lies in the other: it is the same, or lies inside it, a contour
abbrev pub LiesInContour : Frame → Figure → Figure → Type 0
LiesInContour frame f (round s) = ⊥
LiesInContour frame f (filled points) = LiesInside frame f points

abbrev pub LiesIn : Frame → Figure → Figure → Type 0
LiesIn frame f g = (f ≡ g) ⊎ LiesInContour frame f g

-- a clear object is apart from the figure, by each of its outer figures; a dark one takes nothing away
abbrev pub SparesBy : Polarity → Type 0 → Type 0
SparesBy Dark apart = ⊤
SparesBy Clear apart = apart

abbrev pub Spares : Frame → Figure → LayerObject → Type 0
Spares frame f o = SparesBy o.polarity (All (λ (s : Shape). AreApart frame f (figure_of s)) o.outer.items)

-- The piece lies in that inner figure of that object, which is dark, and all later objects spare it
pub record IsLeft (frame : Frame) (objects : List LayerObject) (piece : LowerPiece) : Type 0 where
  pub object : LayerObject
  pub figure : Shape
  pub object_is : slice_get objects piece.object ≡ Some object
  pub figure_is : slice_get object.inner.items piece.figure ≡ Some figure
  pub dark : object.polarity ≡ Dark
  pub lies : LiesIn frame (figure_of piece.shape) (figure_of figure)
  pub spared : All (Spares frame (figure_of piece.shape)) (drop (piece.object + 1) objects)

-- the outer figures of a dark object, and of all of them in their order
abbrev pub dark_ones : Polarity → List Figure → List Figure
dark_ones Dark figures = figures
dark_ones Clear figures = []

abbrev pub dark_figures : List LayerObject → List Figure
dark_figures [] = []
dark_figures (o ∷ rest) = dark_ones o.polarity (map figure_of o.outer.items) ++ dark_figures rest

-- The figures above are those of the dark objects whole, in the order of the file: what is erased is left
abbrev pub AreHeld : List LayerObject → List Shape → Type 0
AreHeld objects upper = map figure_of upper ≡ dark_figures objects
