-- Laws over the copper of a layer.
use Rattle.std.specs.Prelude.{ℕ, ◌↔◌, List, length, map, slice_get, All}
use Rattle.planar.specs.Plane.{Point}
use Rattle.planar.specs.declared.Frame.{Frame}
use Rattle.board_shapes.specs.Figures.{InFigure, figure_of}
use Rattle.board_shapes.specs.declared.shape.Shape.{Shape}
use Rattle.clear_polarity.specs.Layer.{IsCopper, IsDarkAfter, IsLast}
use Rattle.clear_polarity.specs.Readings.{AreKnown, InSome, IsPossibly, IsReading, IsSurely, PlainObject, least_marks, most_holds, most_marks, order_of, plain_objects}
use Rattle.clear_polarity.specs.Taken.{AreHeld, IsLeft}
use Rattle.clear_polarity.specs.declared.LayerObject.{LayerObject}
use Rattle.clear_polarity.specs.declared.LowerPiece.{LowerPiece}
use Rattle.clear_polarity.specs.declared.Polarity.{Polarity}
use Rattle.clear_polarity.specs.declared.Polarity.TheVariants.{Dark, Clear}

-- A point is copper exactly where it is dark after all objects
abbrev pub CopperIsDarkAfterAll : (ℕ → Point → Type 0) → Type 0
CopperIsDarkAfterAll marks = (order : List Polarity) (p : Point) → IsDarkAfter order marks (length order) p ↔ IsCopper order marks p

-- It is where the last object that has it is dark, and is not where that is clear
pub record LastDecides (marks : ℕ → Point → Type 0) : Type 0 where
  pub dark : (order : List Polarity) (i : ℕ) (p : Point) → IsLast order marks i Dark p → IsCopper order marks p
  pub clear : (order : List Polarity) (i : ℕ) (p : Point) → IsLast order marks i Clear p → IsCopper order marks p → ⊥

-- What is surely copper is copper by the reading, and what is copper by it is possibly copper
pub record LiesBetween (objects : List PlainObject) (marks : ℕ → Point → Type 0) : Type 0 where
  pub least : (p : Point) → IsSurely objects p → IsCopper (order_of objects) marks p
  pub most : (p : Point) → IsCopper (order_of objects) marks p → IsPossibly objects p

-- So it is by each reading
abbrev pub ReadingsLieBetween : (ℕ → Point → Type 0) → (ℕ → Point → Type 0) → Type 0
ReadingsLieBetween holds marks = (objects : List PlainObject) → IsReading objects holds marks → LiesBetween objects marks

-- Each layer has a reading by which exactly what is surely copper is, and one by which all that is possibly copper is
pub record BoundsAreRead (objects : List PlainObject) : Type 0 where
  pub least : IsReading objects (λ i. least_marks (slice_get objects i)) (λ i. least_marks (slice_get objects i))
  pub surely : (p : Point) → IsCopper (order_of objects) (λ i. least_marks (slice_get objects i)) p ↔ IsSurely objects p
  pub most : IsReading objects (λ i. most_holds (slice_get objects i)) (λ i. most_marks (slice_get objects i))
  pub possibly : (p : Point) → IsCopper (order_of objects) (λ i. most_marks (slice_get objects i)) p ↔ IsPossibly objects p

abbrev pub LayersHaveCopper : Type 0
LayersHaveCopper = (objects : List PlainObject) → AreKnown objects → BoundsAreRead objects

-- Each point of the pieces below is copper by the reading, and each point that is lies in a figure above
pub record AreLayerBounds (lower : List LowerPiece) (objects : List LayerObject) (upper : List Shape) (marks : ℕ → Point → Type 0) : Type 0 where
  pub below : All (λ (piece : LowerPiece). (p : Point) → InFigure (figure_of piece.shape) p → IsCopper (order_of (plain_objects objects)) marks p) lower
  pub above : (p : Point) → IsCopper (order_of (plain_objects objects)) marks p → InSome (map figure_of upper) p

-- So it is of pieces that the checks take
abbrev pub BoundsLieBetween : (ℕ → Point → Type 0) → (ℕ → Point → Type 0) → Type 0
BoundsLieBetween holds marks = (frame : Frame) (lower : List LowerPiece) (objects : List LayerObject) (upper : List Shape) → IsReading (plain_objects objects) holds marks → All (IsLeft frame objects) lower → AreHeld objects upper → AreLayerBounds lower objects upper marks
