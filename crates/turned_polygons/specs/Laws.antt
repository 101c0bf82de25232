-- Laws over the definitions.
use Rattle.std.specs.Prelude.{◌<◌, List}
use Rattle.planar.specs.Plane.{Point}
use Rattle.planar.specs.declared.Spot.{Spot}
use Rattle.board_shapes.specs.Figures.{InFigure, filled}
use Rattle.slants.specs.Polygons.{IsPolygon}
use Rattle.slants.specs.declared.cones.TheConstants.{RIGHT_ANGLE}
use Rattle.turned_polygons.specs.Copper.{PossiblyIn, SurelyIn}
use Rattle.turned_polygons.specs.Taken.{TurnedPolygonAbove, TurnedPolygonBelow}
use Rattle.turned_polygons.specs.declared.TurnedPolygon.{TurnedPolygon}

-- A contour that is taken below surely lies in the polygon at each turn by about its angle, and one that is taken above holds all that possibly lies in it at one
abbrev pub TurnedPolygonIsBetween : Type 0
TurnedPolygonIsBetween = (a : TurnedPolygon) (points : List Spot) (p : Point) → (TurnedPolygonBelow a points → InFigure (filled points) p → SurelyIn a p) × (TurnedPolygonAbove a points → PossiblyIn a p → InFigure (filled points) p)

-- There is a copper of each of 3 to 12 corners whose middle is turned by less than a right angle: what surely lies in it possibly does
abbrev pub TurnedPolygonsHaveCopper : Type 0
TurnedPolygonsHaveCopper = (a : TurnedPolygon) (p : Point) → a.angle < RIGHT_ANGLE → IsPolygon a.polygon → SurelyIn a p → PossiblyIn a p
