-- What is taken for a regular polygon bounds it.
use Rattle.std.proofs.lemmas.List.Elements.{All-weaker}
use Rattle.std.proofs.Common.{ℕ, ◌*◌, ◌+◌, ◌<◌, inl, inr, List, [], ◌∷◌}
use Rattle.planar.specs.declared.Spot.{Spot}
use Rattle.planar.specs.Plane.{Point}
use Rattle.board_shapes.specs.Figures.{InFigure, filled}
use Rattle.slants.specs.Polygons.{AllCornersLean, CornersLean, HasCorners, HaveCorners, InHull, IsBeside, PolygonBelow, PolygonsAbove, SurelyInPolygon, corner_of, edge_end, edge_start, turns_to}
use Rattle.slants.specs.Turned.{IsBetween}
use Rattle.slants.specs.declared.polygons.RegularPolygon.{RegularPolygon}
use Rattle.slants.specs.declared.turns.Turn.{Turn}
use Rattle.slants.proofs.Around.{back_left, leans_at}
use Rattle.slants.proofs.Inside.{lies_inside}

-- corners that lean at the places of their cones do so at each turn
has_corners : (g : RegularPolygon) (b c : Spot) → CornersLean g b c → HasCorners g b c
has_corners g b c all k t below between = leans_at (turns_to g (2 * k)) t b c (corner_of g k) between (all k below)

have_corners : (gs : List RegularPolygon) (b c : Spot) → AllCornersLean gs b c → HaveCorners gs b c
have_corners gs b c all = All-weaker (λ g. CornersLean g b c) (λ g. HasCorners g b c) (λ g h. has_corners g b c h) gs all

pub above_polygons : (gs : List RegularPolygon) (points : List Spot) (p : Point) → PolygonsAbove gs points → InHull gs p → InFigure (filled points) p
above_polygons gs points p h possible = lies_inside points p (λ b c all. possible b c (have_corners gs b c all)) h.round

pub below_polygon : (g : RegularPolygon) (points : List Spot) (p : Point) → PolygonBelow g points → InFigure (filled points) p → SurelyInPolygon g p
below_polygon g [] p h (inl z) = absurd z
below_polygon g [] p h (inr z) = absurd z
below_polygon g (a ∷ rest) p h inside = beside
  where
    beside : (k : ℕ) (t : Turn) → k < g.corners → IsBetween (turns_to g (2 * k + 1)) t → IsBeside (turns_to g (2 * k + 1)) t (edge_start g k) (edge_end g k) p
    beside k t below between = record { some = between.some; left = back_left (turns_to g (2 * k + 1)) t between (edge_start g k) (edge_end g k) a rest p h.closed (h.edges k below) inside }
