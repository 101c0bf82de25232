-- What a contour bounds (Gerber Layer Format Specification, 4.10).
use Rattle.std.specs.Prelude.{◌≡◌, Bool, true, false, ◌&&◌, not, nat_lt, if◌then◌else◌, List, [], ◌∷◌, length, map, Option, Some, None, is_none}
use Rattle.std.specs.List.{list_all}
use Rattle.planar.specs.Plane.{same_spot}
use Rattle.planar.specs.declared.Spot.{Spot}
use Rattle.board_shapes.specs.Figures.{filled}
use Rattle.arc_regions.specs.declared.Part.{Part}
use Rattle.arc_regions.specs.declared.Part.TheVariants.{Straight, Curved}
use Rattle.regions.specs.Contours.{Leg, Outline}
use Rattle.real_copper.specs.Figures.{RealFigure, exact, region}
use Rattle.real_copper.specs.declared.draw.Bend.{Bend}

-- an edge of a contour: where it ends, and its bend, if it is an arc
abbrev pub Edge : Type 0
Edge = Leg (Option Bend)

abbrev pub part_by : Spot → Option Bend → Part
part_by to None = Straight to
part_by to (Some b) = Curved (record { centre = b.centre; end = to; counterclockwise = not b.clockwise })

abbrev pub part_of : Edge → Part
part_of e = part_by e.to e.bend

abbrev pub is_straight : List Edge → Bool
is_straight edges = list_all (λ (e : Edge). is_none e.bend) edges

-- What a contour bounds by even and odd (4.10): without arcs an area, with arcs a region of its edges.
abbrev pub end_of_edge : Edge → Spot
end_of_edge e = e.to

abbrev pub straight_area : Outline (Option Bend) → RealFigure
straight_area o = exact (filled (o.first ∷ map end_of_edge o.legs))

abbrev pub curved_area : Outline (Option Bend) → RealFigure
curved_area o = region o.first (map part_of o.legs)

abbrev pub area_of : Outline (Option Bend) → RealFigure
area_of o = if is_straight o.legs then straight_area o else curved_area o

-- where the last edge ends
abbrev pub end_of : Spot → List Edge → Spot
end_of p [] = p
end_of p (e ∷ edges) = end_of e.to edges

-- One or two straight edges bound nothing; an arc may, as one that is a whole turn, and as two from end to end (4.7, 4.10).
abbrev pub is_too_short : Outline (Option Bend) → Bool
is_too_short o = nat_lt (length o.legs) 3 && is_straight o.legs

-- a contour of edges enough that ends where it begins
pub record IsClosedOutline (o : Outline (Option Bend)) : Type 0 where
  pub enough : is_too_short o ≡ false
  pub closed : same_spot (end_of o.first o.legs) o.first ≡ true
