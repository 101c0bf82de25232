-- Regular polygons in any direction, and their copper.
-- Source, cited as docs/FORMATS.md says: Gerber Layer Format Specification, 4.4.5 and 4.5.1 (polygon, code 5: its corners are on a circle, the first in the direction of the x axis from the middle, before the rotation, which is counterclockwise)
-- Trusted beside specs/Cones: the middles of the edges lie from the middle as far as half the diameter, times the cosine of half the angle from a corner to the next
use Rattle.std.specs.Prelude.{ℕ, ◌+◌, ◌-◌, ◌*◌, ◌/◌, ◌%◌, ◌==◌, ◌≤◌, ◌<◌, if◌then◌else◌, pos, neg_ℤ, unsigned_abs, ◌+ℤ◌, ◌≤ℤ◌, List, All}
use Rattle.planar.specs.Plane.{IsPlaced, Point}
use Rattle.planar.specs.declared.Spot.{Spot}
use Rattle.planar.specs.declared.TheConstants.{METRE}
use Rattle.area_contact.specs.Contour.{IsClosed}
use Rattle.area_contact.specs.Parity.{side_of}
use Rattle.slants.specs.Cones.{cosine, turns_by}
use Rattle.slants.specs.Rounds.{GoesRound}
use Rattle.slants.specs.Turned.{AllLean, IsBetween, IsTurn, Leans, back_of, lean_of, meet_of, turned_back}
use Rattle.slants.specs.declared.cones.TheConstants.{RADIUS, RIGHT_ANGLE}
use Rattle.slants.specs.declared.polygons.RegularPolygon.{RegularPolygon}
use Rattle.slants.specs.declared.polygons.TheConstants.{HALF_TURN, PARTS}
use Rattle.slants.specs.declared.turns.Motions.{Motions}
use Rattle.slants.specs.declared.turns.Turn.{Turn}

-- ---- directions, in parts of 10^-7 degrees: what is no whole one is rounded down

-- the angle from a corner to the next
abbrev pub step_of : RegularPolygon → ℕ
step_of g = 2 * HALF_TURN / g.corners

-- the direction so many halves of it on from corner 0: 2 k leads to corner k, and 2 k + 1 to the middle of edge k, which goes from there to the next
abbrev pub direction_of : RegularPolygon → ℕ → ℕ
direction_of g h = g.angle + h * HALF_TURN / g.corners

-- turned counterclockwise about 0 by so many right angles
unfoldable pub quartered : ℕ → Spot → Spot
quartered k p =
    if k % 4 == 0 then p
    else (if k % 4 == 1 then record { x = neg_ℤ p.y; y = p.x }
    else (if k % 4 == 2 then record { x = neg_ℤ p.x; y = neg_ℤ p.y } else record { x = p.y; y = neg_ℤ p.x }))

-- what lies so from the middle is turned there by the right angles in a direction
abbrev pub place_of : RegularPolygon → ℕ → Spot → Spot
place_of g h p = record { x = g.centre.x +ℤ (quartered (direction_of g h / RIGHT_ANGLE) p).x; y = g.centre.y +ℤ (quartered (direction_of g h / RIGHT_ANGLE) p).y }

-- and about the middle by what is left of it
abbrev pub turns_to : RegularPolygon → ℕ → Motions
turns_to g h = turns_by g.centre (direction_of g h % RIGHT_ANGLE)

-- ---- corners and edges, which are so turned

-- half the diameter, rounded up
abbrev pub reach_of : RegularPolygon → ℕ
reach_of g = (g.diameter + (2 * PARTS - 1)) / (2 * PARTS)

-- times the cosine of half a step, rounded down: `cosine` is of half an angle, times RADIUS, and less than 1 off
abbrev pub inner_of : RegularPolygon → ℕ
inner_of g = g.diameter * (cosine (step_of g) - 1) / (2 * PARTS * RADIUS)

abbrev pub corner_of : RegularPolygon → ℕ → Spot
corner_of g k = place_of g (2 * k) (record { x = pos (reach_of g); y = pos 0 })

-- two spots of the line of an edge: the polygon is on its left
abbrev pub edge_start : RegularPolygon → ℕ → Spot
edge_start g k = place_of g (2 * k + 1) (record { x = pos (inner_of g); y = pos 0 })

abbrev pub edge_end : RegularPolygon → ℕ → Spot
edge_end g k = place_of g (2 * k + 1) (record { x = pos (inner_of g); y = pos 1 })

-- ---- the copper

-- the line through two spots, turned so, has the point on its left
pub record IsBeside (m : Motions) (t : Turn) (b c : Spot) (p : Point) : Type 0 where
  pub some : IsTurn t
  pub left : pos 0 ≤ℤ side_of b c (turned_back m t some p).x (turned_back m t some p).y (turned_back m t some p).n

-- so has that of each edge at each turn of its cone
abbrev pub SurelyInPolygon : RegularPolygon → Point → Type 0
SurelyInPolygon g p = (k : ℕ) (t : Turn) → k < g.corners → IsBetween (turns_to g (2 * k + 1)) t → IsBeside (turns_to g (2 * k + 1)) t (edge_start g k) (edge_end g k) p

-- the line through two spots has each corner on its left, at each turn of its cone
abbrev pub HasCorners : RegularPolygon → Spot → Spot → Type 0
HasCorners g b c = (k : ℕ) (t : Turn) → k < g.corners → IsBetween (turns_to g (2 * k)) t → pos 0 ≤ℤ lean_of (turns_to g (2 * k)) b c (meet_of t t) (corner_of g k)

-- each line that has all these on its left has the point there too: it lies in their hull
abbrev pub PossiblyInPolygon : RegularPolygon → Point → Type 0
PossiblyInPolygon g p = (b c : Spot) → HasCorners g b c → pos 0 ≤ℤ side_of b c p.x p.y p.n

-- so of the corners of several polygons
abbrev pub HaveCorners : List RegularPolygon → Spot → Spot → Type 0
HaveCorners gs b c = All (λ g. HasCorners g b c) gs

abbrev pub InHull : List RegularPolygon → Point → Type 0
InHull gs p = (b c : Spot) → HaveCorners gs b c → pos 0 ≤ℤ side_of b c p.x p.y p.n

-- from 3 to 12 corners (4.5.1.7)
pub record IsPolygon (g : RegularPolygon) : Type 0 where
  pub enough : 3 ≤ g.corners
  pub few : g.corners ≤ 12

-- ---- which contours are taken

-- so it has, wherever its middle is, and the circle through them ends less than 1 m from 0 in x and in y
pub record IsRegular (g : RegularPolygon) : Type 0 where
  pub corners : IsPolygon g
  pub across : unsigned_abs g.centre.x + reach_of g < METRE
  pub up : unsigned_abs g.centre.y + reach_of g < METRE

-- each corner is on the left of the line from b to c at the three places of its cone
abbrev pub CornersLean : RegularPolygon → Spot → Spot → Type 0
CornersLean g b c = (k : ℕ) → k < g.corners → Leans (turns_to g (2 * k)) b c (corner_of g k)

-- so of each polygon of the list
abbrev pub AllCornersLean : List RegularPolygon → Spot → Spot → Type 0
AllCornersLean gs b c = All (λ g. CornersLean g b c) gs

-- polygons, and a contour of spots within a metre, which goes round once with all their corners on the left of each edge, at the places of
-- their cones
pub record PolygonsAbove (gs : List RegularPolygon) (points : List Spot) : Type 0 where
  pub regular : All IsRegular gs
  pub placed : All IsPlaced points
  pub round : GoesRound (AllCornersLean gs) points

-- each of the points, turned back, is on the left of the edge
abbrev pub EdgeHolds : RegularPolygon → List Spot → ℕ → Type 0
EdgeHolds g points k = AllLean points (back_of (turns_to g (2 * k + 1))) (edge_start g k) (edge_end g k)

-- a closed contour whose corners are on the left of each edge
pub record PolygonBelow (g : RegularPolygon) (points : List Spot) : Type 0 where
  pub regular : IsRegular g
  pub placed : All IsPlaced points
  pub closed : IsClosed points
  pub edges : (k : ℕ) → k < g.corners → EdgeHolds g points k
