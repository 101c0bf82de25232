-- A contour, and the points of the area that it bounds.
use Rattle.std.specs.Prelude.{List, [], ◌∷◌, ℤ, pos, ◌+ℤ◌, ◌-ℤ◌, ◌*ℤ◌, ◌≤ℤ◌, ◌<ℤ◌, ◌≡◌, ◌≤◌, ◌<◌, ◌⊎◌, length, All}
use Rattle.planar.specs.Plane.{RayCrosses, InCapsule, IsPlaced, Point, Share}
use lib.IntN.{ℤ_set}
use Rattle.planar.specs.declared.Spot.{Spot}
use Rattle.contact.specs.declared.Bounds.{Bounds}
use Rattle.contact.specs.Solid.{joined}
use Rattle.area_contact.specs.declared.AreaFault.{AreaFault}
use Rattle.area_contact.specs.declared.AreaFault.TheVariants.{Open, Short, TooLong, NoMemory}
use Rattle.area_contact.specs.declared.Edge.{Edge}
use Rattle.area_contact.specs.declared.TheConstants.{MOST_CONTOUR_POINTS}

-- exactly one of the two holds
abbrev pub ExactlyOne : Type 0 → Type 0 → Type 0
ExactlyOne P Q = (P × ¬ Q) ⊎ (Q × ¬ P)

-- the edges of the line from a through the spots, each from one spot to the next
abbrev pub edges_from : Spot → List Spot → List Edge
edges_from a [] = []
edges_from a (b ∷ rest) = record { start = a; end = b } ∷ edges_from b rest

-- the edges of the line through the spots
abbrev pub edges_of : List Spot → List Edge
edges_of [] = []
edges_of (a ∷ rest) = edges_from a rest

-- the spot where that line ends
abbrev pub end_from : Spot → List Spot → Spot
end_from a [] = a
end_from a (b ∷ rest) = end_from b rest

-- the first spot of a list that has one
abbrev pub first_of : List Spot → Spot
first_of [] = record { x = pos 0; y = pos 0 }
first_of (a ∷ rest) = a

-- some edge of the list
abbrev pub SomeEdge : (Edge → Type 0) → List Edge → Type 0
SomeEdge P [] = ⊥
SomeEdge P (e ∷ es) = P e ⊎ SomeEdge P es

-- the point lies on the edge
abbrev pub OnEdge : Point → Edge → Type 0
OnEdge p e = InCapsule e.start e.end (pos 0) p

-- some point of the edge is at most r from the segment from u to v
abbrev pub Reaches : Spot → Spot → ℤ → Edge → Type 0
Reaches u v r e = Share e.start e.end (pos 0) u v r

-- the ray from p to the right crosses an odd number of the edges
abbrev pub OddCrossed : List Edge → Point → Type 0
OddCrossed [] p = ⊥
OddCrossed (e ∷ es) p = ExactlyOne (RayCrosses e.start e.end p) (OddCrossed es p)

-- the point lies in the area that the edges bound
abbrev pub InArea : List Edge → Point → Type 0
InArea es p = SomeEdge (OnEdge p) es ⊎ OddCrossed es p

-- the contour ends where it begins
abbrev pub IsClosed : List Spot → Type 0
IsClosed [] = Unit {0}
IsClosed (a ∷ rest) = end_from a rest ≡ a

-- there is one proof of that
pub IsClosed-prop : (points : List Spot) → IsProp (IsClosed points)
IsClosed-prop [] = hlevel (ℤ_set)
IsClosed-prop (a ∷ rest) = hlevel (ℤ_set)

-- the box of one spot
abbrev pub box_of_spot : Spot → Bounds
box_of_spot p = record { left = p.x; low = p.y; right = p.x; high = p.y }

-- the least box with b in it and the spot
abbrev pub widened : Bounds → Spot → Bounds
widened b p = joined b (box_of_spot p)

-- and with each spot of the list
abbrev pub widened_by : Bounds → List Spot → Bounds
widened_by b [] = b
widened_by b (p ∷ rest) = widened_by (widened b p) rest

-- from the least to the greatest coordinates of the corners
abbrev pub box_from : Spot → List Spot → Bounds
box_from a rest = widened_by (box_of_spot a) rest

-- and of a list of corners
abbrev pub area_box : List Spot → Bounds
area_box [] = record { left = pos 0; low = pos 0; right = pos 0; high = pos 0 }
area_box (a ∷ rest) = box_from a rest

-- the points of a contour: it is closed, has 3 to 100,000 edges, and each corner is within one metre
pub record IsContour (points : List Spot) : Type 0 where
  pub closed : IsClosed points
  pub enough : 4 ≤ length points
  pub not_many : length points ≤ MOST_CONTOUR_POINTS
  pub placed : All IsPlaced points

-- why a list of points becomes no area; the first three are told apart in this order, and memory is wanted for a contour of 64 edges or more
abbrev pub IsAreaFault : List Spot → AreaFault → Type 0
IsAreaFault points Open = ¬ IsClosed points
IsAreaFault points Short = IsClosed points × (length points < 4)
IsAreaFault points TooLong = IsClosed points × (MOST_CONTOUR_POINTS < length points)
IsAreaFault points NoMemory = IsClosed points × (64 < length points) × (length points ≤ MOST_CONTOUR_POINTS)

-- ---- of two points p and q with one n

-- z is i/m of the way from p to q
pub record OnWay (p q z : Point) : Type 0 where
  pub i : ℤ
  pub m : ℤ
  pub from_start : pos 0 ≤ℤ i
  pub to_end : i ≤ℤ m
  pub positive : pos 1 ≤ℤ m
  pub across : (m *ℤ p.n) *ℤ z.x ≡ z.n *ℤ (m *ℤ p.x +ℤ i *ℤ (q.x -ℤ p.x))
  pub up : (m *ℤ p.n) *ℤ z.y ≡ z.n *ℤ (m *ℤ p.y +ℤ i *ℤ (q.y -ℤ p.y))

-- the edge shares a point with the segment from p to q
pub record MeetsWay (p q : Point) (e : Edge) : Type 0 where
  pub point : Point
  pub on_edge : OnEdge point e
  pub on_way : OnWay p q point

-- the corner is above p, not above q, and strictly to the right of the line from p to q
abbrev pub Swept : Point → Point → Spot → Type 0
Swept p q c =
    (p.y <ℤ (p.n *ℤ c.y)) × ((p.n *ℤ c.y) ≤ℤ q.y) ×
    (((q.x -ℤ p.x) *ℤ (p.n *ℤ c.y -ℤ p.y) -ℤ (q.y -ℤ p.y) *ℤ (p.n *ℤ c.x -ℤ p.x)) <ℤ pos 0)
