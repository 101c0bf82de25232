-- The plane: points with rational coordinates, and what it means to lie in a capsule.
use Rattle.std.specs.Prelude.{ℕ, ◌*◌, nat_le, Bool, ◌&&◌, ℤ, pos, neg_ℤ, unsigned_abs, ◌+ℤ◌, ◌-ℤ◌, ◌*ℤ◌, ◌≤ℤ◌, ◌<ℤ◌, ◌⊎◌, ⊤, List, [], ◌∷◌}
use Rattle.std.specs.Ordering.{int_eq}
use Rattle.planar.specs.declared.Frame.{Frame}
use Rattle.planar.specs.declared.Spot.{Spot}
use Rattle.planar.specs.declared.TheConstants.{METRE, MOST_REACH, SIDE, TWO_METRES}
use Rattle.planar.specs.declared.ways.Way.{Way}

-- the number times itself
abbrev pub square : ℤ → ℤ
square z = z *ℤ z

-- the cross product of a - o and b - o
abbrev pub cross_of : Spot → Spot → Spot → ℤ
cross_of o a b = (a.x -ℤ o.x) *ℤ (b.y -ℤ o.y) -ℤ (a.y -ℤ o.y) *ℤ (b.x -ℤ o.x)

-- their scalar product
abbrev pub dot_of : Spot → Spot → Spot → ℤ
dot_of o a b = (a.x -ℤ o.x) *ℤ (b.x -ℤ o.x) +ℤ (a.y -ℤ o.y) *ℤ (b.y -ℤ o.y)

-- the point (x/n, y/n)
pub record Point : Type 0 where
  pub x : ℤ
  pub y : ℤ
  pub n : ℤ
  pub positive : pos 1 ≤ℤ n

-- the spot as a point
abbrev pub at : Spot → Point
at p = record { x = p.x; y = p.y; n = pos 1; positive = record { le = tt } }

-- some place on the segment from a to b, i/m of the way, is at most r from the point
pub record InCapsule (a b : Spot) (r : ℤ) (p : Point) : Type 0 where
  pub i : ℤ
  pub m : ℤ
  pub from_start : pos 0 ≤ℤ i
  pub to_end : i ≤ℤ m
  pub positive : pos 1 ≤ℤ m
  pub near : (square (m *ℤ p.x -ℤ p.n *ℤ (m *ℤ a.x +ℤ i *ℤ (b.x -ℤ a.x))) +ℤ square (m *ℤ p.y -ℤ p.n *ℤ (m *ℤ a.y +ℤ i *ℤ (b.y -ℤ a.y)))) ≤ℤ square (p.n *ℤ m *ℤ r)

-- some point lies in the capsules (a, b, r) and (c, d, s)
pub record Share (a b : Spot) (r : ℤ) (c d : Spot) (s : ℤ) : Type 0 where
  pub point : Point
  pub in_first : InCapsule a b r point
  pub in_second : InCapsule c d s point

-- an end of the segment from a to b is at most r from the segment from c to d
abbrev pub AnEnd : Spot → Spot → Spot → Spot → ℤ → Type 0
AnEnd a b c d r = InCapsule c d r (at a) ⊎ InCapsule c d r (at b)

-- of the ends of an edge `low` is not above p and `high` is, and the edge passes strictly to the right of p at p's height
abbrev pub PassesRight : Spot → Spot → Point → Type 0
PassesRight low high p =
    ((p.n *ℤ low.y) ≤ℤ p.y) × (p.y <ℤ (p.n *ℤ high.y)) ×
    (pos 0 <ℤ ((high.x -ℤ low.x) *ℤ (p.y -ℤ p.n *ℤ low.y) +ℤ (p.n *ℤ low.x -ℤ p.x) *ℤ (high.y -ℤ low.y)))

-- the ray from p to the right crosses the edge between a and b
abbrev pub RayCrosses : Spot → Spot → Point → Type 0
RayCrosses a b p = PassesRight a b p ⊎ PassesRight b a p

-- z is at most n from 0
abbrev pub IsWithin : ℕ → ℤ → Type 0
IsWithin n z = (neg_ℤ (pos n) ≤ℤ z) × (z ≤ℤ pos n)

-- a coordinate at most one metre from 0
abbrev pub IsReached : ℤ → Type 0
IsReached z = IsWithin METRE z

-- a spot whose coordinates are
abbrev pub IsPlaced : Spot → Type 0
IsPlaced p = IsReached p.x × IsReached p.y

-- the same as a test
abbrev pub is_placed : Spot → Bool
is_placed p = nat_le (unsigned_abs p.x) METRE && nat_le (unsigned_abs p.y) METRE

-- the spots are one, as a test
abbrev pub same_spot : Spot → Spot → Bool
same_spot a b = int_eq a.x b.x && int_eq a.y b.y

-- a spot that a way of a metre leads to from one within a metre
abbrev pub IsReachable : Spot → Type 0
IsReachable p = IsWithin TWO_METRES p.x × IsWithin TWO_METRES p.y

-- a way from there to a spot within a metre
abbrev pub IsLong : Way → Type 0
IsLong u = IsWithin (3 * METRE) u.x × IsWithin (3 * METRE) u.y

-- what is said of two spots holds of the start and the end of each edge of the line from a through the spots; where there are none it says nothing
abbrev pub EachFrom : (Spot → Spot → Type 0) → Spot → List Spot → Type 0
EachFrom P a [] = ⊤
EachFrom P a (b ∷ rest) = P a b × EachFrom P b rest

-- z lies from low to low + SIDE
abbrev pub IsInSide : ℤ → ℤ → Type 0
IsInSide low z = (low ≤ℤ z) × (z ≤ℤ (low +ℤ SIDE))

-- the spot lies in the closed frame
abbrev pub IsInFrame : Frame → Spot → Type 0
IsInFrame f p = IsInSide f.left p.x × IsInSide f.low p.y

-- a radius from 0 to MOST_REACH
abbrev pub IsRadius : ℤ → Type 0
IsRadius r = (pos 0 ≤ℤ r) × (r ≤ℤ MOST_REACH)
