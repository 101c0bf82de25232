-- The copper of an arc draw with a round pen, as sets of rational points, without roots and angles.
-- Sources, cited as docs/FORMATS.md says: Gerber Layer Format Specification, 4.7.2 (arcs: G02, G03, G75, the centre, the whole turn, ends at two distances), 4.8.2 (a draw with a round pen has round ends)
-- Radii are fractions w/m, with m from 1 and w from 0
use Rattle.std.specs.Prelude.{ℕ, ◌+◌, ◌/◌, ℤ, pos, unsigned_abs, int_lt, if◌then◌else◌, ◌+ℤ◌, ◌-ℤ◌, ◌*ℤ◌, ◌≤ℤ◌, ◌<ℤ◌, ◌≡◌, ◌⊎◌, List, [], ◌∷◌}
use Rattle.std.specs.Int.{int_min, int_max}
use Rattle.planar.specs.Plane.{InCapsule, Point, cross_of, dot_of, square}
use Rattle.planar.specs.declared.Spot.{Spot}
use Rattle.arcs.specs.declared.Arc.{Arc}

-- ---- lengths by their squares

-- n times n times the square of the point's distance from c
abbrev pub reach_of : Spot → Point → ℤ
reach_of c p = square (p.x -ℤ p.n *ℤ c.x) +ℤ square (p.y -ℤ p.n *ℤ c.y)

-- the point is at most w/m from the spot
abbrev pub IsNear : ℤ → ℤ → Spot → Point → Type 0
IsNear m w a p = (square m *ℤ reach_of a p) ≤ℤ square (p.n *ℤ w)

-- two points are at most w/m apart
abbrev pub AreNear : ℤ → ℤ → Point → Point → Type 0
AreNear m w p q = (square m *ℤ (square (q.n *ℤ p.x -ℤ p.n *ℤ q.x) +ℤ square (q.n *ℤ p.y -ℤ p.n *ℤ q.y))) ≤ℤ square (p.n *ℤ q.n *ℤ w)

-- of two lengths whose squares are a and b the first is at most w more than the second: a - b - w w is at most 2 w times the second
abbrev pub AtMostLonger : ℤ → ℤ → ℤ → Type 0
AtMostLonger w a b = ((a -ℤ b -ℤ square w) ≤ℤ pos 0) ⊎ (square (a -ℤ b -ℤ square w) ≤ℤ (square (w +ℤ w) *ℤ b))

-- the point's distance from c is at most w/m over the length whose square is `far`, and at most w/m under that whose square is `near`
abbrev pub InRing : ℤ → ℤ → Spot → ℤ → ℤ → Point → Type 0
InRing m w c near far p =
    AtMostLonger (p.n *ℤ w) (square m *ℤ reach_of c p) (square m *ℤ (square p.n *ℤ far)) ×
    AtMostLonger (p.n *ℤ w) (square m *ℤ (square p.n *ℤ near)) (square m *ℤ reach_of c p)

-- ---- the turn

-- n times the cross product of a - c and p - c: from 0 where p is on the left of the line from c through a, or on it
abbrev pub side_of : Spot → Spot → Point → ℤ
side_of c a p = (a.x -ℤ c.x) *ℤ (p.y -ℤ p.n *ℤ c.y) -ℤ (a.y -ℤ c.y) *ℤ (p.x -ℤ p.n *ℤ c.x)

-- the point's direction from c is met by a ray that turns, counterclockwise, from the direction of s to that of e: by less than a half turn, by more,
-- by a half turn, or, where s and e are one spot, by a whole one (4.7.2). Each ray holds c
abbrev pub InTurn : Spot → Spot → Spot → Point → Type 0
InTurn c s e p =
    ((pos 0 <ℤ cross_of c s e) × (pos 0 ≤ℤ side_of c s p) × (side_of c e p ≤ℤ pos 0)) ⊎
    (((cross_of c s e <ℤ pos 0) × ((pos 0 ≤ℤ side_of c s p) ⊎ (side_of c e p ≤ℤ pos 0))) ⊎
    (((cross_of c s e ≡ pos 0) × (dot_of c s e <ℤ pos 0) × (pos 0 ≤ℤ side_of c s p)) ⊎ (s ≡ e)))

-- the same, or s and e are in one direction from c, or one of them is c: the standard does not say whether two such spots are a whole turn apart or none
abbrev pub MayTurn : Spot → Spot → Spot → Point → Type 0
MayTurn c s e p = InTurn c s e p ⊎ ((cross_of c s e ≡ pos 0) × (pos 0 ≤ℤ dot_of c s e))

-- ---- the copper

-- the squares of the lesser and of the greater of the distances of the ends from the centre
abbrev pub lesser : Arc → ℤ
lesser a = int_min (dot_of a.centre a.start a.start) (dot_of a.centre a.end a.end)

abbrev pub greater : Arc → ℤ
greater a = int_max (dot_of a.centre a.start a.start) (dot_of a.centre a.end a.end)

-- their difference
abbrev pub unlike : Arc → ℤ
unlike a = greater a -ℤ lesser a

-- the cross product of the ways from the centre to both ends: below 0 where the turn is more than a half
abbrev pub swing : Arc → ℤ
swing a = cross_of a.centre a.start a.end

-- the square of the distance between the ends
abbrev pub apart : Arc → ℤ
apart a = dot_of a.start a.end a.end

-- Of all circles through both ends, the one whose centre is nearest to the given centre has the given centre inside it. This is a condition without roots that
-- suffices for that. Ends in one line with the centre need none
abbrev pub IsMeant : Arc → Type 0
IsMeant a = (swing a ≡ pos 0) ⊎ ((unlike a ≤ℤ apart a) ⊎ (unlike a ≤ℤ (pos (unsigned_abs (swing a)) +ℤ pos (unsigned_abs (swing a)))))

-- how often the distance between the ends goes into the distance of the centre from the line through them, rounded down, and one more
abbrev pub times : Arc → ℕ
times a = unsigned_abs (swing a) / unsigned_abs (apart a) + 1

-- By how much the square of a distance from the centre may be outside those of the ends. Past a half turn it is their difference, so many times, since that circle
-- leaves them there. Up to a half turn, and for ends at one distance, it is 0
abbrev pub spread : Arc → ℤ
spread a = if int_lt (swing a) (pos 0) then unlike a *ℤ pos (times a) else pos 0

-- the squares of the least and of the greatest distance that a curve may have from the centre
abbrev pub inmost : Arc → ℤ
inmost a = int_max (lesser a -ℤ spread a) (pos 0)

abbrev pub outmost : Arc → ℤ
outmost a = greater a +ℤ spread a

-- In the copper of every curve of the arc, whatever its distances from the centre: in the turn and at most half the pen's width from each distance that a
-- curve may have, or at most that from an end
abbrev pub Surely : Arc → Point → Type 0
Surely a p = (IsMeant a × InTurn a.centre a.start a.end p × InRing (pos 2) (pos a.width) a.centre (outmost a) (inmost a) p) ⊎ (IsNear (pos 2) (pos a.width) a.start p ⊎ IsNear (pos 2) (pos a.width) a.end p)

-- some place of the turn is at most 1/k off the distances that a curve may have, and at most half the pen's width and 1/k from the point
pub record HasPlace (a : Arc) (k : ℤ) (p : Point) : Type 0 where
  pub place : Point
  pub turn : MayTurn a.centre a.start a.end place
  pub ring : InRing k (pos 1) a.centre (inmost a) (outmost a) place
  pub near : AreNear (pos 2 *ℤ k) (k *ℤ pos a.width +ℤ pos 2) place p

-- In the copper of some curve of the arc, or in the limit of such points: the pen, on some place that the curve may take, reaches the point. Where no arc
-- is meant, that is any point
abbrev pub Possibly : Arc → Point → Type 0
Possibly a p = IsMeant a → (k : ℤ) → pos 1 ≤ℤ k → HasPlace a k p

-- The points are a copper of the arc draw: any set between what is surely copper and what may be. Meant is that of one curve from start to end that turns one way,
-- and whose distances from the centre are those of the ends, between them (our reading of 4.7.2, where they are two) or, past a half turn, as far off them as `spread` says
pub record IsCopper (a : Arc) (holds : Point → Type 0) : Type 0 where
  pub least : (p : Point) → Surely a p → holds p
  pub most : (p : Point) → holds p → Possibly a p

-- ---- chains

-- the point lies in a capsule of radius r from a to the first of the list or from a spot of the list to the next
abbrev pub InFrom : Spot → List Spot → ℤ → Point → Type 0
InFrom a [] r p = ⊥
InFrom a (b ∷ rest) r p = InCapsule a b r p ⊎ InFrom b rest r p

abbrev pub InChain : List Spot → ℤ → Point → Type 0
InChain [] r p = ⊥
InChain (a ∷ rest) r p = InFrom a rest r p
