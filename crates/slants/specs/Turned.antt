-- Figures that are turned and moved, as sets of rational points, without roots and angles.
-- Source, cited as docs/FORMATS.md says: Gerber Layer Format Specification, 4.5.1 (each primitive is rotated counterclockwise about the origin of the macro)
use Rattle.std.specs.Prelude.{◌*◌, ℤ, pos, neg_ℤ, ◌+ℤ◌, ◌-ℤ◌, ◌*ℤ◌, ◌≤ℤ◌, ◌≡◌, List, All}
use Rattle.planar.specs.Plane.{IsPlaced, IsWithin, Point, cross_of, dot_of}
use Rattle.planar.specs.declared.Spot.{Spot}
use Rattle.planar.specs.declared.TheConstants.{TWO_METRES}
use Rattle.planar.proofs.Ring.{over_zero}
use Rattle.area_contact.specs.Contour.{IsClosed}
use Rattle.board_shapes.specs.Figures.{InFigure, filled}
use Rattle.slants.specs.Rounds.{GoesRound}
use Rattle.slants.specs.Taken.{Each}
use Rattle.slants.specs.declared.turned.Parts.{Parts}
use Rattle.slants.specs.declared.turns.Triangle.{Triangle}
use Rattle.slants.specs.declared.turns.Heading.{Heading}
use Rattle.slants.specs.declared.turns.Motions.{Motions}
use Rattle.slants.specs.declared.turns.Turn.{Turn}
use Rattle.slants.specs.declared.turns.TheConstants.{MOST_PART}

-- Of one turn, (x/n, y/n) are its cosine and its sine: it is counterclockwise, by twice the angle from (1, 0) to (t.x, t.y).
-- Of two whose ways are less than a right angle apart, that is where the tangents of the circle at both of these places meet
abbrev pub meet_of : Turn → Turn → Heading
meet_of u v = record { x = u.x *ℤ v.x -ℤ u.y *ℤ v.y; y = u.x *ℤ v.y +ℤ u.y *ℤ v.x; n = u.x *ℤ v.x +ℤ u.y *ℤ v.y }

-- its way leads somewhere
abbrev pub IsTurn : Turn → Type 0
IsTurn t = pos 1 ≤ℤ (meet_of t t).n

-- the point of the figure that comes to p: from `to` to p, turned back, from `from` on
abbrev pub turned_back : (m : Motions) (t : Turn) → IsTurn t → Point → Point
turned_back m t some p = record {
  x = (meet_of t t).n *ℤ (p.n *ℤ m.from.x) +ℤ ((meet_of t t).x *ℤ (p.x -ℤ p.n *ℤ m.to.x) +ℤ (meet_of t t).y *ℤ (p.y -ℤ p.n *ℤ m.to.y));
  y = (meet_of t t).n *ℤ (p.n *ℤ m.from.y) +ℤ ((meet_of t t).x *ℤ (p.y -ℤ p.n *ℤ m.to.y) -ℤ (meet_of t t).y *ℤ (p.x -ℤ p.n *ℤ m.to.x));
  n = (meet_of t t).n *ℤ p.n;
  positive = over_zero (meet_of t t).n p.n some p.positive;
}

-- the point lies in the figure of the contour, turned about `from`, which comes to `to`
pub record InTurned (figure : List Spot) (m : Motions) (t : Turn) (p : Point) : Type 0 where
  pub some : IsTurn t
  pub inside : InFigure (filled figure) (turned_back m t some p)

-- The turn lies in the cone: its way, some times, is a sum of multiples from 0 on of the ways of both
pub record IsBetween (m : Motions) (t : Turn) : Type 0 where
  pub some : IsTurn t
  pub i : ℤ
  pub j : ℤ
  pub k : ℤ
  pub positive : pos 1 ≤ℤ i
  pub from_first : pos 0 ≤ℤ j
  pub from_last : pos 0 ≤ℤ k
  pub across : i *ℤ t.x ≡ j *ℤ m.first.x +ℤ k *ℤ m.last.x
  pub up : i *ℤ t.y ≡ j *ℤ m.first.y +ℤ k *ℤ m.last.y

-- ---- which are taken

-- parts of a turn within MOST_PART
abbrev pub IsSmall : Turn → Type 0
IsSmall t = IsWithin MOST_PART t.x × IsWithin MOST_PART t.y

-- so are those of both turns, and both spots are within a metre
pub record AreReady (m : Motions) : Type 0 where
  pub first : IsSmall m.first
  pub last : IsSmall m.last
  pub from : IsPlaced m.from
  pub to : IsPlaced m.to

-- factors whose products, and the sums of three of them, fit in 128 bits
abbrev pub IsBounded : Heading → Type 0
IsBounded d = IsWithin (2 * MOST_PART * MOST_PART) d.x × IsWithin (2 * MOST_PART * MOST_PART) d.y × IsWithin (2 * MOST_PART * MOST_PART) d.n

-- of a triangle that holds each direction of the cone, where the ways are less than a right angle apart: both directions, and where the tangents there meet
pub record IsTriangle (m : Motions) (k : Triangle) : Type 0 where
  pub first : k.first ≡ meet_of m.first m.first
  pub middle : k.middle ≡ meet_of m.first m.last
  pub last : k.last ≡ meet_of m.last m.last
  pub first_bounded : IsBounded k.first
  pub middle_bounded : IsBounded k.middle
  pub last_bounded : IsBounded k.last

abbrev pub AreBounded : Parts → Type 0
AreBounded a = IsWithin (4 * TWO_METRES * TWO_METRES) a.still × IsWithin (4 * TWO_METRES * TWO_METRES) a.across × IsWithin (4 * TWO_METRES * TWO_METRES) a.along

-- n times how far the spot, turned so and moved, is on the left of the line from b to c
abbrev pub lean_of : Motions → Spot → Spot → Heading → Spot → ℤ
lean_of m b c d q = cross_of b c m.to *ℤ d.n +ℤ (cross_of b c q -ℤ cross_of b c m.from) *ℤ d.x +ℤ (dot_of b c q -ℤ dot_of b c m.from) *ℤ d.y

-- the spot is on the left at the three corners of that
abbrev pub Leans : Motions → Spot → Spot → Spot → Type 0
Leans m b c q = (pos 0 ≤ℤ lean_of m b c (meet_of m.first m.first) q) × (pos 0 ≤ℤ lean_of m b c (meet_of m.first m.last) q) × (pos 0 ≤ℤ lean_of m b c (meet_of m.last m.last) q)

-- and so is each corner of the figure
abbrev pub AllLean : List Spot → Motions → Spot → Spot → Type 0
AllLean figure m b c = Each (Leans m b c) figure

-- a closed figure, and a contour that goes round once and has each corner of the figure, at the three places of the cone, on the left of
-- each edge
pub record TurnedAbove (figure : List Spot) (m : Motions) (points : List Spot) : Type 0 where
  pub ready : AreReady m
  pub figure_placed : All IsPlaced figure
  pub placed : All IsPlaced points
  pub closed : IsClosed figure
  pub round : GoesRound (AllLean figure m) points

-- the motions back
abbrev pub mirrored : Turn → Turn
mirrored t = record { x = t.x; y = neg_ℤ t.y }

abbrev pub back_of : Motions → Motions
back_of m = record { first = mirrored m.first; last = mirrored m.last; from = m.to; to = m.from }

-- the figure goes round once, and is taken above the points that are turned back
abbrev pub TurnedBelow : List Spot → Motions → List Spot → Type 0
TurnedBelow figure m points = TurnedAbove points (back_of m) figure
