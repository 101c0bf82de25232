-- Discs that are turned about a spot, as sets of rational points, and the discs about whole spots that are taken for their bounds.
-- Source, cited as docs/FORMATS.md says: Gerber Layer Format Specification, 4.5.1 (a circle, code 1, is rotated counterclockwise about the origin of the macro)
use Rattle.std.specs.Prelude.{ℕ, ◌-◌, ◌≤◌, ◌<◌, ℤ, pos, ◌+ℤ◌, ◌-ℤ◌, ◌*ℤ◌, ◌≤ℤ◌}
use Rattle.planar.specs.Plane.{IsPlaced, Point, cross_of, dot_of, square}
use Rattle.planar.specs.declared.Spot.{Spot}
use Rattle.planar.specs.declared.TheConstants.{TWO_METRES}
use Rattle.board_shapes.specs.Figures.{Figure, InFigure, round}
use Rattle.slants.specs.Cones.{turns_by}
use Rattle.slants.specs.Turned.{AreReady, IsBetween, IsTurn, meet_of, turned_back}
use Rattle.slants.specs.declared.cones.TheConstants.{RIGHT_ANGLE}
use Rattle.slants.specs.declared.discs.TurnedDisc.{TurnedDisc}
use Rattle.slants.specs.declared.turns.Heading.{Heading}
use Rattle.slants.specs.declared.turns.Motions.{Motions}
use Rattle.slants.specs.declared.turns.Turn.{Turn}

-- the disc about a whole spot
abbrev pub disc_about : Spot → ℕ → Figure
disc_about centre r = round (record { a = centre; b = centre; r = pos r })

-- the turns about its spot, from one that is less than its angle to one that is more
abbrev pub turns_of : TurnedDisc → Motions
turns_of a = turns_by a.about a.angle

-- the point lies in the disc, turned so
pub record InTurnedDisc (a : TurnedDisc) (t : Turn) (p : Point) : Type 0 where
  pub some : IsTurn t
  pub inside : InFigure (disc_about a.centre a.radius) (turned_back (turns_of a) t some p)

-- at each of these turns
abbrev pub SurelyInDisc : TurnedDisc → Point → Type 0
SurelyInDisc a p = (t : Turn) → IsBetween (turns_of a) t → InTurnedDisc a t p

-- at one of them
abbrev pub PossiblyInDisc : TurnedDisc → Point → Type 0
PossiblyInDisc a p = (t : Turn) × IsBetween (turns_of a) t × InTurnedDisc a t p

-- The points are a copper of the disc: all that are in it at each of these turns are, and no others than those that are in it at one
pub record IsDiscCopper (a : TurnedDisc) (holds : Point → Type 0) : Type 0 where
  pub least : (p : Point) → SurelyInDisc a p → holds p
  pub most : (p : Point) → holds p → PossiblyInDisc a p

-- ---- which discs are taken

-- n times by how much the square of `far` is over that of the way from q, turned so about o, to s
abbrev pub room_of : Spot → Spot → Spot → ℕ → Heading → ℤ
room_of o q s far d = (square (pos far) -ℤ dot_of o q q -ℤ dot_of o s s) *ℤ d.n +ℤ (dot_of o q s +ℤ dot_of o q s) *ℤ d.x +ℤ (cross_of o q s +ℤ cross_of o q s) *ℤ d.y

-- that is 0 or over at both directions, and where their tangents meet
abbrev pub HasRoom : Motions → Spot → Spot → ℕ → Type 0
HasRoom m q s far = (pos 0 ≤ℤ room_of m.from q s far (meet_of m.first m.first)) × (pos 0 ≤ℤ room_of m.from q s far (meet_of m.first m.last)) × (pos 0 ≤ℤ room_of m.from q s far (meet_of m.last m.last))

-- the angle is below a right one, all spots are within a metre, and the disc's centre stays at most so far, up to two metres, from the spot
pub record StaysNear (a : TurnedDisc) (s : Spot) (far : ℕ) : Type 0 where
  pub acute : a.angle < RIGHT_ANGLE
  pub short : far ≤ TWO_METRES
  pub ready : AreReady (turns_of a)
  pub centre : IsPlaced a.centre
  pub placed : IsPlaced s
  pub room : HasRoom (turns_of a) a.centre s far

-- the disc about the spot is smaller by so much
pub record DiscBelow (a : TurnedDisc) (s : Spot) (r : ℕ) : Type 0 where
  pub small : r ≤ a.radius
  pub near : StaysNear a s (a.radius - r)

-- it is larger by so much
pub record DiscAbove (a : TurnedDisc) (s : Spot) (r : ℕ) : Type 0 where
  pub large : a.radius ≤ r
  pub near : StaysNear a s (r - a.radius)
