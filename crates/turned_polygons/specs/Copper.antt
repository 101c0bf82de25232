-- Regular polygons whose middle is turned about a spot, as sets of rational points.
-- Source, cited as docs/FORMATS.md says: Gerber Layer Format Specification, 4.5.1 (a polygon, code 5: its middle is anywhere, and the rotation is about the origin of the macro, so the middle goes with it)
use Rattle.std.specs.Prelude.{◌+ℤ◌, ◌-ℤ◌, ◌*ℤ◌}
use Rattle.planar.specs.Plane.{Point}
use Rattle.planar.proofs.Ring.{over_zero}
use Rattle.slants.specs.Cones.{turns_by}
use Rattle.slants.specs.Polygons.{PossiblyInPolygon, SurelyInPolygon}
use Rattle.slants.specs.Turned.{IsBetween, IsTurn, meet_of}
use Rattle.slants.specs.declared.turns.Motions.{Motions}
use Rattle.slants.specs.declared.turns.Turn.{Turn}
use Rattle.turned_polygons.specs.declared.TurnedPolygon.{TurnedPolygon}

-- the turns of the middle about the spot, from one that is less than its angle to one that is more
abbrev pub turns_of : TurnedPolygon → Motions
turns_of a = turns_by a.about a.angle

-- where a turn takes the middle
abbrev pub middle_at : (a : TurnedPolygon) (t : Turn) → IsTurn t → Point
middle_at a t some = record {
  x = (meet_of t t).n *ℤ a.about.x +ℤ ((meet_of t t).x *ℤ (a.polygon.centre.x -ℤ a.about.x) -ℤ (meet_of t t).y *ℤ (a.polygon.centre.y -ℤ a.about.y));
  y = (meet_of t t).n *ℤ a.about.y +ℤ ((meet_of t t).x *ℤ (a.polygon.centre.y -ℤ a.about.y) +ℤ (meet_of t t).y *ℤ (a.polygon.centre.x -ℤ a.about.x));
  n = (meet_of t t).n;
  positive = some;
}

-- the point that lies from the middle before the turn as p does from that after it
abbrev pub moved_back : (a : TurnedPolygon) (t : Turn) → IsTurn t → Point → Point
moved_back a t some p = record {
  x = (meet_of t t).n *ℤ p.x +ℤ p.n *ℤ ((meet_of t t).n *ℤ a.polygon.centre.x -ℤ (middle_at a t some).x);
  y = (meet_of t t).n *ℤ p.y +ℤ p.n *ℤ ((meet_of t t).n *ℤ a.polygon.centre.y -ℤ (middle_at a t some).y);
  n = (meet_of t t).n *ℤ p.n;
  positive = over_zero (meet_of t t).n p.n some p.positive;
}

-- the polygon, moved with its middle, surely has the point at each of these turns: directions of corners are those after the turn
abbrev pub SurelyIn : TurnedPolygon → Point → Type 0
SurelyIn a p = (t : Turn) → (k : IsBetween (turns_of a) t) → SurelyInPolygon a.polygon (moved_back a t k.some p)

-- it possibly has it at one of them
abbrev pub PossiblyIn : TurnedPolygon → Point → Type 0
PossiblyIn a p = (t : Turn) × (k : IsBetween (turns_of a) t) × PossiblyInPolygon a.polygon (moved_back a t k.some p)

-- The points are a copper of the polygon: all that surely are in it are, and no others than those that possibly are
pub record IsTurnedPolygonCopper (a : TurnedPolygon) (holds : Point → Type 0) : Type 0 where
  pub least : (p : Point) → SurelyIn a p → holds p
  pub most : (p : Point) → holds p → PossiblyIn a p
