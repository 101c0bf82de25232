-- The copper of a contour with arcs, as sets of rational points, without roots and angles.
-- Sources, cited as docs/FORMATS.md says: Gerber Layer Format Specification, 4.10 (a region is bounded by closed contours of straight and round segments), 4.7.2 (arcs: G02, G03, G75, the whole turn, ends at two distances)
use Rattle.std.specs.Prelude.{if◌then◌else◌, List, [], ◌∷◌, ℤ, pos, ◌*ℤ◌, ◌≤ℤ◌, ◌<ℤ◌, ◌≡◌, ◌⊎◌}
use Rattle.planar.specs.Plane.{InCapsule, Point, RayCrosses, cross_of, dot_of, square}
use Rattle.planar.specs.declared.Spot.{Spot}
use Rattle.area_contact.specs.Contour.{ExactlyOne}
use Rattle.arcs.specs.Copper.{InTurn, IsMeant, inmost, outmost, reach_of, side_of, swing}
use Rattle.arcs.specs.declared.Arc.{Arc}
use Rattle.arc_regions.specs.declared.Bend.{Bend}
use Rattle.arc_regions.specs.declared.Part.{Part}
use Rattle.arc_regions.specs.declared.Part.TheVariants.{Straight, Curved}

-- ---- parts

-- where the part ends
abbrev pub end_of : Part → Spot
end_of (Straight b) = b
end_of (Curved t) = t.end

-- the ends of the arc that begins at a, in their counterclockwise order
abbrev pub early : Spot → Bend → Spot
early a t = if t.counterclockwise then a else t.end

abbrev pub late : Spot → Bend → Spot
late a t = if t.counterclockwise then t.end else a

-- the arc as a draw of no width
abbrev pub arc_of : Spot → Bend → Arc
arc_of a t = record { centre = t.centre; start = early a t; end = late a t; width = 0 }

-- ---- the border

-- Ends that are in one direction from the centre, or of which one is the centre, are one spot. Of two such the standard does not say whether they are a whole turn apart or none
pub record HasTurn (a : Arc) : Type 0 where
  pub one : swing a ≡ pos 0 → pos 0 ≤ℤ dot_of a.centre a.start a.end → a.start ≡ a.end

-- it is settled what curves the arc may be: `IsMeant` suffices for that
abbrev pub IsTold : Arc → Type 0
IsTold a = IsMeant a × HasTurn a

-- the point is in the turn, and the square of its distance from the centre is from near to far
abbrev pub InBand : ℤ → ℤ → Arc → Point → Type 0
InBand near far a p = InTurn a.centre a.start a.end p × ((square p.n *ℤ near) ≤ℤ reach_of a.centre p) × (reach_of a.centre p ≤ℤ (square p.n *ℤ far))

-- The point may lie on the part that begins at a: on the straight segment, or in the turn, at one of the distances that a curve may have (4.7.2; what these are, `arcs` says). Where an arc is not told, any point may
abbrev pub OnSomeCurve : Spot → Part → Point → Type 0
OnSomeCurve a (Straight b) p = InCapsule a b (pos 0) p
OnSomeCurve a (Curved t) p = IsTold (arc_of a t) → InBand (inmost (arc_of a t)) (outmost (arc_of a t)) (arc_of a t) p

-- the point lies on the one curve that the part may have: of an arc only where its ends are at one distance
abbrev pub OnEachCurve : Spot → Part → Point → Type 0
OnEachCurve a (Straight b) p = InCapsule a b (pos 0) p
OnEachCurve a (Curved t) p = IsTold (arc_of a t) × InBand (outmost (arc_of a t)) (inmost (arc_of a t)) (arc_of a t) p

-- what is said of a part holds of one of the parts, of which the first begins at a and each other where the one before it ends
abbrev pub SomePart : (Spot → Part → Point → Type 0) → Spot → List Part → Point → Type 0
SomePart On a [] p = ⊥
SomePart On a (x ∷ rest) p = On a x p ⊎ SomePart On (end_of x) rest p

-- ---- inside

-- The point is on the right of the line from s to e. On that line it is told as the ray to the right tells a point of an edge: a point of an edge that is not level counts as one to its right, and
-- a point of a level edge as one above it
abbrev pub IsRight : Spot → Spot → Point → Type 0
IsRight s e p = (side_of s e p <ℤ pos 0) ⊎ ((side_of s e p ≡ pos 0) × ((s.y <ℤ e.y) ⊎ ((s.y ≡ e.y) × (e.x <ℤ s.x))))

-- the point's direction from c is met by a ray that turns, counterclockwise, from the direction of s to that of e, where the first and the last line are told in that way: by a half turn at most, by more, or by a whole one
abbrev pub InSweep : Spot → Spot → Spot → Point → Type 0
InSweep c s e p = ((pos 0 ≤ℤ cross_of c s e) × (IsRight s c p × IsRight c e p)) ⊎ (((cross_of c s e <ℤ pos 0) × (IsRight s c p ⊎ IsRight c e p)) ⊎ (s ≡ e))

-- the point lies in the sector: in the turn, and the square of its distance from c is at most f
abbrev pub InSector : Spot → Spot → Spot → ℤ → Point → Type 0
InSector c s e f p = (reach_of c p ≤ℤ (square p.n *ℤ f)) × InSweep c s e p

-- The ray from the point to the right crosses the straight segment. Of an arc an odd number of these holds: it crosses the line from the centre to where the arc begins; it crosses that to where it ends; the point lies in the
-- sector. Of a point on no curve each distance that a curve may have tells the same
abbrev pub IsOver : Spot → Part → Point → Type 0
IsOver a (Straight b) p = RayCrosses a b p
IsOver a (Curved t) p = ExactlyOne (RayCrosses t.centre a p) (ExactlyOne (RayCrosses t.centre t.end p) (InSector t.centre (early a t) (late a t) (dot_of t.centre a a) p))

-- that holds of an odd number of the parts
abbrev pub OddOver : Spot → List Part → Point → Type 0
OddOver a [] p = ⊥
OddOver a (x ∷ rest) p = ExactlyOne (IsOver a x p) (OddOver (end_of x) rest p)

-- ---- the copper

-- The point lies in the area that the parts bound, which begin at a, whatever curves their arcs are: on the one curve of a part, or inside by even and odd (4.10: a contour that does not cross itself has an inside), where it may lie
-- on a curve only if that is the one of its part
abbrev pub SurelyIn : Spot → List Part → Point → Type 0
SurelyIn a parts p = SomePart OnEachCurve a parts p ⊎ (OddOver a parts p × (SomePart OnSomeCurve a parts p → SomePart OnEachCurve a parts p))

-- it does by some curves of theirs
abbrev pub PossiblyIn : Spot → List Part → Point → Type 0
PossiblyIn a parts p = SomePart OnSomeCurve a parts p ⊎ OddOver a parts p

-- The points are a copper of the region: any set between both. Meant is that of one curve for each arc, which turns one way from start to end and whose distances from the centre are those that a curve of `arcs` may have
pub record IsCopper (a : Spot) (parts : List Part) (holds : Point → Type 0) : Type 0 where
  pub least : (p : Point) → SurelyIn a parts p → holds p
  pub most : (p : Point) → holds p → PossiblyIn a parts p
