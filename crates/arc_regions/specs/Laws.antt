-- Laws over the definitions.
use Rattle.std.specs.Prelude.{List, [], ◌∷◌, ℤ, pos, ◌*ℤ◌, ◌≤ℤ◌, ⊤, ◌≡◌, ◌⊎◌, ◌↔◌}
use Rattle.planar.specs.Plane.{IsPlaced, Point, RayCrosses, dot_of, square}
use Rattle.planar.specs.declared.Frame.{Frame}
use Rattle.planar.specs.declared.Spot.{Spot}
use Rattle.area_contact.specs.Contour.{ExactlyOne, InArea, IsContour, edges_of}
use Rattle.arcs.specs.Copper.{inmost, outmost, reach_of}
use Rattle.arcs.specs.declared.Arc.{Arc}
use Rattle.arc_regions.specs.Copper.{HasTurn, InBand, InSector, IsRight, PossiblyIn, SurelyIn, end_of}
use Rattle.arc_regions.specs.declared.Part.{Part}
use Rattle.arc_regions.specs.declared.Part.TheVariants.{Straight, Curved}
use Rattle.arc_regions.specs.Taken.{Chained, InCapsules, TakenAbove, TakenBelow, corners_of, parts_of}

-- Where chains are taken, the polygon with them in place of the arcs, together with the capsules along them, holds all that may lie in the region
abbrev pub TakenHolds : Type 0
TakenHolds = (a : Spot) (stretches : List Chained) (p : Point) → TakenAbove a stretches → PossiblyIn a (parts_of stretches) p → InArea (edges_of (corners_of a stretches)) p ⊎ InCapsules stretches p

-- An area that is taken surely lies in the region
abbrev pub TakenLies : Type 0
TakenLies = (frame : Frame) (a : Spot) (stretches : List Chained) (points : List Spot) (p : Point) → IsContour points → TakenBelow frame a stretches points → InArea (edges_of points) p → SurelyIn a (parts_of stretches) p

-- What surely lies in a region may lie in it: so a region has a copper, of which the one is the least and the other the most
abbrev pub SurelyIsPossibly : Type 0
SurelyIsPossibly = (a : Spot) (parts : List Part) (p : Point) → SurelyIn a parts p → PossiblyIn a parts p

-- both ends of an arc are as far from its centre
abbrev pub IsEven : Spot → Part → Type 0
IsEven a (Straight b) = ⊤
IsEven a (Curved t) = dot_of t.centre a a ≡ dot_of t.centre t.end t.end

-- so they are of each
abbrev pub AreEven : Spot → List Part → Type 0
AreEven a [] = ⊤
AreEven a (x ∷ rest) = IsEven a x × AreEven (end_of x) rest

-- Then what may lie in the region surely does: it has one copper
abbrev pub PossiblyIsSurely : Type 0
PossiblyIsSurely = (a : Spot) (parts : List Part) (p : Point) → AreEven a parts → PossiblyIn a parts p → SurelyIn a parts p

-- Of a point on no curve each distance that a curve may have tells the same sector
abbrev pub SectorOfEach : Type 0
SectorOfEach = (arc : Arc) (f g : ℤ) (p : Point) → HasTurn arc → f ≤ℤ outmost arc → inmost arc ≤ℤ g → ¬ InBand (inmost arc) (outmost arc) arc p → InSector arc.centre arc.start arc.end f p → InSector arc.centre arc.start arc.end g p

-- the point lies in the circular segment between the arc about c, counterclockwise from s to e, and its chord: in the disc and on the right of the chord. Of a whole turn that is the disc
abbrev pub InSegment : Spot → Spot → Spot → Point → Type 0
InSegment c s e p = (reach_of c p ≤ℤ (square p.n *ℤ dot_of c s s)) × (IsRight s e p ⊎ (s ≡ e))

-- Where both ends, within a metre, are as far from the centre, an arc is over a point that is neither of them exactly where one of these holds and not the other: the ray crosses the chord, the point lies in the circular segment
abbrev pub SegmentOfEven : Type 0
SegmentOfEven = (c s e : Spot) (p : Point) → IsPlaced c → IsPlaced s → IsPlaced e → dot_of c s s ≡ dot_of c e e → ¬ (reach_of s p ≡ pos 0) → ¬ (reach_of e p ≡ pos 0)
    → ExactlyOne (RayCrosses c s p) (ExactlyOne (RayCrosses c e p) (InSector c s e (dot_of c s s) p)) ↔ ExactlyOne (RayCrosses s e p) (InSegment c s e p)
