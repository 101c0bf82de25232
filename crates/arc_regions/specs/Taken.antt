-- Exactly which chains the checks take.
use Rattle.std.specs.Prelude.{ℕ, Bool, not, ◌&&◌, false, IsTrue, if◌then◌else◌, List, [], ◌∷◌, ◌++◌, reverse, map, pos, int_lt, ⊤, ◌≡◌, ◌↔◌, ◌⊎◌}
use Rattle.planar.specs.Plane.{InCapsule, IsPlaced, Point, cross_of, EachFrom}
use Rattle.planar.specs.declared.Frame.{Frame}
use Rattle.planar.specs.declared.Spot.{Spot}
use Rattle.planar.proofs.EdgeLaw.{xor}
use Rattle.area_contact.specs.Contour.{InArea, area_box, edges_of, first_of}
use Rattle.area_contact.specs.Parity.{crossed, odd}
use Rattle.arcs.specs.Copper.{InChain}
use Rattle.arcs.specs.Taken.{TakenAbove as ChainAbove}
use Rattle.contact.specs.Round.{IsCapsuleRadius, box_of}
use Rattle.contact.specs.Solid.{IsInside, SharePoint}
use Rattle.arc_regions.specs.Copper.{HasTurn, early, end_of, late}
pub use Rattle.arc_regions.specs.Copper.{arc_of}
use Rattle.arc_regions.specs.declared.Bend.{Bend}
use Rattle.arc_regions.specs.declared.Part.{Part}
use Rattle.arc_regions.specs.declared.Part.TheVariants.{Straight, Curved}
use Rattle.arc_regions.specs.declared.Stretch.{Stretch}

-- the link from a to b, which goes counterclockwise round c by less than a half turn, goes past the direction of s from c, or comes to it
abbrev pub is_past : Spot → Spot → Spot → Spot → Bool
is_past c s a b = int_lt (cross_of c s a) (pos 0) && not (int_lt (cross_of c s b) (pos 0))

-- an odd number of the links of the chain from a do
abbrev pub odd_past : Spot → Spot → Spot → List Spot → Bool
odd_past c s a [] = false
odd_past c s a (b ∷ rest) = xor (is_past c s a b) (odd_past c s b rest)

abbrev pub odd_round : Spot → List Spot → Bool
odd_round c [] = false
odd_round c (s ∷ rest) = odd_past c s s rest

-- The chain may stand for the arc from a: ends in one direction from the centre are one spot, `arcs` takes the chain above a draw of no width, and it goes past the direction of its start an odd number of times
-- exactly where the arc is a whole turn
pub record StandsFor (a : Spot) (t : Bend) (chain : List Spot) (r : ℕ) : Type 0 where
  pub turn : HasTurn (arc_of a t)
  pub above : ChainAbove (arc_of a t) chain r
  pub turns : IsTrue (odd_round t.centre chain) ↔ (early a t ≡ late a t)

-- a straight part stands for itself
abbrev pub StandsAs : Spot → Part → List Spot → ℕ → Type 0
StandsAs a (Straight b) chain r = IsPlaced b
StandsAs a (Curved t) chain r = StandsFor a t chain r

-- a part with its chain, and with the radius of the capsules along that
pub record Chained : Type 0 where
  pub part : Part
  pub chain : List Spot
  pub radius : ℕ

-- a stretch is one, without where its chain lies in memory
abbrev pub chained : Stretch → Chained
chained x = record { part = x.part; chain = x.chain.items; radius = x.radius }

abbrev pub all_chained : List Stretch → List Chained
all_chained xs = map chained xs

abbrev pub IsStretch : Spot → Chained → Type 0
IsStretch a x = StandsAs a x.part x.chain x.radius

-- each of the list is one, of which the first begins at a, and the last ends at z
abbrev pub AreStretches : Spot → Spot → List Chained → Type 0
AreStretches z a [] = a ≡ z
AreStretches z a (x ∷ rest) = IsStretch a x × AreStretches z (end_of x.part) rest

-- a closed contour
pub record TakenAbove (a : Spot) (stretches : List Chained) : Type 0 where
  pub start : IsPlaced a
  pub parts : AreStretches a a stretches

-- ---- below

-- the capsule from a to b lies in the frame and shares no point with the area
pub record IsClear (frame : Frame) (points : List Spot) (r : ℕ) (a b : Spot) : Type 0 where
  pub start : IsPlaced a
  pub end : IsPlaced b
  pub radius : IsCapsuleRadius (pos r)
  pub inside : IsInside (box_of a b (pos r)) frame
  pub apart : ¬ SharePoint (InArea (edges_of points)) (InCapsule a b (pos r))

-- so do all capsules along the chain
abbrev pub AreClear : Frame → List Spot → ℕ → List Spot → Type 0
AreClear frame points r [] = ⊤
AreClear frame points r (a ∷ rest) = EachFrom (IsClear frame points r) a rest

-- the straight part is clear of the area, or the chain is with its capsules
abbrev pub IsPartClear : Frame → List Spot → Spot → Part → List Spot → ℕ → Type 0
IsPartClear frame points a (Straight b) chain r = IsClear frame points 0 a b
IsPartClear frame points a (Curved t) chain r = AreClear frame points r chain

-- the ray from q to the right crosses an odd number of the edges that stand for the part
abbrev pub odd_part : Spot → Spot → Part → List Spot → Bool
odd_part q a (Straight b) chain = crossed (record { start = a; end = b }) q.x q.y (pos 1)
odd_part q a (Curved t) chain = odd (edges_of chain) q.x q.y (pos 1)

-- each of the list, of which the first begins at a, is a part with its chain and clear of the area; the last ends at z; and the ray from q to the right crosses an odd number of the edges that stand
-- for them, with one more where o holds
abbrev pub AreAround : Frame → List Spot → Spot → Spot → Bool → Spot → List Chained → Type 0
AreAround frame points z q o a [] = (a ≡ z) × IsTrue o
AreAround frame points z q o a (x ∷ rest) = (IsStretch a x × IsPartClear frame points a x.part x.chain x.radius) × AreAround frame points z q (xor o (odd_part q a x.part x.chain)) (end_of x.part) rest

-- a closed contour whose polygon, with chains in place of the arcs, has the first corner of the area inside, all in the frame. The area is clear of its edges and of the capsules along the chains
pub record TakenBelow (frame : Frame) (a : Spot) (stretches : List Chained) (points : List Spot) : Type 0 where
  pub start : IsPlaced a
  pub inside : IsInside (area_box points) frame
  pub parts : AreAround frame points a (first_of points) false a stretches

-- ---- the figures

abbrev pub parts_of : List Chained → List Part
parts_of xs = map (λ (x : Chained). x.part) xs

-- all but the first
abbrev pub behind_first : List Spot → List Spot
behind_first [] = []
behind_first (a ∷ rest) = rest

-- the corners that stand for the part, but for its start: its end, or its chain in the direction of the arc
abbrev pub corners_by : Part → List Spot → List Spot
corners_by (Straight b) chain = b ∷ []
corners_by (Curved t) chain = behind_first (if t.counterclockwise then chain else reverse chain)

abbrev pub corners_behind : List Chained → List Spot
corners_behind [] = []
corners_behind (x ∷ rest) = corners_by x.part x.chain ++ corners_behind rest

-- the polygon with the chains in place of the arcs
abbrev pub corners_of : Spot → List Chained → List Spot
corners_of a stretches = a ∷ corners_behind stretches

-- the point lies in a capsule along the chain of an arc
abbrev pub InLinks : Part → List Spot → ℕ → Point → Type 0
InLinks (Straight b) chain r p = ⊥
InLinks (Curved t) chain r p = InChain chain (pos r) p

abbrev pub InCapsules : List Chained → Point → Type 0
InCapsules [] p = ⊥
InCapsules (x ∷ rest) p = InLinks x.part x.chain x.radius p ⊎ InCapsules rest p
