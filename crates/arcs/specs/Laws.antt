-- Laws over the definitions.
use Rattle.std.specs.Prelude.{ℕ, List, ℤ, pos, ◌+ℤ◌, ◌-ℤ◌, ◌*ℤ◌, ◌≤ℤ◌, ◌<ℤ◌, ◌≡◌, ◌⊎◌}
use Rattle.planar.specs.Plane.{Point, square}
use Rattle.arcs.specs.declared.Arc.{Arc}
use Rattle.planar.specs.declared.Spot.{Spot}
use Rattle.arcs.specs.Taken.{TakenAbove, TakenBelow}
use Rattle.arcs.specs.Copper.{InChain, InRing, InTurn, IsMeant, IsNear, Possibly, Surely, apart, inmost, outmost, reach_of, swing, unlike}

-- What is in the copper of every curve is in that of some: so an arc draw has a copper, of which the one is the least and the other the most
abbrev pub SurelyIsPossibly : Type 0
SurelyIsPossibly = (a : Arc) (p : Point) → Surely a p → Possibly a p

-- What lies surely in the copper is at most half the pen's width from each distance that a curve may have, or from an end
abbrev pub SurelyOfEach : Type 0
SurelyOfEach = (a : Arc) (f : ℤ) (p : Point) → inmost a ≤ℤ f → f ≤ℤ outmost a → Surely a p →
    (InTurn a.centre a.start a.end p × InRing (pos 2) (pos a.width) a.centre f f p) ⊎ (IsNear (pos 2) (pos a.width) a.start p ⊎ IsNear (pos 2) (pos a.width) a.end p)

-- The copper along each such distance is possible, but for the centre itself, which a wide pen may reach
abbrev pub PossiblyOfEach : Type 0
PossiblyOfEach = (a : Arc) (f : ℤ) (p : Point) → inmost a ≤ℤ f → f ≤ℤ outmost a → pos 1 ≤ℤ reach_of a.centre p → InTurn a.centre a.start a.end p → InRing (pos 2) (pos a.width) a.centre f f p → Possibly a p

-- and so is the round of each end
abbrev pub PossiblyAtEnds : Type 0
PossiblyAtEnds = (a : Arc) (p : Point) → IsNear (pos 2) (pos a.width) a.start p ⊎ IsNear (pos 2) (pos a.width) a.end p → Possibly a p

-- Where the ends are at one distance, what is in the copper of some curve is in that of every one: the draw has one copper
abbrev pub PossiblyIsSurely : Type 0
PossiblyIsSurely = (a : Arc) (p : Point) → unlike a ≡ pos 0 → Possibly a p → Surely a p

-- the centre that is equally far from both ends and nearest to the given one: moved along the way from end to end
pub record IsMovedCentre (a : Arc) (q : Point) : Type 0 where
  pub along : (q.x -ℤ q.n *ℤ a.centre.x) *ℤ (a.end.y -ℤ a.start.y) ≡ (q.y -ℤ q.n *ℤ a.centre.y) *ℤ (a.end.x -ℤ a.start.x)
  pub even : reach_of a.start q ≡ reach_of a.end q

-- the point is as far from q as the start is
abbrev pub IsAsFar : Arc → Point → Point → Type 0
IsAsFar a q p = square (q.n *ℤ p.x -ℤ p.n *ℤ q.x) +ℤ square (q.n *ℤ p.y -ℤ p.n *ℤ q.y) ≡ square p.n *ℤ reach_of a.start q

-- Past a half turn the circle through both ends about the moved centre keeps the distances that a curve may have
abbrev pub MovedCircleIsHeld : Type 0
MovedCircleIsHeld = (a : Arc) (q p : Point) → swing a <ℤ pos 0 → IsMovedCentre a q → IsAsFar a q p → ((square p.n *ℤ inmost a) ≤ℤ reach_of a.centre p) × (reach_of a.centre p ≤ℤ (square p.n *ℤ outmost a))

-- Up to a half turn it does so in the turn, where the arc is meant and its ends are two spots
abbrev pub MovedTurnIsHeld : Type 0
MovedTurnIsHeld = (a : Arc) (q p : Point) → pos 0 ≤ℤ swing a → pos 1 ≤ℤ apart a → IsMeant a → InTurn a.centre a.start a.end p → IsMovedCentre a q → IsAsFar a q p → ((square p.n *ℤ inmost a) ≤ℤ reach_of a.centre p) × (reach_of a.centre p ≤ℤ (square p.n *ℤ outmost a))

-- A chain that is taken below lies in the copper of every curve, and one that is taken above holds that of each
abbrev pub TakenIsBetween : Type 0
TakenIsBetween = (a : Arc) (chain : List Spot) (r : ℕ) (p : Point) → (TakenBelow a chain r → InChain chain (pos r) p → Surely a p) × (TakenAbove a chain r → Possibly a p → InChain chain (pos r) p)
