-- Laws over the definitions.
use Rattle.std.specs.Prelude.{List, ℤ, ◌≡◌, ◌≤ℤ◌, ◌↔◌, ◌⊎◌}
use Rattle.planar.specs.Plane.{InCapsule, RayCrosses, Point, at}
use Rattle.contact.specs.Round.{IsLawful}
use Rattle.contact.specs.Solid.{SharePoint}
use Rattle.area_contact.specs.declared.Edge.{Edge}
use Rattle.area_contact.specs.Contour.{edges_of, ExactlyOne, InArea, IsClosed, IsContour, MeetsWay, SomeEdge, Swept}
use Rattle.planar.specs.declared.Spot.{Spot}

-- Let p and q have one n, and p be not higher than q. Where an edge shares no point with the segment from p to q,
-- exactly one of the rays of p and q crosses it exactly where exactly one of its ends is swept
abbrev pub EdgeLaw : Type 0
EdgeLaw = (e : Edge) (p q : Point) → p.n ≡ q.n → p.y ≤ℤ q.y → ¬ MeetsWay p q e → ExactlyOne (RayCrosses e.start e.end p) (RayCrosses e.start e.end q) ↔ ExactlyOne (Swept p q e.start) (Swept p q e.end)

-- Let p and q have one n. Where no edge of a closed contour shares a point with the segment from p to q, both lie in the area
-- or neither does
abbrev pub ParityLaw : Type 0
ParityLaw = (points : List Spot) (p q : Point) → IsClosed points → p.n ≡ q.n → ¬ SomeEdge (MeetsWay p q) (edges_of points) → InArea (edges_of points) p ↔ InArea (edges_of points) q

-- A spot lies in an area or it does not
abbrev pub AreaHasDecided : Type 0
AreaHasDecided = (points : List Spot) (p : Spot) → InArea (edges_of points) (at p) ⊎ ¬ InArea (edges_of points) (at p)

-- Some point lies in an area and in a capsule or none does
abbrev pub AreaCapsuleDecided : Type 0
AreaCapsuleDecided = (points : List Spot) (a b : Spot) (r : ℤ) → IsContour points → IsLawful a b r → SharePoint (InArea (edges_of points)) (InCapsule a b r) ⊎ ¬ SharePoint (InArea (edges_of points)) (InCapsule a b r)

-- Some point lies in both of two areas or none does
abbrev pub AreasDecided : Type 0
AreasDecided = (points points' : List Spot) → IsContour points → IsContour points' → SharePoint (InArea (edges_of points)) (InArea (edges_of points')) ⊎ ¬ SharePoint (InArea (edges_of points)) (InArea (edges_of points'))
