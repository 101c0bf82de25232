-- Whether areas and capsules share a point, and whether a spot lies in an area, is decided.
use Rattle.std.proofs.Common.{ℤ, pos, List, [], ◌∷◌, ◌⊎◌, inl, inr, refl}
use Rattle.planar.specs.declared.Spot.{Spot}
use Rattle.planar.specs.Plane.{Point, at, InCapsule}
use Rattle.planar.proofs.Decided.{Decided, either_decided, same_decided, segments_decided, spot_decided, test_decided, within_decided}
use Rattle.contact.specs.Round.{IsLawful}
use Rattle.contact.specs.Solid.{SharePoint}
use Rattle.area_contact.specs.declared.Edge.{Edge}
use Rattle.area_contact.specs.Contour.{edges_of, first_of, InArea, IsContour, OddCrossed, SomeEdge}
use Rattle.area_contact.specs.Parity.{odd, odd_is}
use Rattle.area_contact.proofs.Areas.{capsule_shared, edges_shared, end_decides, first_decides_areas, first_shared, EdgesMeet, FirstInside}

some_decided : {P : Edge → Type 0} → ((e : Edge) → Decided (P e)) → (es : List Edge) → Decided (SomeEdge P es)
some_decided f [] = inr (λ h. h)
some_decided f (e ∷ es) = either_decided (f e) (some_decided f es)

pub odd_decided : (es : List Edge) (p : Point) → Decided (OddCrossed es p)
odd_decided es p = same_decided ((λ h. (odd_is es p).1 h), (λ h. (odd_is es p).0 h)) (test_decided (odd es p.x p.y p.n))

-- where the first is decided, and without it the second decides
by_both : {P S O : Type 0} → Decided S → Decided O → (S → P) → (O → P) → ((S → ⊥) → P → O) → Decided P
by_both (inl h) o f g back = inl (f h)
by_both (inr h) (inl k) f g back = inl (g k)
by_both (inr h) (inr k) f g back = inr (λ p. k (back h p))

pub area_has_decided : (points : List Spot) (p : Spot) → InArea (edges_of points) (at p) ⊎ (InArea (edges_of points) (at p) → ⊥)
area_has_decided points p = either_decided (some_decided (λ e. spot_decided e.start e.end (pos 0) p) (edges_of points)) (odd_decided (edges_of points) (at p))

pub area_capsule_decided : (points : List Spot) (a b : Spot) (r : ℤ) → IsContour points → IsLawful a b r → SharePoint (InArea (edges_of points)) (InCapsule a b r) ⊎ (SharePoint (InArea (edges_of points)) (InCapsule a b r) → ⊥)
area_capsule_decided points a b r h k =
    by_both (some_decided (λ e. within_decided e.start e.end a b r k.2.0) (edges_of points)) (odd_decided (edges_of points) (at a))
    (λ l. capsule_shared (edges_of points) a b r (inl l)) (λ l. capsule_shared (edges_of points) a b r (inr l))
    (λ none l. end_decides points a a b r refl h.closed k.2.0 none l)

pub areas_decided : (points points' : List Spot) → IsContour points → IsContour points' → SharePoint (InArea (edges_of points)) (InArea (edges_of points')) ⊎ (SharePoint (InArea (edges_of points)) (InArea (edges_of points')) → ⊥)
areas_decided points points' h k =
    by_both {S = EdgesMeet (edges_of points) (edges_of points')} {O = FirstInside points points'}
    (some_decided (λ e. some_decided (λ f. segments_decided f.start f.end e.start e.end) (edges_of points')) (edges_of points))
    (either_decided (odd_decided (edges_of points') (at (first_of points))) (odd_decided (edges_of points) (at (first_of points'))))
    (λ l. edges_shared (edges_of points) (edges_of points') l) (λ l. first_shared points points' h.enough k.enough l)
    (λ none l. first_decides_areas points points' h.closed k.closed none l)
