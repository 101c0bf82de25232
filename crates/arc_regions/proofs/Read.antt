-- What the code's answers tell.
use Rattle.std.proofs.Common.{ℕ, ◌≤◌, Bool, IsTrue, List, [], ◌∷◌, length, All, slice_index_or, ◌≡◌, ◌↔◌, ℤ, pos, arith, subst, sym}
use Rattle.planar.specs.Plane.{InCapsule, IsPlaced}
use Rattle.planar.specs.declared.Frame.{Frame}
use Rattle.planar.specs.declared.Spot.{Spot}
use Rattle.contact.specs.Round.{IsCapsuleRadius, box_of}
use Rattle.contact.specs.Solid.{IsInside, SharePoint}
use Rattle.area_contact.specs.Contour.{InArea, edges_of, first_of}
use Rattle.arc_regions.specs.Taken.{IsClear}

module _ (t : Bool) (frame : Frame) (points : List Spot) (r : ℕ) (a b : Spot) where
  -- a capsule from a to b of radius r, told by its fields
  pub clear_read : (a' b' : Spot) (z : ℤ) → a' ≡ a → b' ≡ b → z ≡ pos r → IsPlaced a → IsPlaced b → IsCapsuleRadius (pos r)
      → IsTrue t ↔ (IsInside (box_of a' b' z) frame × ¬ SharePoint (InArea (edges_of points)) (InCapsule a' b' z)) → IsTrue t ↔ IsClear frame points r a b
  clear_read a' b' z e f g ha hb hr told =
      by (subst (λ (w : ℤ). IsTrue t ↔ (IsInside (box_of a b w) frame × ¬ SharePoint (InArea (edges_of points)) (InCapsule a b w))) g
      (subst (λ (w : Spot). IsTrue t ↔ (IsInside (box_of a w z) frame × ¬ SharePoint (InArea (edges_of points)) (InCapsule a w z))) f
      (subst (λ (w : Spot). IsTrue t ↔ (IsInside (box_of w b' z) frame × ¬ SharePoint (InArea (edges_of points)) (InCapsule w b' z))) e told)))
    where
      by : IsTrue t ↔ (IsInside (box_of a b (pos r)) frame × ¬ SharePoint (InArea (edges_of points)) (InCapsule a b (pos r))) → IsTrue t ↔ IsClear frame points r a b
      by k = ((λ h. record { start = ha; end = hb; radius = hr; inside = (k.0 h).0; apart = (k.0 h).1 }), λ h. k.1 (h.inside, h.apart))

pub corner_first : (points : List Spot) (q : Spot) → 4 ≤ length points → ((d : Spot) → slice_index_or points 0 d ≡ q) → q ≡ first_of points
corner_first [] q some told = absurd (omega (arith, some))
corner_first (a ∷ rest) q some told = sym (told a)

pub corner_placed : (points : List Spot) (q : Spot) → 4 ≤ length points → ((d : Spot) → slice_index_or points 0 d ≡ q) → All IsPlaced points → IsPlaced q
corner_placed points q some told placed = subst IsPlaced (told q) (placed 0 q (omega (arith, some)))
