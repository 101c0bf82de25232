-- Whether capsules share a point, and whether a spot lies in one, is decided.
use Rattle.std.proofs.Common.{ℤ, ◌⊎◌}
use Rattle.planar.specs.declared.Spot.{Spot}
use Rattle.planar.specs.Plane.{at, InCapsule}
use Rattle.planar.proofs.Decided.{same_decided, share_decided, spot_decided}
use Rattle.contact.specs.Round.{IsLawful}
use Rattle.contact.specs.Solid.{SharePoint}

pub capsule_has_decided : (a b : Spot) (r : ℤ) (p : Spot) → InCapsule a b r (at p) ⊎ (InCapsule a b r (at p) → ⊥)
capsule_has_decided a b r p = spot_decided a b r p

pub capsules_decided : (a b : Spot) (r : ℤ) (c d : Spot) (s : ℤ) → IsLawful a b r → IsLawful c d s → SharePoint (InCapsule a b r) (InCapsule c d s) ⊎ (SharePoint (InCapsule a b r) (InCapsule c d s) → ⊥)
capsules_decided a b r c d s h k =
    same_decided ((λ m. record { point = m.point; in_first = m.in_first; in_second = m.in_second }), (λ m. record { point = m.point; in_first = m.in_first; in_second = m.in_second })) (share_decided a b r c d s h.2.0 k.2.0)
