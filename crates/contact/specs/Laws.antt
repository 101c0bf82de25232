-- Laws over the definitions.
use Rattle.std.specs.Prelude.{ℤ, ◌⊎◌}
use Rattle.planar.specs.declared.Spot.{Spot}
use Rattle.planar.specs.Plane.{at, InCapsule}
use Rattle.contact.specs.Round.{IsLawful}
use Rattle.contact.specs.Solid.{SharePoint}

-- A spot lies in a capsule or it does not
abbrev pub CapsuleHasDecided : Type 0
CapsuleHasDecided = (a b : Spot) (r : ℤ) (p : Spot) → InCapsule a b r (at p) ⊎ ¬ InCapsule a b r (at p)

-- Some point lies in both of two capsules or none does
abbrev pub CapsulesDecided : Type 0
CapsulesDecided = (a b : Spot) (r : ℤ) (c d : Spot) (s : ℤ) → IsLawful a b r → IsLawful c d s → SharePoint (InCapsule a b r) (InCapsule c d s) ⊎ ¬ SharePoint (InCapsule a b r) (InCapsule c d s)
