-- Where the middle of a figure comes to lie.
use Rattle.std.proofs.Common.{◌≡◌, arith}
use Rattle.std.proofs.lemmas.Int.{ints}
use Rattle.planar.specs.Plane.{IsPlaced, IsReachable}
use Rattle.planar.specs.declared.Spot.{Spot}
use Rattle.aperture_macros.specs.Images.{set_down}
use Rattle.aperture_macros.specs.declared.primitive.Rotation.{Rotation}
use Rattle.aperture_macros.specs.declared.primitive.Rotation.TheVariants.{Unturned, Quarter, Half, ThreeQuarters}
use Rattle.real_copper.specs.Flashes.{IsAbout}

about : (rotation : Rotation) (at p : Spot) → IsPlaced at → IsReachable p → IsAbout (set_down rotation at p)
about Unturned at p h k = ((omega (arith, ints), omega (arith, ints)), (omega (arith, ints), omega (arith, ints)))
about Quarter at p h k = ((omega (arith, ints), omega (arith, ints)), (omega (arith, ints), omega (arith, ints)))
about Half at p h k = ((omega (arith, ints), omega (arith, ints)), (omega (arith, ints), omega (arith, ints)))
about ThreeQuarters at p h k = ((omega (arith, ints), omega (arith, ints)), (omega (arith, ints), omega (arith, ints)))

pub is_about : (rotation : Rotation) (at p q : Spot) → q ≡ set_down rotation at p → IsPlaced at → IsReachable p → IsAbout q
is_about rotation at p q e h k = rw e (about rotation at p h k)
