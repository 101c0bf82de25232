-- The sides of a capsule's box: no bits are lost.
use Rattle.std.proofs.Common.{FitsSigned, to_z, of_z, to_z-of_z, w64, ℤ, ◌≡◌, ◌+ℤ◌, ◌-ℤ◌, arith}
use Rattle.std.proofs.lemmas.Int.{ints, clamps}
use Rattle.std.specs.Int.{int_min, int_max}
use Rattle.planar.specs.Plane.{IsReached}
use Rattle.contact.specs.Round.{IsCapsuleRadius}

abbrev read : ℤ → ℤ
read z = to_z w64 (of_z w64 z)

fits : (z : ℤ) → IsReached z → FitsSigned w64 z
fits z h = omega (arith, ints)

module _ (a b r m : ℤ) (p : IsReached a) (q : IsReached b) (s : IsCapsuleRadius r) where
  least : m ≡ int_min (read a) (read b) → m ≡ int_min a b
  least k = let f : FitsSigned w64 a = fits a p in let g : FitsSigned w64 b = fits b q in simp to_z-of_z at k

  most : m ≡ int_max (read a) (read b) → m ≡ int_max a b
  most k = let f : FitsSigned w64 a = fits a p in let g : FitsSigned w64 b = fits b q in simp to_z-of_z at k

  pub below_fits : m ≡ int_min (read a) (read b) → FitsSigned w64 (read m -ℤ read r)
  below_fits k = let e : m ≡ int_min a b = least k in omega (arith, ints, clamps, e)

  pub below_is : m ≡ int_min (read a) (read b) → read (read m -ℤ read r) ≡ int_min a b -ℤ r
  below_is k = let e : m ≡ int_min a b = least k in omega (arith, ints, clamps, e)

  pub above_fits : m ≡ int_max (read a) (read b) → FitsSigned w64 (read m +ℤ read r)
  above_fits k = let e : m ≡ int_max a b = most k in omega (arith, ints, clamps, e)

  pub above_is : m ≡ int_max (read a) (read b) → read (read m +ℤ read r) ≡ int_max a b +ℤ r
  above_is k = let e : m ≡ int_max a b = most k in omega (arith, ints, clamps, e)
