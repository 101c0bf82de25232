-- Whether spots are one.
use Rattle.std.proofs.Common.{◌≡◌, ◌∙◌, ap, ℤ, true}
use Rattle.std.proofs.lemmas.Bool.Decides.{Decides-and, Decides-int_eq, Decides-like}
use Rattle.std.specs.Bool.{Decides}
use Rattle.std.specs.Ordering.{int_eq}
use Rattle.planar.specs.Plane.{same_spot}
use Rattle.planar.specs.declared.Spot.{Spot}

abbrev spot : ℤ → ℤ → Spot
spot x y = record { x = x; y = y }

pub one_spot : (a b : Spot) → a.x ≡ b.x → a.y ≡ b.y → a ≡ b
one_spot a b x y = ap (λ (z : ℤ). spot z a.y) x ∙ ap (λ (z : ℤ). spot b.x z) y

pub spot_decides : (a b : Spot) → Decides (same_spot a b) (a ≡ b)
spot_decides a b =
    Decides-like (same_spot a b) (λ e. one_spot a b e.0 e.1) (λ e. (ap (λ (s : Spot). s.x) e, ap (λ (s : Spot). s.y) e))
    (Decides-and (int_eq a.x b.x) (int_eq a.y b.y) (Decides-int_eq a.x b.x) (Decides-int_eq a.y b.y))

pub spot_is : (a b : Spot) → same_spot a b ≡ true → a ≡ b
spot_is a b h = (spot_decides a b).0 h

pub spot_same : (a b : Spot) → a ≡ b → same_spot a b ≡ true
spot_same a b h = (spot_decides a b).1 h
