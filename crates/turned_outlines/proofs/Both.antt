-- Two lists, one by one.
use Rattle.std.proofs.Common.{◌≡◌, ◌≤◌, ◌↔◌, ◌+◌, ◌<◌, ℕ, List, [], ◌∷◌, All, length, drop, get_or, add-one, arith}
use Rattle.std.proofs.Math.Seq.{drop-cons}
use Rattle.std.proofs.lemmas.List.{drop_all}
use Rattle.std.proofs.lemmas.List.Elements.{All-cons, All-nil}
use Rattle.planar.specs.Plane.{IsPlaced}
use Rattle.planar.specs.declared.Spot.{Spot}
use Rattle.slants.specs.Discs.{DiscAbove}
use Rattle.turned_outlines.specs.Taken.{EachOfBoth, corner_of}

pub as_long : (P : Spot → Spot → Type 0) (xs ys : List Spot) → EachOfBoth P xs ys → length xs ≡ length ys
as_long P [] [] all = omega arith
as_long P [] (b ∷ ys) all = absurd all
as_long P (a ∷ xs) [] all = absurd all
as_long P (a ∷ xs) (b ∷ ys) all = let e : length xs ≡ length ys = as_long P xs ys all.1 in omega (arith, e)

module _ (P : Spot → Spot → Type 0) (xs ys : List Spot) (i : ℕ) (none : Spot) (same : length xs ≡ length ys) (below : i < length ys) where
  split : EachOfBoth P (drop i xs) (drop i ys) ↔ (P (get_or xs i none) (get_or ys i none) × EachOfBoth P (drop (i + 1) xs) (drop (i + 1) ys))
  split =
      rw (add-one, drop-cons xs i none (omega (arith, same, below)), drop-cons ys i none below) (λ h. h, λ h. h)

  pub next : EachOfBoth P (drop i xs) (drop i ys) → P (get_or xs i none) (get_or ys i none)
  next h = (split.0 h).0

  pub turn : (W : Type 0) → P (get_or xs i none) (get_or ys i none) → EachOfBoth P (drop i xs) (drop i ys) ↔ W → EachOfBoth P (drop (i + 1) xs) (drop (i + 1) ys) ↔ W
  turn W held told = (λ h. told.0 (split.1 (held, h)), λ w. (split.0 (told.1 w)).1)

pub done : (P : Spot → Spot → Type 0) (xs ys : List Spot) (i : ℕ) → length xs ≡ length ys → length ys ≤ i → EachOfBoth P (drop i xs) (drop i ys)
done P xs ys i same over = rw (drop_all i xs (omega (arith, same, over)), drop_all i ys over) tt

pub each_placed : (about : Spot) (angle r : ℕ) (xs ys : List Spot) → EachOfBoth (λ a b. DiscAbove (corner_of a about angle) b r) xs ys → All IsPlaced ys
each_placed about angle r [] [] all = All-nil IsPlaced
each_placed about angle r [] (b ∷ ys) all = absurd all
each_placed about angle r (a ∷ xs) [] all = absurd all
each_placed about angle r (a ∷ xs) (b ∷ ys) all = All-cons IsPlaced b ys all.0.near.placed (each_placed about angle r xs ys all.1)
