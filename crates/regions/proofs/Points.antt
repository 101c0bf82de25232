-- The points of a contour.
use Rattle.std.proofs.Common.{◌≡◌, ℕ, ◌≤◌, List, [], ◌∷◌, length, map, take, All, refl, sym, ap, ◌∙◌, subst, arith}
use Rattle.std.proofs.lemmas.Grind.{common_steps}
use Rattle.std.proofs.lemmas.List.Elements.{All-cons, All-map}
use Rattle.planar.specs.Plane.{IsPlaced}
use Rattle.planar.specs.declared.Spot.{Spot}
use Rattle.regions.specs.Contours.{leg_of}
use Rattle.regions.specs.declared.contour.Leg.{Leg as Seen}

-- where each edge ends, seen or plain
ends_are : {E : Type 0} (legs : List (Seen E)) → map (λ (l : Seen E). l.to) legs ≡ map (λ l. l.to) (map leg_of legs)
ends_are [] = refl
ends_are (l ∷ legs) = ap (λ (spots : List Spot). l.to ∷ spots) (ends_are legs)

whole : {A : Type 0} (xs : List A) (i : ℕ) → length xs ≤ i → take i xs ≡ xs
whole [] i h = grind (arith, common_steps)
whole (x ∷ xs) i h = grind (arith, common_steps)

-- when all are seen
pub points_are : {E : Type 0} (points : List Spot) (first : Spot) (legs : List (Seen E)) (i : ℕ) → length legs ≤ i → points ≡ first ∷ map (λ (l : Seen E). l.to) (take i legs) → points ≡ first ∷ map (λ l. l.to) (map leg_of legs)
points_are points first legs i all h = h ∙ ap (λ (ls : List (Seen _)). first ∷ map (λ (l : Seen _). l.to) ls) (whole legs i all) ∙ ap (λ (spots : List Spot). first ∷ spots) (ends_are legs)

pub points_placed : {E : Type 0} (points : List Spot) (first : Spot) (legs : List (Seen E)) → IsPlaced first → All (λ (l : Seen E). IsPlaced l.to) legs → points ≡ first ∷ map (λ l. l.to) (map leg_of legs) → All IsPlaced points
points_placed points first legs begun placed is =
    subst (All IsPlaced) (sym (is ∙ ap (λ (spots : List Spot). first ∷ spots) (sym (ends_are legs)))) (All-cons IsPlaced first (map (λ (l : Seen _). l.to) legs) begun (All-map IsPlaced (λ (l : Seen _). l.to) legs placed))
