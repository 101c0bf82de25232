-- Eighth turns, and the parts of a contour with their chains.
use Rattle.std.proofs.Common.{◌≡◌, ℕ, ◌+◌, ◌*◌, ◌<◌, ℤ, ◌+ℤ◌, ◌-ℤ◌, to_z, of_z, w64, List, [], ◌∷◌, ◌++◌, length, get_or, drop, All, sym, ap, ◌∙◌, arith}
use Rattle.std.proofs.lemmas.Int.{ints}
use Rattle.std.proofs.lemmas.List.{append_assoc, drop_more, map-append}
use Rattle.std.proofs.lemmas.List.Elements.{All-get_or}
use Rattle.planar.specs.Plane.{IsPlaced, IsReached, IsWithin}
use Rattle.planar.specs.declared.Spot.{Spot}
use Rattle.planar.specs.declared.TheConstants.{METRE}
use Rattle.arc_regions.specs.Copper.{end_of}
use Rattle.arc_regions.specs.Taken.{Chained, all_chained, chained}
use Rattle.arc_regions.specs.declared.Part.{Part}
use Rattle.arc_regions.specs.declared.Part.TheVariants.{Straight, Curved}
use Rattle.arc_regions.specs.declared.Stretch.{Stretch}
use Rattle.arc_covers.specs.Eighths.{IsPartPlaced, IsRound, by_eighths, quarter_turn, with_eighths}

-- ---- ways as they are read

pub sum_read : (u r : ℤ) → IsReached u → IsWithin (4 * METRE) r → to_z w64 (of_z w64 (to_z w64 (of_z w64 u) +ℤ to_z w64 (of_z w64 r))) ≡ u +ℤ r
sum_read u r h k = omega (arith, ints)

pub less_read : (u v w : ℤ) → IsReached u → IsReached w → IsWithin (4 * METRE) (v -ℤ w) → to_z w64 (of_z w64 (to_z w64 (of_z w64 u) -ℤ to_z w64 (of_z w64 (to_z w64 (of_z w64 v) -ℤ to_z w64 (of_z w64 w))))) ≡ u -ℤ (v -ℤ w)
less_read u v w h k l = omega (arith, ints)

pub more_read : (u v w : ℤ) → IsReached u → IsReached w → IsWithin (4 * METRE) (v -ℤ w) → to_z w64 (of_z w64 (to_z w64 (of_z w64 u) +ℤ to_z w64 (of_z w64 (to_z w64 (of_z w64 v) -ℤ to_z w64 (of_z w64 w))))) ≡ u +ℤ (v -ℤ w)
more_read u v w h k l = omega (arith, ints)

pub stays_round : (c s : Spot) → IsRound c s → IsRound c (quarter_turn c s)
stays_round c s h = ((omega (arith, ints), omega (arith, ints)), (omega (arith, ints), omega (arith, ints)))

-- the ways from c to s across and up, their difference and their sum
module _ (c s : Spot) (h : IsPlaced c) (k : IsPlaced s) where
  pub ways_less : to_z w64 (of_z w64 (to_z w64 (of_z w64 (to_z w64 (of_z w64 s.x) -ℤ to_z w64 (of_z w64 c.x))) -ℤ to_z w64 (of_z w64 (to_z w64 (of_z w64 s.y) -ℤ to_z w64 (of_z w64 c.y))))) ≡ s.x -ℤ c.x -ℤ (s.y -ℤ c.y)
  ways_less = omega (arith, ints)

  pub ways_more : to_z w64 (of_z w64 (to_z w64 (of_z w64 (to_z w64 (of_z w64 s.x) -ℤ to_z w64 (of_z w64 c.x))) +ℤ to_z w64 (of_z w64 (to_z w64 (of_z w64 s.y) -ℤ to_z w64 (of_z w64 c.y))))) ≡ s.x -ℤ c.x +ℤ (s.y -ℤ c.y)
  ways_more = omega (arith, ints)

  pub less_within : IsWithin (4 * METRE) (s.x -ℤ c.x -ℤ (s.y -ℤ c.y))
  less_within = (omega (arith, ints), omega (arith, ints))

  pub more_within : IsWithin (4 * METRE) (s.x -ℤ c.x +ℤ (s.y -ℤ c.y))
  more_within = (omega (arith, ints), omega (arith, ints))

-- ---- the parts

pub end_placed : (x : Part) → IsPartPlaced x → IsPlaced (end_of x)
end_placed (Straight b) h = h
end_placed (Curved t) h = h.1

pub there_placed : (parts : List Part) (i : ℕ) (d : Part) → i < length parts → All IsPartPlaced parts → IsPartPlaced (get_or parts i d)
there_placed parts i d below all = All-get_or IsPartPlaced parts i d below all

pub eighths_turn : (a start e : Spot) (parts : List Part) (i : ℕ) (d : Part) (front : List Stretch) (s : Stretch) → i < length parts → chained s ≡ with_eighths a (get_or parts i d) → e ≡ end_of (get_or parts i d)
    → all_chained front ++ by_eighths a (drop i parts) ≡ by_eighths start parts → all_chained (front ++ s ∷ []) ++ by_eighths e (drop (i + 1) parts) ≡ by_eighths start parts
eighths_turn a start e parts i d front s below is ends so =
    ap (λ (xs : List Chained). xs ++ by_eighths e (drop (i + 1) parts)) (map-append chained front (s ∷ [])) ∙ append_assoc (all_chained front) (chained s ∷ []) (by_eighths e (drop (i + 1) parts))
    ∙ ap (λ (x : Chained). all_chained front ++ x ∷ by_eighths e (drop (i + 1) parts)) is ∙ ap (λ (z : Spot). all_chained front ++ with_eighths a (get_or parts i d) ∷ by_eighths z (drop (i + 1) parts)) ends
    ∙ ap (λ (xs : List Part). all_chained front ++ by_eighths a xs) (sym (drop_more parts i d below)) ∙ so
