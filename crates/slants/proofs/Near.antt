-- A way that is near that of half an angle is in the angle's cone.
use Rattle.std.proofs.Common.{◌≡◌, inl, inr, ℕ, ◌+◌, ◌-◌, ◌*◌, ◌/◌, ◌≤◌, ◌<◌, ℤ, pos, neg_ℤ, ◌+ℤ◌, ◌-ℤ◌, ◌*ℤ◌, ◌≤ℤ◌, List, arith}
use Rattle.std.proofs.lemmas.Int.{ints}
use Rattle.std.proofs.lemmas.Nat.{le-div}
use Rattle.planar.specs.Plane.{Point}
use Rattle.planar.specs.declared.Spot.{Spot}
use Rattle.planar.proofs.Ring.{ring, linear, le_or_lt, one-times, over_zero, square_from_zero, square_over, times_from_zero, times_mono, times_mono_right}
use Rattle.slants.specs.Cones.{PossiblyTurned, SurelyTurned, cosine, cosine_by, half_of, lessened, scaled, sine, square_of, turns_by}
use Rattle.slants.specs.Discs.{PossiblyInDisc, SurelyInDisc, turns_of}
use Rattle.slants.specs.Laws.{IsNear}
use Rattle.slants.specs.Turned.{IsBetween}
use Rattle.slants.specs.declared.cones.TheConstants.{ONE, RADIUS, RIGHT_ANGLE}
use Rattle.slants.specs.declared.discs.TurnedDisc.{TurnedDisc}
use Rattle.slants.specs.declared.turns.Turn.{Turn}
use Rattle.slants.proofs.Circle.{sides_tell}
use Rattle.slants.proofs.Parts.{half_within, product_within, share_within}

-- ---- the cosine is over a half

cosine_from : (t : ℕ) → t ≤ ONE → (ONE / 2) ≤ cosine_by t
unfolding cosine_by
cosine_from t h = halved (t * lessened t 12 (lessened t 30 (lessened t 56 (lessened t 90 (lessened t 132 ONE)))) / ONE) (share_within (t * lessened t 12 (lessened t 30 (lessened t 56 (lessened t 90 (lessened t 132 ONE))))) (product_within t (lessened t 12 (lessened t 30 (lessened t 56 (lessened t 90 (lessened t 132 ONE))))) h (omega arith)))
  where
    halved : (m : ℕ) → m ≤ ONE → (ONE / 2) ≤ (ONE - m / 2)
    halved m k = omega (arith, k)

scaled_from : (z : ℕ) → (ONE / 2) ≤ z → 2 ≤ scaled z
scaled_from z h = le-div 2 (z * RADIUS + ONE / 2) ONE (omega arith) (omega (arith, h))

two_at_least : (angle : ℕ) → angle < RIGHT_ANGLE → 2 ≤ cosine angle
unfolding cosine
two_at_least angle h =
    let half : half_of angle ≤ ONE = half_within angle h in
    scaled_from (cosine_by (square_of (half_of angle))) (cosine_from (square_of (half_of angle)) (share_within (half_of angle * half_of angle) (product_within (half_of angle) (half_of angle) half half)))

-- ---- the sides, of plain numbers

left : (c s : ℤ) → pos 1 ≤ℤ c → pos 0 ≤ℤ s → pos 1 ≤ℤ ((c +ℤ pos 1) *ℤ (s +ℤ pos 1) -ℤ (s -ℤ pos 1) *ℤ (c -ℤ pos 1))
left c s h k =
    let e : (c +ℤ pos 1) *ℤ (s +ℤ pos 1) -ℤ (s -ℤ pos 1) *ℤ (c -ℤ pos 1) ≡ (c +ℤ c) +ℤ (s +ℤ s) = simp ring (omega (arith, linear)) in
    omega (arith, linear, e, h, k)

over_first : (c s k x y : ℤ) → pos 1 ≤ℤ c → pos 1 ≤ℤ k → pos 0 ≤ℤ y → (k *ℤ (c -ℤ pos 1)) ≤ℤ x → x ≤ℤ (k *ℤ (c +ℤ pos 1)) → (k *ℤ (s -ℤ pos 1)) ≤ℤ y
    → pos 0 ≤ℤ ((c +ℤ pos 1) *ℤ y -ℤ (s -ℤ pos 1) *ℤ x)
over_first c s k x y hc hk hy from to up = elim (le_or_lt (pos 1) s) [
  | inl l ↦
      let f : ((c +ℤ pos 1) *ℤ (k *ℤ (s -ℤ pos 1))) ≤ℤ ((c +ℤ pos 1) *ℤ y) = times_mono (c +ℤ pos 1) (k *ℤ (s -ℤ pos 1)) y (omega (arith, linear, hc)) up in
      let g : ((s -ℤ pos 1) *ℤ x) ≤ℤ ((s -ℤ pos 1) *ℤ (k *ℤ (c +ℤ pos 1))) = times_mono (s -ℤ pos 1) x (k *ℤ (c +ℤ pos 1)) (omega (arith, linear, l)) to in
      omega (arith, linear, f, g, swapped (c +ℤ pos 1) k (s -ℤ pos 1))
  | inr l ↦
      let x_over : pos 0 ≤ℤ x = omega (arith, linear, from, times_from_zero k (c -ℤ pos 1) (omega (arith, linear, hk)) (omega (arith, linear, hc))) in
      let f : pos 0 ≤ℤ ((c +ℤ pos 1) *ℤ y) = times_from_zero (c +ℤ pos 1) y (omega (arith, linear, hc)) hy in
      let g : pos 0 ≤ℤ ((pos 1 -ℤ s) *ℤ x) = times_from_zero (pos 1 -ℤ s) x (omega (arith, linear, l)) x_over in
      omega (arith, linear, f, g, turned s x)
]
  where
    swapped : (a k b : ℤ) → a *ℤ (k *ℤ b) ≡ b *ℤ (k *ℤ a)
    swapped a k b = simp ring

    turned : (s x : ℤ) → (s -ℤ pos 1) *ℤ x ≡ neg_ℤ ((pos 1 -ℤ s) *ℤ x)
    turned s x = simp ring (omega (arith, linear))

under_last : (c s k x y : ℤ) → pos 1 ≤ℤ c → pos 0 ≤ℤ s → (k *ℤ (c -ℤ pos 1)) ≤ℤ x → y ≤ℤ (k *ℤ (s +ℤ pos 1)) → pos 0 ≤ℤ (x *ℤ (s +ℤ pos 1) -ℤ y *ℤ (c -ℤ pos 1))
under_last c s k x y hc hs from to =
    let f : ((k *ℤ (c -ℤ pos 1)) *ℤ (s +ℤ pos 1)) ≤ℤ (x *ℤ (s +ℤ pos 1)) = times_mono_right (s +ℤ pos 1) (k *ℤ (c -ℤ pos 1)) x (omega (arith, linear, hs)) from in
    let g : (y *ℤ (c -ℤ pos 1)) ≤ℤ ((k *ℤ (s +ℤ pos 1)) *ℤ (c -ℤ pos 1)) = times_mono_right (c -ℤ pos 1) y (k *ℤ (s +ℤ pos 1)) (omega (arith, linear, hc)) to in
    omega (arith, linear, f, g, swapped k (c -ℤ pos 1) (s +ℤ pos 1))
  where
    swapped : (k a b : ℤ) → (k *ℤ a) *ℤ b ≡ (k *ℤ b) *ℤ a
    swapped k a b = simp ring

leads : (c k x y : ℤ) → pos 2 ≤ℤ c → pos 1 ≤ℤ k → (k *ℤ (c -ℤ pos 1)) ≤ℤ x → pos 1 ≤ℤ (x *ℤ x +ℤ y *ℤ y)
leads c k x y hc hk from =
    let l : pos 1 ≤ℤ x = omega (arith, linear, from, over_zero k (c -ℤ pos 1) hk (omega (arith, linear, hc))) in
    omega (arith, linear, square_over x l, square_from_zero y)

pub near_between : (about : Spot) (angle : ℕ) (k : ℤ) (t : Turn) → angle < RIGHT_ANGLE → IsNear angle k t → IsBetween (turns_by about angle) t
near_between about angle k t acute n =
    let two : pos 2 ≤ℤ pos (cosine angle) = let l : 2 ≤ cosine angle = two_at_least angle acute in omega (arith, ints, l) in
    let one : pos 1 ≤ℤ pos (cosine angle) = omega (arith, linear, two) in
    let up : pos 0 ≤ℤ pos (sine angle) = omega (arith, ints) in
    sides_tell (turns_by about angle) t (leads (pos (cosine angle)) k t.x t.y two n.some n.x_from) (left (pos (cosine angle)) (pos (sine angle)) one up)
    (over_first (pos (cosine angle)) (pos (sine angle)) k t.x t.y one n.some n.up n.x_from n.x_to n.y_from) (under_last (pos (cosine angle)) (pos (sine angle)) k t.x t.y one up n.x_from n.y_to)

-- ---- what is at each turn is at one

abbrev middle : ℕ → Turn
middle angle = record { x = pos (cosine angle); y = pos (sine angle) }

near_middle : (angle : ℕ) → IsNear angle (pos 1) (middle angle)
near_middle angle = record {
  some = omega (arith, ints);
  up = omega (arith, ints);
  x_from = omega (arith, linear, one-times (pos (cosine angle) -ℤ pos 1));
  x_to = omega (arith, linear, one-times (pos (cosine angle) +ℤ pos 1));
  y_from = omega (arith, linear, one-times (pos (sine angle) -ℤ pos 1));
  y_to = omega (arith, linear, one-times (pos (sine angle) +ℤ pos 1));
}

pub surely_possibly : (contour : List Spot) (about : Spot) (angle : ℕ) (p : Point) → angle < RIGHT_ANGLE → SurelyTurned contour about angle p → PossiblyTurned contour about angle p
surely_possibly contour about angle p acute h =
    let between : IsBetween (turns_by about angle) (middle angle) = near_between about angle (pos 1) (middle angle) acute (near_middle angle) in
    (middle angle, between, h (middle angle) between)

pub disc_copper : (a : TurnedDisc) (p : Point) → a.angle < RIGHT_ANGLE → SurelyInDisc a p → PossiblyInDisc a p
disc_copper a p acute h =
    let between : IsBetween (turns_of a) (middle a.angle) = near_between a.about a.angle (pos 1) (middle a.angle) acute (near_middle a.angle) in
    (middle a.angle, between, h (middle a.angle) between)
