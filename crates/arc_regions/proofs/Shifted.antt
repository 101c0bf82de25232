-- A place a little to the right of another, and by far less above it: no line through two spots holds it, and the ray crosses the same edges.
-- With k = m m for an m that is over all differences of coordinates it is (x k + m, y k + 1) / (n k).
use Rattle.std.proofs.Common.{Bool, false, ◌||◌, ◌≡◌, inl, inr, ℤ, pos, neg_ℤ, ◌+ℤ◌, ◌-ℤ◌, ◌*ℤ◌, ◌≤ℤ◌, ◌<ℤ◌, arith, refl, sym, ap, ◌∙◌}
use lib.Signed.{lt_z, le_z}
use Rattle.planar.specs.declared.Spot.{Spot}
use Rattle.planar.specs.Plane.{square}
use Rattle.planar.proofs.Ring.{ring, linear, le_or_lt, times_from_zero, times_mono, times-one, times-zero, zero-times, neg-mul, mul-neg}
use Rattle.planar.proofs.EdgeLaw.{crosses, not_lt, not_le, is_lt, is_le}
use Rattle.area_contact.specs.Parity.{side_of, passes, crossed, same_crosses}
use Rattle.arc_regions.proofs.Hits.{Sign, is_over, is_under, hit}

-- the differences of two spots are under m
pub record IsNarrow (m : ℤ) (a b : Spot) : Type 0 where
  pub right : (b.x -ℤ a.x) <ℤ m
  pub left : (a.x -ℤ b.x) <ℤ m
  pub up : (b.y -ℤ a.y) <ℤ m
  pub down : (a.y -ℤ b.y) <ℤ m

-- ---- how far a line's side moves

-- u - v m is under 0 where v is over 0, and so on, and less than m m in size
tilt_less : (m u v : ℤ) → pos 2 ≤ℤ m → u <ℤ m → pos 1 ≤ℤ v → (u -ℤ v *ℤ m) <ℤ pos 0
tilt_less m u v hm hu hv = let f : (m *ℤ pos 1) ≤ℤ (m *ℤ v) = times_mono m (pos 1) v (omega (arith, linear, hm)) hv in let e : m *ℤ v ≡ v *ℤ m = simp ring in omega (arith, linear, hu, f, e, times-one m)

tilt_more : (m u v : ℤ) → pos 2 ≤ℤ m → neg_ℤ u <ℤ m → v ≤ℤ neg_ℤ (pos 1) → pos 0 <ℤ (u -ℤ v *ℤ m)
tilt_more m u v hm hu hv =
    let f : (m *ℤ pos 1) ≤ℤ (m *ℤ neg_ℤ v) = times_mono m (pos 1) (neg_ℤ v) (omega (arith, linear, hm)) (omega (arith, linear, hv)) in
    let e : m *ℤ neg_ℤ v ≡ neg_ℤ (v *ℤ m) = simp ring in
    omega (arith, linear, hu, f, e, times-one m)

tilt_flat : (m u v : ℤ) → v ≡ pos 0 → u -ℤ v *ℤ m ≡ u
tilt_flat m u v h = rw h (omega (arith, linear, zero-times m))

tilt_within : (m u v : ℤ) → pos 2 ≤ℤ m → u <ℤ m → neg_ℤ v <ℤ m → (u -ℤ v *ℤ m) <ℤ square m
tilt_within m u v hm hu hv =
    let f : (m *ℤ (neg_ℤ v)) ≤ℤ (m *ℤ (m -ℤ pos 1)) = times_mono m (neg_ℤ v) (m -ℤ pos 1) (omega (arith, linear, hm)) (omega (arith, linear, hv)) in
    let e : m *ℤ neg_ℤ v ≡ neg_ℤ (v *ℤ m) = simp ring in
    let g : m *ℤ (m -ℤ pos 1) ≡ square m -ℤ m = simp ring in
    omega (arith, linear, hu, f, e, g)

-- k z + t with a t of less than k in size has the sign of z, or that of t where z is 0
moved_over : (k z t : ℤ) → pos 1 ≤ℤ z → neg_ℤ t <ℤ k → pos 0 ≤ℤ k → pos 0 <ℤ (k *ℤ z +ℤ t)
moved_over k z t h l from = omega (arith, linear, times_mono k (pos 1) z from h, times-one k, l)

moved_under : (k z t : ℤ) → z ≤ℤ neg_ℤ (pos 1) → t <ℤ k → pos 0 ≤ℤ k → (k *ℤ z +ℤ t) <ℤ pos 0
moved_under k z t h l from = omega (arith, linear, times_mono k (pos 1) (neg_ℤ z) from (omega (arith, linear, h)), times-one k, mul-neg k z, l)

moved_level : (k z t : ℤ) → z ≡ pos 0 → k *ℤ z +ℤ t ≡ t
moved_level k z t h = rw h (omega (arith, linear, times-zero k))

module _ (m : ℤ) (hm : pos 2 ≤ℤ m) (x y n : ℤ) (some : pos 1 ≤ℤ n) where
  abbrev k : ℤ
  k = square m

  k_over : pos 2 ≤ℤ k
  k_over = let f : (m *ℤ pos 1) ≤ℤ (m *ℤ m) = times_mono m (pos 1) m (omega (arith, linear, hm)) (omega (arith, linear, hm)) in omega (arith, linear, hm, f, times-one m)

  -- the place
  abbrev pub x' : ℤ
  x' = x *ℤ square m +ℤ m

  abbrev pub y' : ℤ
  y' = y *ℤ square m +ℤ pos 1

  abbrev pub n' : ℤ
  n' = n *ℤ square m

  -- ---- heights

  height_is : (h : ℤ) → (n *ℤ square m) *ℤ h -ℤ (y *ℤ square m +ℤ pos 1) ≡ square m *ℤ (n *ℤ h -ℤ y) +ℤ neg_ℤ (pos 1)
  height_is h = simp ring (omega (arith, linear))

  pub height_sign : (h : ℤ) → Sign (n' *ℤ h -ℤ y')
  height_sign h = elim (le_or_lt (n *ℤ h -ℤ y) (pos 0)) [
    | inl l ↦ is_under (n' *ℤ h -ℤ y') (rw (height_is h) (low l))
    | inr g ↦ is_over (n' *ℤ h -ℤ y') (rw (height_is h) (moved_over k (n *ℤ h -ℤ y) (neg_ℤ (pos 1)) (omega (arith, linear, g)) (omega (arith, linear, k_over)) (omega (arith, linear, k_over))))
  ]
    where
      low : (n *ℤ h -ℤ y) ≤ℤ pos 0 → (square m *ℤ (n *ℤ h -ℤ y) +ℤ neg_ℤ (pos 1)) <ℤ pos 0
      low l = omega (arith, linear, times_mono k (n *ℤ h -ℤ y) (pos 0) (omega (arith, linear, k_over)) l, times-zero k)

  same_low : (h : ℤ) → le_z (n' *ℤ h -ℤ y') (pos 0) ≡ le_z (n *ℤ h -ℤ y) (pos 0)
  same_low h = elim (le_or_lt (n *ℤ h -ℤ y) (pos 0)) [
    | inl l ↦ is_le (n' *ℤ h -ℤ y') (pos 0) (rw (height_is h) (omega (arith, linear, times_mono k (n *ℤ h -ℤ y) (pos 0) (omega (arith, linear, k_over)) l, times-zero k))) ∙ sym (is_le (n *ℤ h -ℤ y) (pos 0) l)
    | inr g ↦ not_le (n' *ℤ h -ℤ y') (pos 0) (rw (height_is h) (moved_over k (n *ℤ h -ℤ y) (neg_ℤ (pos 1)) (omega (arith, linear, g)) (omega (arith, linear, k_over)) (omega (arith, linear, k_over)))) ∙ sym (not_le (n *ℤ h -ℤ y) (pos 0) g)
  ]

  same_high : (h : ℤ) → lt_z (pos 0) (n' *ℤ h -ℤ y') ≡ lt_z (pos 0) (n *ℤ h -ℤ y)
  same_high h = elim (le_or_lt (n *ℤ h -ℤ y) (pos 0)) [
    | inl l ↦ not_lt (pos 0) (n' *ℤ h -ℤ y') (rw (height_is h) (omega (arith, linear, times_mono k (n *ℤ h -ℤ y) (pos 0) (omega (arith, linear, k_over)) l, times-zero k))) ∙ sym (not_lt (pos 0) (n *ℤ h -ℤ y) l)
    | inr g ↦ is_lt (pos 0) (n' *ℤ h -ℤ y') (rw (height_is h) (moved_over k (n *ℤ h -ℤ y) (neg_ℤ (pos 1)) (omega (arith, linear, g)) (omega (arith, linear, k_over)) (omega (arith, linear, k_over)))) ∙ sym (is_lt (pos 0) (n *ℤ h -ℤ y) g)
  ]

  -- ---- sides

  -- how a line's side moves
  abbrev tilt : Spot → Spot → ℤ
  tilt a b = (b.x -ℤ a.x) -ℤ (b.y -ℤ a.y) *ℤ m

  side_is : (a b : Spot) → side_of a b x' y' n' ≡ k *ℤ side_of a b x y n +ℤ tilt a b
  side_is a b = simp ring (omega (arith, linear))

  module _ (a b : Spot) (narrow : IsNarrow m a b) where
    not_far : tilt a b <ℤ k
    not_far = tilt_within m (b.x -ℤ a.x) (b.y -ℤ a.y) hm narrow.right (omega (arith, linear, narrow.down))

    not_back : neg_ℤ (tilt a b) <ℤ k
    not_back =
        let f : (neg_ℤ (b.x -ℤ a.x) -ℤ neg_ℤ (b.y -ℤ a.y) *ℤ m) <ℤ k = tilt_within m (neg_ℤ (b.x -ℤ a.x)) (neg_ℤ (b.y -ℤ a.y)) hm (omega (arith, linear, narrow.left)) (omega (arith, linear, narrow.up)) in
        omega (arith, linear, f, neg-mul (b.y -ℤ a.y) m)

    pub side_over : pos 0 <ℤ side_of a b x y n → pos 0 <ℤ side_of a b x' y' n'
    side_over h = rw (side_is a b) (moved_over k (side_of a b x y n) (tilt a b) (omega (arith, linear, h)) not_back (omega (arith, linear, k_over)))

    pub side_under : side_of a b x y n <ℤ pos 0 → side_of a b x' y' n' <ℤ pos 0
    side_under h = rw (side_is a b) (moved_under k (side_of a b x y n) (tilt a b) (omega (arith, linear, h)) not_far (omega (arith, linear, k_over)))

    pub side_level : side_of a b x y n ≡ pos 0 → side_of a b x' y' n' ≡ tilt a b
    side_level h = side_is a b ∙ moved_level k (side_of a b x y n) (tilt a b) h

    -- and back
    pub from_over : pos 0 <ℤ side_of a b x' y' n' → pos 0 ≤ℤ side_of a b x y n
    from_over h = elim (le_or_lt (pos 0) (side_of a b x y n)) [ inl l ↦ l | inr g ↦ absurd (omega (arith, linear, h, side_under g)) ]

    pub from_under : side_of a b x' y' n' <ℤ pos 0 → side_of a b x y n ≤ℤ pos 0
    from_under h = elim (le_or_lt (side_of a b x y n) (pos 0)) [ inl l ↦ l | inr g ↦ absurd (omega (arith, linear, h, side_over g)) ]

    -- a line that rises has it on the right where it held the place, one that falls on the left, one that runs to the right on the left
    pub level_rising : side_of a b x y n ≡ pos 0 → a.y <ℤ b.y → side_of a b x' y' n' <ℤ pos 0
    level_rising h l = rw (side_level h) (tilt_less m (b.x -ℤ a.x) (b.y -ℤ a.y) hm narrow.right (omega (arith, linear, l)))

    pub level_falling : side_of a b x y n ≡ pos 0 → b.y <ℤ a.y → pos 0 <ℤ side_of a b x' y' n'
    level_falling h l = rw (side_level h) (tilt_more m (b.x -ℤ a.x) (b.y -ℤ a.y) hm (omega (arith, linear, narrow.left)) (omega (arith, linear, l)))

    pub level_flat : side_of a b x y n ≡ pos 0 → a.y ≡ b.y → side_of a b x' y' n' ≡ b.x -ℤ a.x
    level_flat h l = side_level h ∙ tilt_flat m (b.x -ℤ a.x) (b.y -ℤ a.y) (omega (arith, linear, l))

    -- of two spots it is on one side
    pub side_sign : (a.x ≡ b.x → a.y ≡ b.y → ⊥) → Sign (side_of a b x' y' n')
    side_sign apart = elim (le_or_lt (side_of a b x y n) (pos 0)) [
      | inr g ↦ is_over (side_of a b x' y' n') (side_over g)
      | inl l ↦ elim (le_or_lt (pos 0) (side_of a b x y n)) [
        | inr g ↦ is_under (side_of a b x' y' n') (side_under g)
        | inl h ↦ level (omega (arith, linear, l, h))
      ]
    ]
      where
        level : side_of a b x y n ≡ pos 0 → Sign (side_of a b x' y' n')
        level h = elim (le_or_lt (b.y) (a.y)) [
          | inr g ↦ is_under (side_of a b x' y' n') (level_rising h g)
          | inl l ↦ elim (le_or_lt a.y b.y) [
            | inr g ↦ is_over (side_of a b x' y' n') (level_falling h g)
            | inl r ↦ elim (le_or_lt b.x a.x) [
              | inr g ↦ is_over (side_of a b x' y' n') (omega (arith, linear, g, level_flat h (omega (arith, linear, l, r))))
              | inl s ↦ elim (le_or_lt a.x b.x) [
                | inr g ↦ is_under (side_of a b x' y' n') (omega (arith, linear, g, level_flat h (omega (arith, linear, l, r))))
                | inl q ↦ absurd (apart (omega (arith, linear, s, q)) (omega (arith, linear, l, r)))
              ]
            ]
          ]
        ]

  -- ---- edges

  none_pass : (low high : Spot) (x y n : ℤ) → pos 0 ≤ℤ n → high.y ≤ℤ low.y → passes low high x y n ≡ false
  none_pass low high x y n from h = elim (le_or_lt (n *ℤ low.y -ℤ y) (pos 0)) [
    | inr g ↦ rw (not_le (n *ℤ low.y -ℤ y) (pos 0) g) refl
    | inl l ↦ rw (is_le (n *ℤ low.y -ℤ y) (pos 0) l, not_lt (pos 0) (n *ℤ high.y -ℤ y) (omega (arith, linear, l, times_mono n high.y low.y from h))) refl
  ]

  n'_from : pos 0 ≤ℤ n'
  n'_from = times_from_zero n (square m) (omega (arith, linear, some)) (omega (arith, linear, k_over))

  same_side : (a b : Spot) → IsNarrow m a b → a.y <ℤ b.y → lt_z (pos 0) (side_of a b x' y' n') ≡ lt_z (pos 0) (side_of a b x y n)
  same_side a b narrow h = elim (le_or_lt (side_of a b x y n) (pos 0)) [
    | inr g ↦ is_lt (pos 0) (side_of a b x' y' n') (side_over a b narrow g) ∙ sym (is_lt (pos 0) (side_of a b x y n) g)
    | inl l ↦ not_lt (pos 0) (side_of a b x' y' n') (omega (arith, linear, under l)) ∙ sym (not_lt (pos 0) (side_of a b x y n) l)
  ]
    where
      under : side_of a b x y n ≤ℤ pos 0 → side_of a b x' y' n' <ℤ pos 0
      under l = elim (le_or_lt (pos 0) (side_of a b x y n)) [ inr g ↦ side_under a b narrow g | inl z ↦ level_rising a b narrow (omega (arith, linear, l, z)) h ]

  same_passes : (a b : Spot) → IsNarrow m a b → passes a b x' y' n' ≡ passes a b x y n
  same_passes a b narrow = elim (le_or_lt b.y a.y) [
    | inl l ↦ none_pass a b x' y' n' n'_from l ∙ sym (none_pass a b x y n (omega (arith, linear, some)) l)
    | inr g ↦ same_crosses (pos 0) (n' *ℤ a.y -ℤ y') (n' *ℤ b.y -ℤ y') (side_of a b x' y' n') (pos 0) (n *ℤ a.y -ℤ y) (n *ℤ b.y -ℤ y) (side_of a b x y n) (same_low a.y) (same_high b.y) (same_side a b narrow g)
  ]

  turned : (a b : Spot) → IsNarrow m a b → IsNarrow m b a
  turned a b h = record { right = h.left; left = h.right; up = h.down; down = h.up }

  side_back : (a b : Spot) (x y n : ℤ) → side_of b a x y n ≡ neg_ℤ (side_of a b x y n)
  side_back a b x y n = simp ring (omega (arith, linear))

  -- the ray crosses the edge from here where it does from there, told by heights and the side
  pub crossed_is_hit : (a b : Spot) → IsNarrow m a b → crossed (record { start = a; end = b }) x y n ≡ hit (n' *ℤ a.y -ℤ y') (n' *ℤ b.y -ℤ y') (side_of a b x' y' n')
  crossed_is_hit a b narrow =
      sym (ap (λ (s : Bool). s || passes b a x y n) (same_passes a b narrow)) ∙ sym (ap (λ (s : Bool). passes a b x' y' n' || s) (same_passes b a (turned a b narrow)))
      ∙ ap (λ (z : ℤ). passes a b x' y' n' || crosses (pos 0) (n' *ℤ b.y -ℤ y') (n' *ℤ a.y -ℤ y') z) (side_back a b x' y' n')
