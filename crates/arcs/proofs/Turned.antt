-- Up to a half turn the circle through both ends whose centre is nearest to the given one keeps the distances of the ends, in the turn.
use Rattle.std.proofs.Common.{◌≡◌, ◌⊎◌, inl, inr, ℤ, pos, neg_ℤ, ◌+ℤ◌, ◌-ℤ◌, ◌*ℤ◌, ◌≤ℤ◌, ◌<ℤ◌, arith, ap}
use Rattle.planar.proofs.Ring.{ring, linear, le_or_lt, over_zero, square_from_zero, square_over, times_from_zero}

-- a product that is not over 0 has its two factors on two sides of 0
pub between : (u w : ℤ) → pos 0 ≤ℤ w → (u *ℤ (u -ℤ w)) ≤ℤ pos 0 → (pos 0 ≤ℤ u) × (u ≤ℤ w)
between u w hw h = (low, high)
  where
    low : pos 0 ≤ℤ u
    low = elim (le_or_lt (pos 0) u) [
      | inl l ↦ l
      | inr g ↦ absurd (
          let f : pos 1 ≤ℤ (neg_ℤ u *ℤ (w -ℤ u)) = over_zero (neg_ℤ u) (w -ℤ u) (omega (arith, linear, g)) (omega (arith, linear, g, hw)) in
          let e : neg_ℤ u *ℤ (w -ℤ u) ≡ u *ℤ (u -ℤ w) = simp ring (omega (arith, linear)) in
          omega (arith, linear, e, f, h))
    ]

    high : u ≤ℤ w
    high = elim (le_or_lt u w) [
      | inl l ↦ l
      | inr g ↦ absurd (let f : pos 1 ≤ℤ (u *ℤ (u -ℤ w)) = over_zero u (u -ℤ w) (omega (arith, linear, g, hw)) (omega (arith, linear, g)) in omega (arith, linear, f, h))
    ]

-- A place of the circle, seen from the start: U and W are its parts along and across the way between the ends, whose square is A, n times. k and P are the centre's.
-- b and a are the place's sides of start and end
module _ (n A k U W P a b : ℤ) (hn : pos 1 ≤ℤ n) (hA : pos 1 ≤ℤ A) (circle : (U *ℤ U +ℤ W *ℤ W) -ℤ ((n *ℤ W) *ℤ k +ℤ (n *ℤ W) *ℤ k) ≡ (n *ℤ A) *ℤ U) where
  factored : U *ℤ (U -ℤ n *ℤ A) ≡ W *ℤ ((n *ℤ k +ℤ n *ℤ k) -ℤ W)
  factored =
      let e : U *ℤ (U -ℤ n *ℤ A) ≡ U *ℤ U -ℤ (n *ℤ A) *ℤ U = simp ring (omega (arith, linear)) in
      let f : W *ℤ ((n *ℤ k +ℤ n *ℤ k) -ℤ W) ≡ ((n *ℤ W) *ℤ k +ℤ (n *ℤ W) *ℤ k) -ℤ W *ℤ W = simp ring (omega (arith, linear)) in
      omega (arith, linear, e, f, circle)

  -- beyond the line through the ends it is between them
  beyond : pos 0 ≤ℤ k → W ≤ℤ pos 0 → (pos 0 ≤ℤ U) × (U ≤ℤ (n *ℤ A))
  beyond hk across =
      let from : pos 0 ≤ℤ (n *ℤ k) = times_from_zero n k (omega (arith, linear, hn)) hk in
      let f : pos 0 ≤ℤ (neg_ℤ W *ℤ ((n *ℤ k +ℤ n *ℤ k) -ℤ W)) = times_from_zero (neg_ℤ W) ((n *ℤ k +ℤ n *ℤ k) -ℤ W) (omega (arith, linear, across)) (omega (arith, linear, across, from)) in
      let e : neg_ℤ W *ℤ ((n *ℤ k +ℤ n *ℤ k) -ℤ W) ≡ neg_ℤ (W *ℤ ((n *ℤ k +ℤ n *ℤ k) -ℤ W)) = simp ring (omega (arith, linear)) in
      between U (n *ℤ A) (times_from_zero n A (omega (arith, linear, hn)) (omega (arith, linear, hA))) (omega (arith, linear, e, f, factored))

  -- where the centre is on that line, so is it
  pub flat : k ≡ pos 0 → (pos 0 ≤ℤ U) × (U ≤ℤ (n *ℤ A))
  flat none =
      let f : U *ℤ (U -ℤ n *ℤ A) ≡ W *ℤ ((n *ℤ pos 0 +ℤ n *ℤ pos 0) -ℤ W) = rw none at factored in
      let e : W *ℤ ((n *ℤ pos 0 +ℤ n *ℤ pos 0) -ℤ W) ≡ neg_ℤ (W *ℤ W) = simp ring (omega (arith, linear)) in
      between U (n *ℤ A) (times_from_zero n A (omega (arith, linear, hn)) (omega (arith, linear, hA))) (omega (arith, linear, e, f, square_from_zero W))

  module _ (sum : n *ℤ k ≡ (a +ℤ b) +ℤ W) (cut : k *ℤ U ≡ A *ℤ b -ℤ W *ℤ P) (ha : pos 0 ≤ℤ a) (hb : pos 0 ≤ℤ b) (inside : pos 1 ≤ℤ (k *ℤ k -ℤ P *ℤ (P +ℤ A))) where
    scaled : ((k *ℤ U) *ℤ (k *ℤ U) +ℤ (k *ℤ k) *ℤ (W *ℤ W)) -ℤ ((n *ℤ k) *ℤ ((k *ℤ k) *ℤ W) +ℤ (n *ℤ k) *ℤ ((k *ℤ k) *ℤ W)) ≡ (A *ℤ (n *ℤ k)) *ℤ (k *ℤ U)
    scaled =
        let e : (k *ℤ k) *ℤ ((U *ℤ U +ℤ W *ℤ W) -ℤ ((n *ℤ W) *ℤ k +ℤ (n *ℤ W) *ℤ k)) ≡ (k *ℤ k) *ℤ ((n *ℤ A) *ℤ U) = ap (λ (z : ℤ). (k *ℤ k) *ℤ z) circle in
        let f : (k *ℤ k) *ℤ ((U *ℤ U +ℤ W *ℤ W) -ℤ ((n *ℤ W) *ℤ k +ℤ (n *ℤ W) *ℤ k)) ≡ ((k *ℤ U) *ℤ (k *ℤ U) +ℤ (k *ℤ k) *ℤ (W *ℤ W)) -ℤ ((n *ℤ k) *ℤ ((k *ℤ k) *ℤ W) +ℤ (n *ℤ k) *ℤ ((k *ℤ k) *ℤ W)) = simp ring (omega (arith, linear)) in
        let g : (k *ℤ k) *ℤ ((n *ℤ A) *ℤ U) ≡ (A *ℤ (n *ℤ k)) *ℤ (k *ℤ U) = simp ring in
        omega (arith, linear, e, f, g)

    weighed : (K : ℤ) → ((A *ℤ b -ℤ W *ℤ P) *ℤ (A *ℤ b -ℤ W *ℤ P) +ℤ K *ℤ (W *ℤ W)) -ℤ (((a +ℤ b) +ℤ W) *ℤ (K *ℤ W) +ℤ ((a +ℤ b) +ℤ W) *ℤ (K *ℤ W)) -ℤ (A *ℤ ((a +ℤ b) +ℤ W)) *ℤ (A *ℤ b -ℤ W *ℤ P)
        ≡ neg_ℤ (((A *ℤ A) *ℤ (a *ℤ b) +ℤ (K -ℤ P *ℤ (P +ℤ A)) *ℤ (W *ℤ ((W +ℤ a) +ℤ b))) +ℤ ((K +ℤ P *ℤ P) *ℤ (W *ℤ a) +ℤ (K +ℤ (P +ℤ A) *ℤ (P +ℤ A)) *ℤ (W *ℤ b)))
    weighed K = simp ring (omega (arith, linear))

    -- it is not on the centre's side of the line, since the centre is inside the circle
    across : W ≤ℤ pos 0
    across = elim (le_or_lt W (pos 0)) [ inl l ↦ l | inr g ↦ absurd (none g) ]
      where
        none : pos 0 <ℤ W → ⊥
        none g =
            let hW : pos 0 ≤ℤ W = omega (arith, linear, g) in
            let kk : pos 0 ≤ℤ (k *ℤ k) = square_from_zero k in
            let s = rw (cut, sum) at scaled in
            let p = times_from_zero (A *ℤ A) (a *ℤ b) (square_from_zero A) (times_from_zero a b ha hb) in
            let w : pos 1 ≤ℤ (W *ℤ ((W +ℤ a) +ℤ b)) = over_zero W ((W +ℤ a) +ℤ b) (omega (arith, linear, g)) (omega (arith, linear, g, ha, hb)) in
            let q = over_zero (k *ℤ k -ℤ P *ℤ (P +ℤ A)) (W *ℤ ((W +ℤ a) +ℤ b)) inside w in
            let x = times_from_zero (k *ℤ k +ℤ P *ℤ P) (W *ℤ a) (omega (arith, linear, kk, square_from_zero P)) (times_from_zero W a hW ha) in
            let y = times_from_zero (k *ℤ k +ℤ (P +ℤ A) *ℤ (P +ℤ A)) (W *ℤ b) (omega (arith, linear, kk, square_from_zero (P +ℤ A))) (times_from_zero W b hW hb) in
            omega (arith, linear, s, weighed (k *ℤ k), p, q, x, y)

    pub turned : pos 0 ≤ℤ k → (pos 0 ≤ℤ U) × (U ≤ℤ (n *ℤ A))
    turned hk = beyond hk across

-- The centre is inside the circle. A + 2 P is the difference of the ends' squares
pub inside_by : (A P k d : ℤ) → pos 1 ≤ℤ A → pos 1 ≤ℤ k → (A +ℤ (P +ℤ P)) ≤ℤ d → neg_ℤ d ≤ℤ (A +ℤ (P +ℤ P)) → (d ≤ℤ A) ⊎ (d ≤ℤ (k +ℤ k)) → pos 1 ≤ℤ (k *ℤ k -ℤ P *ℤ (P +ℤ A))
inside_by A P k d hA hk most least (inl l) =
    let f : pos 0 ≤ℤ (neg_ℤ P *ℤ (P +ℤ A)) = times_from_zero (neg_ℤ P) (P +ℤ A) (omega (arith, linear, most, l)) (omega (arith, linear, least, l)) in
    let e : neg_ℤ P *ℤ (P +ℤ A) ≡ neg_ℤ (P *ℤ (P +ℤ A)) = simp ring (omega (arith, linear)) in
    omega (arith, linear, e, f, square_over k hk)
inside_by A P k d hA hk most least (inr l) =
    let f : pos 0 ≤ℤ (((k +ℤ k) -ℤ (A +ℤ (P +ℤ P))) *ℤ ((k +ℤ k) +ℤ (A +ℤ (P +ℤ P)))) = times_from_zero ((k +ℤ k) -ℤ (A +ℤ (P +ℤ P))) ((k +ℤ k) +ℤ (A +ℤ (P +ℤ P))) (omega (arith, linear, most, l)) (omega (arith, linear, least, l)) in
    let e : ((k +ℤ k) -ℤ (A +ℤ (P +ℤ P))) *ℤ ((k +ℤ k) +ℤ (A +ℤ (P +ℤ P))) ≡ (((k *ℤ k -ℤ P *ℤ (P +ℤ A)) +ℤ (k *ℤ k -ℤ P *ℤ (P +ℤ A))) +ℤ ((k *ℤ k -ℤ P *ℤ (P +ℤ A)) +ℤ (k *ℤ k -ℤ P *ℤ (P +ℤ A)))) -ℤ A *ℤ A = simp ring (omega (arith, linear)) in
    omega (arith, linear, e, f, square_over A hA)
