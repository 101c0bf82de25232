-- How the links of a chain turn past a place, round a centre, from a first direction on.
use Rattle.std.proofs.Common.{Bool, not, ◌&&◌, ◌||◌, if◌then◌else◌, int_lt, ◌≡◌, inl, inr, ℤ, pos, neg_ℤ, ◌+ℤ◌, ◌*ℤ◌, ◌≤ℤ◌, ◌<ℤ◌, arith, refl}
use Rattle.std.proofs.lemmas.Int.{ints}
use lib.Signed.{lt_z}
use Rattle.planar.proofs.Ring.{linear, le_or_lt, over_zero, neg-mul, mul-neg}
use Rattle.planar.proofs.EdgeLaw.{xor}
use Rattle.arc_regions.proofs.Hits.{Sign, over, under, more, less, most}
use Rattle.arcs.proofs.Radii.{lt_false, lt_true}

-- the turn from a first direction to that of a spot, counterclockwise and short of a whole one, goes past the place. x tells how the spot turns from the first direction, s and v whether
-- the place is on the left of the first and of the spot
abbrev pub turned : ℤ → Bool → Bool → Bool
turned x s v = if int_lt x (pos 0) then s || not v else s && not v

-- the link from a spot to the next goes past the place
abbrev pub swept : Bool → Bool → Bool
swept v w = v && not w

-- or past the first direction
abbrev pub past : ℤ → ℤ → Bool
past x y = int_lt x (pos 0) && not (int_lt y (pos 0))

module _ (x y z s v w : ℤ) (some : pos 0 <ℤ z) (e : y *ℤ v ≡ x *ℤ w +ℤ z *ℤ s) where
  abbrev Step : Type 0
  Step = xor (swept (lt_z (pos 0) v) (lt_z (pos 0) w)) (past x y) ≡ xor (turned x (lt_z (pos 0) s) (lt_z (pos 0) v)) (turned y (lt_z (pos 0) s) (lt_z (pos 0) w))

  -- products of two that are not under 0, and so on
  up : (a b : ℤ) → pos 0 ≤ℤ a → pos 0 <ℤ b → pos 0 ≤ℤ (a *ℤ b)
  up a b h k = elim (le_or_lt a (pos 0)) [
    | inl l ↦ (let z : a ≡ pos 0 = omega (arith, linear, h, l) in rw z (omega (arith, ints)))
    | inr g ↦ omega (arith, linear, more a b g k)
  ]

  down : (a b : ℤ) → pos 0 ≤ℤ a → b <ℤ pos 0 → (a *ℤ b) ≤ℤ pos 0
  down a b h k = elim (le_or_lt a (pos 0)) [
    | inl l ↦ (let z : a ≡ pos 0 = omega (arith, linear, h, l) in rw z (omega (arith, ints)))
    | inr g ↦ most a b g (omega (arith, linear, k))
  ]

  fall : (a b : ℤ) → pos 0 <ℤ a → b <ℤ pos 0 → (a *ℤ b) <ℤ pos 0
  fall a b h k = omega (arith, linear, over_zero a (neg_ℤ b) (omega (arith, linear, h)) (omega (arith, linear, k)), mul-neg a b)

  rise : (a b : ℤ) → a <ℤ pos 0 → b <ℤ pos 0 → pos 0 <ℤ (a *ℤ b)
  rise a b h k = omega (arith, linear, fall (neg_ℤ a) b (omega (arith, linear, h)) k, neg-mul a b)

  both_left : pos 0 ≤ℤ x → pos 0 ≤ℤ y → Sign s → Sign v → Sign w → Step
  both_left hx hy (over hs s1 s2) (over hv v1 v2) (over hw w1 w2) = rw (lt_false x hx, lt_false y hy, w1, v1, s1) refl
  both_left hx hy (over hs s1 s2) (over hv v1 v2) (under hw w1 w2) = rw (lt_false x hx, lt_false y hy, w1, v1, s1) refl
  both_left hx hy (over hs s1 s2) (under hv v1 v2) (over hw w1 w2) = absurd (omega (arith, linear, e, down y v hy hv, up x w hx hw, more z s some hs))
  both_left hx hy (over hs s1 s2) (under hv v1 v2) (under hw w1 w2) = rw (lt_false x hx, lt_false y hy, w1, v1, s1) refl
  both_left hx hy (under hs s1 s2) (over hv v1 v2) (over hw w1 w2) = rw (lt_false x hx, lt_false y hy, w1, v1, s1) refl
  both_left hx hy (under hs s1 s2) (over hv v1 v2) (under hw w1 w2) = absurd (omega (arith, linear, e, up y v hy hv, down x w hx hw, fall z s some hs))
  both_left hx hy (under hs s1 s2) (under hv v1 v2) (over hw w1 w2) = rw (lt_false x hx, lt_false y hy, w1, v1, s1) refl
  both_left hx hy (under hs s1 s2) (under hv v1 v2) (under hw w1 w2) = rw (lt_false x hx, lt_false y hy, w1, v1, s1) refl

  to_right : pos 0 ≤ℤ x → y <ℤ pos 0 → Sign s → Sign v → Sign w → Step
  to_right hx hy (over hs s1 s2) (over hv v1 v2) (over hw w1 w2) = absurd (omega (arith, linear, e, less y v hy hv, up x w hx hw, more z s some hs))
  to_right hx hy (over hs s1 s2) (over hv v1 v2) (under hw w1 w2) = rw (lt_false x hx, lt_true y hy, w1, v1, s1) refl
  to_right hx hy (over hs s1 s2) (under hv v1 v2) (over hw w1 w2) = rw (lt_false x hx, lt_true y hy, w1, v1, s1) refl
  to_right hx hy (over hs s1 s2) (under hv v1 v2) (under hw w1 w2) = rw (lt_false x hx, lt_true y hy, w1, v1, s1) refl
  to_right hx hy (under hs s1 s2) (over hv v1 v2) (over hw w1 w2) = rw (lt_false x hx, lt_true y hy, w1, v1, s1) refl
  to_right hx hy (under hs s1 s2) (over hv v1 v2) (under hw w1 w2) = rw (lt_false x hx, lt_true y hy, w1, v1, s1) refl
  to_right hx hy (under hs s1 s2) (under hv v1 v2) (over hw w1 w2) = rw (lt_false x hx, lt_true y hy, w1, v1, s1) refl
  to_right hx hy (under hs s1 s2) (under hv v1 v2) (under hw w1 w2) = absurd (omega (arith, linear, e, rise y v hy hv, down x w hx hw, fall z s some hs))

  both_right : x <ℤ pos 0 → y <ℤ pos 0 → Sign s → Sign v → Sign w → Step
  both_right hx hy (over hs s1 s2) (over hv v1 v2) (over hw w1 w2) = rw (lt_true x hx, lt_true y hy, w1, v1, s1) refl
  both_right hx hy (over hs s1 s2) (over hv v1 v2) (under hw w1 w2) = absurd (omega (arith, linear, e, less y v hy hv, rise x w hx hw, more z s some hs))
  both_right hx hy (over hs s1 s2) (under hv v1 v2) (over hw w1 w2) = rw (lt_true x hx, lt_true y hy, w1, v1, s1) refl
  both_right hx hy (over hs s1 s2) (under hv v1 v2) (under hw w1 w2) = rw (lt_true x hx, lt_true y hy, w1, v1, s1) refl
  both_right hx hy (under hs s1 s2) (over hv v1 v2) (over hw w1 w2) = rw (lt_true x hx, lt_true y hy, w1, v1, s1) refl
  both_right hx hy (under hs s1 s2) (over hv v1 v2) (under hw w1 w2) = rw (lt_true x hx, lt_true y hy, w1, v1, s1) refl
  both_right hx hy (under hs s1 s2) (under hv v1 v2) (over hw w1 w2) = absurd (omega (arith, linear, e, rise y v hy hv, less x w hx hw, fall z s some hs))
  both_right hx hy (under hs s1 s2) (under hv v1 v2) (under hw w1 w2) = rw (lt_true x hx, lt_true y hy, w1, v1, s1) refl

  to_left : x <ℤ pos 0 → pos 0 ≤ℤ y → Sign s → Sign v → Sign w → Step
  to_left hx hy (over hs s1 s2) (over hv v1 v2) (over hw w1 w2) = rw (lt_true x hx, lt_false y hy, w1, v1, s1) refl
  to_left hx hy (over hs s1 s2) (over hv v1 v2) (under hw w1 w2) = rw (lt_true x hx, lt_false y hy, w1, v1, s1) refl
  to_left hx hy (over hs s1 s2) (under hv v1 v2) (over hw w1 w2) = rw (lt_true x hx, lt_false y hy, w1, v1, s1) refl
  to_left hx hy (over hs s1 s2) (under hv v1 v2) (under hw w1 w2) = absurd (omega (arith, linear, e, down y v hy hv, rise x w hx hw, more z s some hs))
  to_left hx hy (under hs s1 s2) (over hv v1 v2) (over hw w1 w2) = absurd (omega (arith, linear, e, up y v hy hv, less x w hx hw, fall z s some hs))
  to_left hx hy (under hs s1 s2) (over hv v1 v2) (under hw w1 w2) = rw (lt_true x hx, lt_false y hy, w1, v1, s1) refl
  to_left hx hy (under hs s1 s2) (under hv v1 v2) (over hw w1 w2) = rw (lt_true x hx, lt_false y hy, w1, v1, s1) refl
  to_left hx hy (under hs s1 s2) (under hv v1 v2) (under hw w1 w2) = rw (lt_true x hx, lt_false y hy, w1, v1, s1) refl

  -- a link turns on by what it goes past
  pub step : Sign s → Sign v → Sign w → Step
  step ds dv dw = elim (le_or_lt (pos 0) x) [
    | inl hx ↦ elim (le_or_lt (pos 0) y) [ inl hy ↦ both_left hx hy ds dv dw | inr hy ↦ to_right hx hy ds dv dw ]
    | inr hx ↦ elim (le_or_lt (pos 0) y) [ inl hy ↦ to_left hx hy ds dv dw | inr hy ↦ both_right hx hy ds dv dw ]
  ]
