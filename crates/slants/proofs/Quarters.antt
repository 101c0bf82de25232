-- Directions that are turned on by right angles, and which follow each other.
use Rattle.std.proofs.Common.{◌≡◌, ℕ, ◌+◌, ◌*◌, ◌%◌, ◌⊎◌, inl, inr, ◌≤◌, ap, ◌∙◌, sym, subst, ℤ, pos, neg_ℤ, ◌+ℤ◌, ◌-ℤ◌, ◌*ℤ◌, ◌≤ℤ◌, arith, refl}
use Rattle.std.proofs.lemmas.Int.{ints}
use Rattle.std.proofs.lemmas.Nat.{mul-le}
use Rattle.planar.specs.declared.Spot.{Spot}
use Rattle.planar.proofs.Ring.{ring, linear, mul-add_right, mul-neg}
use Rattle.slants.specs.Polygons.{quartered}
use Rattle.slants.specs.Turned.{meet_of}
use Rattle.slants.specs.declared.cones.TheConstants.{RADIUS}
use Rattle.slants.specs.declared.turns.Turn.{Turn}
use Rattle.slants.proofs.Following.{IsHigh, IsLow}
use Rattle.slants.proofs.Rims.{set_out}
use Rattle.slants.proofs.Spokes.{Follows, dot_at}

-- ---- right angles

quarter_0 : (k : ℕ) (p : Spot) → k % 4 ≡ 0 → quartered k p ≡ p
unfolding quartered
quarter_0 k p e = rw e refl

quarter_1 : (k : ℕ) (p : Spot) → k % 4 ≡ 1 → quartered k p ≡ record { x = neg_ℤ p.y; y = p.x }
unfolding quartered
quarter_1 k p e = rw e refl

quarter_2 : (k : ℕ) (p : Spot) → k % 4 ≡ 2 → quartered k p ≡ record { x = neg_ℤ p.x; y = neg_ℤ p.y }
unfolding quartered
quarter_2 k p e = rw e refl

quarter_3 : (k : ℕ) (p : Spot) → k % 4 ≡ 3 → quartered k p ≡ record { x = p.y; y = neg_ℤ p.x }
unfolding quartered
quarter_3 k p e = rw e refl

one_of_four : (k : ℕ) → ((k % 4 ≡ 0) ⊎ (k % 4 ≡ 1)) ⊎ ((k % 4 ≡ 2) ⊎ (k % 4 ≡ 3))
one_of_four k = grind arith

neg_neg : (z : ℤ) → neg_ℤ (neg_ℤ z) ≡ z
neg_neg z = omega (arith, linear)

next_quarter : (k : ℕ) (p : Spot) → quartered (k + 1) p ≡ record { x = neg_ℤ (quartered k p).y; y = (quartered k p).x }
next_quarter k p = elim (one_of_four k) [
  | inl l ↦ elim l [
    | inl e ↦ rw (quarter_1 (k + 1) p (omega (arith, e)), quarter_0 k p e) refl
    | inr e ↦ rw (quarter_2 (k + 1) p (omega (arith, e)), quarter_1 k p e) refl
  ]
  | inr l ↦ elim l [
    | inl e ↦ rw (quarter_3 (k + 1) p (omega (arith, e)), quarter_2 k p e, neg_neg p.y) refl
    | inr e ↦ rw (quarter_0 (k + 1) p (omega (arith, e)), quarter_3 k p e, neg_neg p.x) refl
  ]
]

pub whole_round : (k : ℕ) (p : Spot) → quartered (k + 4) p ≡ quartered k p
unfolding quartered
whole_round k p = let e : (k + 4) % 4 ≡ k % 4 = omega arith in rw e refl

-- both directions turned so

module _ (dx dy ex ey : ℤ) where
  cross_1 : neg_ℤ dy *ℤ ex -ℤ dx *ℤ neg_ℤ ey ≡ dx *ℤ ey -ℤ dy *ℤ ex
  cross_1 = simp ring (omega (arith, linear))

  cross_2 : neg_ℤ dx *ℤ neg_ℤ ey -ℤ neg_ℤ dy *ℤ neg_ℤ ex ≡ dx *ℤ ey -ℤ dy *ℤ ex
  cross_2 = simp ring (omega (arith, linear))

  cross_3 : dy *ℤ neg_ℤ ex -ℤ neg_ℤ dx *ℤ ey ≡ dx *ℤ ey -ℤ dy *ℤ ex
  cross_3 = simp ring (omega (arith, linear))

  dot_1 : neg_ℤ dy *ℤ neg_ℤ ey +ℤ dx *ℤ ex ≡ dx *ℤ ex +ℤ dy *ℤ ey
  dot_1 = simp ring (omega (arith, linear))

  dot_2 : neg_ℤ dx *ℤ neg_ℤ ex +ℤ neg_ℤ dy *ℤ neg_ℤ ey ≡ dx *ℤ ex +ℤ dy *ℤ ey
  dot_2 = simp ring (omega (arith, linear))

  dot_3 : dy *ℤ ey +ℤ neg_ℤ dx *ℤ neg_ℤ ex ≡ dx *ℤ ex +ℤ dy *ℤ ey
  dot_3 = simp ring (omega (arith, linear))

  abbrev d : Spot
  d = record { x = dx; y = dy }

  abbrev e : Spot
  e = record { x = ex; y = ey }

  same_cross : (k : ℕ) → (quartered k d).x *ℤ (quartered k e).y -ℤ (quartered k d).y *ℤ (quartered k e).x ≡ dx *ℤ ey -ℤ dy *ℤ ex
  same_cross k = elim (one_of_four k) [
    | inl l ↦ elim l [
      | inl h ↦ rw (quarter_0 k d h, quarter_0 k e h) refl
      | inr h ↦ rw (quarter_1 k d h, quarter_1 k e h) cross_1
    ]
    | inr l ↦ elim l [
      | inl h ↦ rw (quarter_2 k d h, quarter_2 k e h) cross_2
      | inr h ↦ rw (quarter_3 k d h, quarter_3 k e h) cross_3
    ]
  ]

  same_dot : (k : ℕ) → (quartered k d).x *ℤ (quartered k e).x +ℤ (quartered k d).y *ℤ (quartered k e).y ≡ dx *ℤ ex +ℤ dy *ℤ ey
  same_dot k = elim (one_of_four k) [
    | inl l ↦ elim l [
      | inl h ↦ rw (quarter_0 k d h, quarter_0 k e h) refl
      | inr h ↦ rw (quarter_1 k d h, quarter_1 k e h) dot_1
    ]
    | inr l ↦ elim l [
      | inl h ↦ rw (quarter_2 k d h, quarter_2 k e h) dot_2
      | inr h ↦ rw (quarter_3 k d h, quarter_3 k e h) dot_3
    ]
  ]

  -- and the last by one more
  next_cross : (k : ℕ) → (quartered k d).x *ℤ (quartered (k + 1) e).y -ℤ (quartered k d).y *ℤ (quartered (k + 1) e).x ≡ dx *ℤ ex +ℤ dy *ℤ ey
  next_cross k = rw (next_quarter k e) (turned_cross (quartered k d).x (quartered k d).y (quartered k e).x (quartered k e).y ∙ same_dot k)
    where
      turned_cross : (ux uy vx vy : ℤ) → ux *ℤ vx -ℤ uy *ℤ neg_ℤ vy ≡ ux *ℤ vx +ℤ uy *ℤ vy
      turned_cross ux uy vx vy = simp ring (omega (arith, linear))

  next_dot : (k : ℕ) → (quartered k d).x *ℤ (quartered (k + 1) e).x +ℤ (quartered k d).y *ℤ (quartered (k + 1) e).y ≡ ex *ℤ dy -ℤ ey *ℤ dx
  next_dot k = rw (next_quarter k e) (turned_dot (quartered k d).x (quartered k d).y (quartered k e).x (quartered k e).y ∙ ap neg_ℤ (same_cross k) ∙ back)
    where
      turned_dot : (ux uy vx vy : ℤ) → ux *ℤ neg_ℤ vy +ℤ uy *ℤ vx ≡ neg_ℤ (ux *ℤ vy -ℤ uy *ℤ vx)
      turned_dot ux uy vx vy = simp ring (omega (arith, linear))

      back : neg_ℤ (dx *ℤ ey -ℤ dy *ℤ ex) ≡ ex *ℤ dy -ℤ ey *ℤ dx
      back = simp ring (omega (arith, linear))

-- ---- ways

-- the products of both directions are those of a, the scalar product of the ways, and b, their cross product
module _ (x y u v : ℤ) where
  dot_is : (x *ℤ x -ℤ y *ℤ y) *ℤ (u *ℤ u -ℤ v *ℤ v) +ℤ (x *ℤ y +ℤ y *ℤ x) *ℤ (u *ℤ v +ℤ v *ℤ u) ≡ (x *ℤ u +ℤ y *ℤ v) *ℤ (x *ℤ u +ℤ y *ℤ v) -ℤ (x *ℤ v -ℤ y *ℤ u) *ℤ (x *ℤ v -ℤ y *ℤ u)
  dot_is = simp ring (omega (arith, linear))

  cross_is : (x *ℤ x -ℤ y *ℤ y) *ℤ (u *ℤ v +ℤ v *ℤ u) -ℤ (x *ℤ y +ℤ y *ℤ x) *ℤ (u *ℤ u -ℤ v *ℤ v) ≡ (x *ℤ u +ℤ y *ℤ v) *ℤ (x *ℤ v -ℤ y *ℤ u) +ℤ (x *ℤ u +ℤ y *ℤ v) *ℤ (x *ℤ v -ℤ y *ℤ u)
  cross_is = simp ring (omega (arith, linear))

  norm_is : (x *ℤ x +ℤ y *ℤ y) *ℤ (u *ℤ u +ℤ v *ℤ v) ≡ (x *ℤ u +ℤ y *ℤ v) *ℤ (x *ℤ u +ℤ y *ℤ v) +ℤ (x *ℤ v -ℤ y *ℤ u) *ℤ (x *ℤ v -ℤ y *ℤ u)
  norm_is = simp ring (omega (arith, linear))

  module _ (a b : ℤ) (along : x *ℤ u +ℤ y *ℤ v ≡ a) (across : x *ℤ v -ℤ y *ℤ u ≡ b) where
    dot_by : (x *ℤ x -ℤ y *ℤ y) *ℤ (u *ℤ u -ℤ v *ℤ v) +ℤ (x *ℤ y +ℤ y *ℤ x) *ℤ (u *ℤ v +ℤ v *ℤ u) ≡ a *ℤ a -ℤ b *ℤ b
    dot_by = rw (along, across) at dot_is

    cross_by : (x *ℤ x -ℤ y *ℤ y) *ℤ (u *ℤ v +ℤ v *ℤ u) -ℤ (x *ℤ y +ℤ y *ℤ x) *ℤ (u *ℤ u -ℤ v *ℤ v) ≡ a *ℤ b +ℤ a *ℤ b
    cross_by = rw (along, across) at cross_is

    norm_by : (x *ℤ x +ℤ y *ℤ y) *ℤ (u *ℤ u +ℤ v *ℤ v) ≡ a *ℤ a +ℤ b *ℤ b
    norm_by = rw (along, across) at norm_is

-- ---- of whole ways

abbrev pub whole_way : ℕ → ℕ → Turn
whole_way x y = record { x = pos x; y = pos y }

-- the way (u, v) is b to the left of (x, y), and a along it
module _ (x y u v a b : ℕ) (a_is : a ≡ x * u + y * v) (b_is : x * v ≡ y * u + b) where
  along : pos x *ℤ pos u +ℤ pos y *ℤ pos v ≡ pos a
  along = let e : pos (x * u) +ℤ pos (y * v) ≡ pos a = omega (arith, ints, a_is) in e

  across : pos x *ℤ pos v -ℤ pos y *ℤ pos u ≡ pos b
  across = let e : pos (x * v) -ℤ pos (y * u) ≡ pos b = omega (arith, ints, b_is) in e

  dots : (meet_of (whole_way x y) (whole_way x y)).x *ℤ (meet_of (whole_way u v) (whole_way u v)).x +ℤ (meet_of (whole_way x y) (whole_way x y)).y *ℤ (meet_of (whole_way u v) (whole_way u v)).y ≡ pos (a * a) -ℤ pos (b * b)
  dots = dot_by (pos x) (pos y) (pos u) (pos v) (pos a) (pos b) along across

  crosses : (meet_of (whole_way x y) (whole_way x y)).x *ℤ (meet_of (whole_way u v) (whole_way u v)).y -ℤ (meet_of (whole_way x y) (whole_way x y)).y *ℤ (meet_of (whole_way u v) (whole_way u v)).x ≡ pos (a * b) +ℤ pos (a * b)
  crosses = cross_by (pos x) (pos y) (pos u) (pos v) (pos a) (pos b) along across

  norms : (meet_of (whole_way x y) (whole_way x y)).n *ℤ (meet_of (whole_way u v) (whole_way u v)).n ≡ pos (a * a) +ℤ pos (b * b)
  norms = norm_by (pos x) (pos y) (pos u) (pos v) (pos a) (pos b) along across

-- ---- what follows, of numbers

to_left : (inner reach m s t : ℕ) → inner * (m + s) + reach * t ≤ reach * m → (pos inner *ℤ (pos m +ℤ pos s)) ≤ℤ (pos reach *ℤ (pos m -ℤ pos t))
to_left inner reach m s t h =
    let e : pos inner *ℤ (pos m +ℤ pos s) ≡ pos (inner * (m + s)) = refl in
    let f : pos reach *ℤ (pos m -ℤ pos t) ≡ pos (reach * m) -ℤ pos (reach * t) = mul-add_right (pos reach) (pos m) (neg_ℤ (pos t)) ∙ ap (λ z. pos (reach * m) +ℤ z) (mul-neg (pos reach) (pos t)) in
    rw (e, f) (omega (arith, ints, h))

-- the edge is not so far out as w of RADIUS parts of the corner
module _ (inner reach w : ℕ) (short : inner * RADIUS ≤ reach * w) where
  reached : (m z : ℕ) → w * m ≤ RADIUS * z → inner * m ≤ reach * z
  reached m z h =
      let f : inner * RADIUS * m ≤ reach * w * m = mul-le (inner * RADIUS) m (reach * w) m short (omega arith) in
      let g : reach * (w * m) ≤ reach * (RADIUS * z) = mul-le reach (w * m) reach (RADIUS * z) (omega arith) h in
      omega (arith, f, g)

  low_reached : (a b : ℕ) → w * (a * a + b * b) + RADIUS * (b * b) ≤ RADIUS * (a * a) → inner * (a * a + b * b) + reach * (b * b) ≤ reach * (a * a)
  low_reached a b h =
      let f : inner * RADIUS * (a * a + b * b) ≤ reach * w * (a * a + b * b) = mul-le (inner * RADIUS) (a * a + b * b) (reach * w) (a * a + b * b) short (omega arith) in
      let g : reach * (w * (a * a + b * b) + RADIUS * (b * b)) ≤ reach * (RADIUS * (a * a)) = mul-le reach (w * (a * a + b * b) + RADIUS * (b * b)) reach (RADIUS * (a * a)) (omega arith) h in
      omega (arith, f, g)

  pub follows_low : (k x y u v a b : ℕ) → a ≡ x * u + y * v → x * v ≡ y * u + b → IsLow w a b → Follows inner reach (set_out k (whole_way x y)) (set_out k (whole_way u v))
  unfolding set_out
  follows_low k x y u v a b a_is b_is low =
      let one : 1 * 1 ≤ a * b = mul-le 1 1 a b (omega (arith, low.less)) low.some in
      let more : (b + 1) * (b + 1) ≤ a * a = mul-le (b + 1) (b + 1) a a low.less low.less in
      let cross = same_cross (meet_of (whole_way x y) (whole_way x y)).x (meet_of (whole_way x y) (whole_way x y)).y (meet_of (whole_way u v) (whole_way u v)).x (meet_of (whole_way u v) (whole_way u v)).y k ∙ crosses x y u v a b a_is b_is in
      let dot = same_dot (meet_of (whole_way x y) (whole_way x y)).x (meet_of (whole_way x y) (whole_way x y)).y (meet_of (whole_way u v) (whole_way u v)).x (meet_of (whole_way u v) (whole_way u v)).y k ∙ dots x y u v a b a_is b_is in
      record {
        left = subst (λ (z : ℤ). pos 1 ≤ℤ z) (sym cross) (omega (arith, ints, one));
        near = subst (λ (z : ℤ). pos 1 ≤ℤ z) (sym dot) (omega (arith, ints, more));
        out = subst (λ (z : ℤ). (pos inner *ℤ z) ≤ℤ (pos reach *ℤ dot_at (set_out k (whole_way x y)) (set_out k (whole_way u v)))) (sym (norms x y u v a b a_is b_is))
            (subst (λ (z : ℤ). (pos inner *ℤ (pos (a * a) +ℤ pos (b * b))) ≤ℤ (pos reach *ℤ z)) (sym dot) (to_left inner reach (a * a) (b * b) (b * b) (low_reached a b low.low)));
      }

  -- (x, y) is b to the left of (u, v), which is turned on by a right angle more
  pub follows_high : (k x y u v a b : ℕ) → a ≡ u * x + v * y → u * y ≡ v * x + b → IsHigh w a b → Follows inner reach (set_out k (whole_way x y)) (set_out (k + 1) (whole_way u v))
  unfolding set_out
  follows_high k x y u v a b a_is b_is high =
      let one : 1 * 1 ≤ a * b = mul-le 1 1 a b (omega (arith, high.less)) high.some in
      let more : (b + 1) * (b + 1) ≤ a * a = mul-le (b + 1) (b + 1) a a high.less high.less in
      let cross = next_cross (meet_of (whole_way x y) (whole_way x y)).x (meet_of (whole_way x y) (whole_way x y)).y (meet_of (whole_way u v) (whole_way u v)).x (meet_of (whole_way u v) (whole_way u v)).y k
      ∙ swapped (meet_of (whole_way x y) (whole_way x y)).x (meet_of (whole_way x y) (whole_way x y)).y (meet_of (whole_way u v) (whole_way u v)).x (meet_of (whole_way u v) (whole_way u v)).y ∙ dots u v x y a b a_is b_is in
      let dot = next_dot (meet_of (whole_way x y) (whole_way x y)).x (meet_of (whole_way x y) (whole_way x y)).y (meet_of (whole_way u v) (whole_way u v)).x (meet_of (whole_way u v) (whole_way u v)).y k ∙ crosses u v x y a b a_is b_is in
      let norm = swapped_one (meet_of (whole_way x y) (whole_way x y)).n (meet_of (whole_way u v) (whole_way u v)).n ∙ norms u v x y a b a_is b_is in
      record {
        left = subst (λ (z : ℤ). pos 1 ≤ℤ z) (sym cross) (omega (arith, ints, more));
        near = subst (λ (z : ℤ). pos 1 ≤ℤ z) (sym dot) (omega (arith, ints, one));
        out = subst (λ (z : ℤ). (pos inner *ℤ z) ≤ℤ (pos reach *ℤ dot_at (set_out k (whole_way x y)) (set_out (k + 1) (whole_way u v)))) (sym norm)
            (subst (λ (z : ℤ). (pos inner *ℤ (pos (a * a) +ℤ pos (b * b))) ≤ℤ (pos reach *ℤ z)) (sym dot) (omega (arith, ints, reached (a * a + b * b) (a * b + a * b) high.high)));
      }
    where
      swapped : (dx dy ex ey : ℤ) → dx *ℤ ex +ℤ dy *ℤ ey ≡ ex *ℤ dx +ℤ ey *ℤ dy
      swapped dx dy ex ey = simp ring

      swapped_one : (m n : ℤ) → m *ℤ n ≡ n *ℤ m
      swapped_one m n = simp ring
