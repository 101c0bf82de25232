-- A segment that 0 is further than s from lies ahead of a line through 0, and so do all places at most s from its ends: lengths are told by squares.
use Rattle.std.proofs.Common.{◌≡◌, ◌⊎◌, inl, inr, ℤ, pos, neg_ℤ, ◌+ℤ◌, ◌-ℤ◌, ◌*ℤ◌, ◌≤ℤ◌, ◌<ℤ◌, arith, sym}
use Rattle.planar.specs.Plane.{square}
use Rattle.planar.proofs.Ring.{ring, linear, le_or_lt, times_from_zero, times_mono, over_zero, square_from_zero, square_mono, square-neg, one-times, times-one, zero-times, times-zero}
use Rattle.arcs.proofs.Vectors.{lagrange, norm, norm_from_zero}
use Rattle.turned_outlines.proofs.Quads.{Sided, ahead, turn}

-- 0 is at most s from i/m of the way from a to b
pub record Near (s ax ay bx by : ℤ) : Type 0 where
  pub i : ℤ
  pub m : ℤ
  pub from_start : pos 0 ≤ℤ i
  pub to_end : i ≤ℤ m
  pub positive : pos 1 ≤ℤ m
  pub near : norm (m *ℤ ax +ℤ i *ℤ (bx -ℤ ax)) (m *ℤ ay +ℤ i *ℤ (by -ℤ ay)) ≤ℤ square (m *ℤ s)

-- along g both ends are further than s times its length
pub record Cut (s ax ay bx by : ℤ) : Type 0 where
  pub gx : ℤ
  pub gy : ℤ
  pub k : ℤ
  pub from_zero : pos 0 ≤ℤ k
  pub far : (norm gx gy *ℤ square s) <ℤ square k
  pub first : k ≤ℤ ahead gx gy ax ay
  pub last : k ≤ℤ ahead gx gy bx by

-- ---- one of both holds

longer : (N q : ℤ) → pos 0 ≤ℤ q → q <ℤ N → (N *ℤ q) <ℤ square N
longer N q h k =
    let f : pos 1 ≤ℤ (N *ℤ (N -ℤ q)) = over_zero N (N -ℤ q) (omega (arith, linear, h, k)) (omega (arith, linear, k)) in
    let e : N *ℤ (N -ℤ q) ≡ square N -ℤ N *ℤ q = simp ring (omega (arith, linear)) in
    omega (arith, linear, f, e)

at_start : (x u : ℤ) → pos 1 *ℤ x +ℤ pos 0 *ℤ u ≡ x
at_start x u = omega (arith, linear, one-times x, zero-times u)

at_end : (x y : ℤ) → pos 1 *ℤ x +ℤ pos 1 *ℤ (y -ℤ x) ≡ y
at_end x y = omega (arith, linear, one-times x, one-times (y -ℤ x))

along_end : (ax ay bx by : ℤ) → ahead ax ay bx by ≡ norm ax ay +ℤ ahead ax ay (bx -ℤ ax) (by -ℤ ay)
along_end ax ay bx by = simp ring (omega (arith, linear))

along_start : (ax ay bx by : ℤ) → ahead bx by ax ay ≡ norm bx by -ℤ ahead bx by (bx -ℤ ax) (by -ℤ ay)
along_start ax ay bx by = simp ring (omega (arith, linear))

by_first : (s ax ay bx by : ℤ) → pos 0 ≤ℤ ahead ax ay (bx -ℤ ax) (by -ℤ ay) → Near s ax ay bx by ⊎ Cut s ax ay bx by
by_first s ax ay bx by h = elim (le_or_lt (norm ax ay) (square s)) [
  | inl l ↦ inl (record {
    i = pos 0;
    m = pos 1;
    from_start = record { le = tt };
    to_end = record { le = tt };
    positive = record { le = tt };
    near = rw (at_start ax (bx -ℤ ax), at_start ay (by -ℤ ay), one-times s) l;
  })
  | inr l ↦ inr (record {
    gx = ax;
    gy = ay;
    k = norm ax ay;
    from_zero = norm_from_zero ax ay;
    far = longer (norm ax ay) (square s) (square_from_zero s) l;
    first = omega (arith, linear);
    last = omega (arith, linear, h, along_end ax ay bx by);
  })
]

by_last : (s ax ay bx by : ℤ) → ahead bx by (bx -ℤ ax) (by -ℤ ay) ≤ℤ pos 0 → Near s ax ay bx by ⊎ Cut s ax ay bx by
by_last s ax ay bx by h = elim (le_or_lt (norm bx by) (square s)) [
  | inl l ↦ inl (record {
    i = pos 1;
    m = pos 1;
    from_start = record { le = tt };
    to_end = record { le = tt };
    positive = record { le = tt };
    near = rw (at_end ax bx, at_end ay by, one-times s) l;
  })
  | inr l ↦ inr (record {
    gx = bx;
    gy = by;
    k = norm bx by;
    from_zero = norm_from_zero bx by;
    far = longer (norm bx by) (square s) (square_from_zero s) l;
    first = omega (arith, linear, h, along_start ax ay bx by);
    last = omega (arith, linear);
  })
]

-- the foot of the line through both, so many times as large
foot_x : (ax ay ux uy : ℤ) → norm ux uy *ℤ ax +ℤ neg_ℤ (ahead ax ay ux uy) *ℤ ux ≡ uy *ℤ turn ax ay ux uy
foot_x ax ay ux uy = simp ring (omega (arith, linear))

foot_y : (ax ay ux uy : ℤ) → norm ux uy *ℤ ay +ℤ neg_ℤ (ahead ax ay ux uy) *ℤ uy ≡ neg_ℤ (ux *ℤ turn ax ay ux uy)
foot_y ax ay ux uy = simp ring (omega (arith, linear))

across : (ux uy c : ℤ) → norm (uy *ℤ c) (neg_ℤ (ux *ℤ c)) ≡ norm ux uy *ℤ square c
across ux uy c = simp ring (omega (arith, linear))

foot_near : (ux uy c s : ℤ) → square c ≤ℤ (square s *ℤ norm ux uy) → norm (uy *ℤ c) (neg_ℤ (ux *ℤ c)) ≤ℤ square (norm ux uy *ℤ s)
foot_near ux uy c s h =
    let f : (norm ux uy *ℤ square c) ≤ℤ (norm ux uy *ℤ (square s *ℤ norm ux uy)) = times_mono (norm ux uy) (square c) (square s *ℤ norm ux uy) (norm_from_zero ux uy) h in
    let e : (L : ℤ) → square (L *ℤ s) ≡ L *ℤ (square s *ℤ L) = λ L. simp ring in
    omega (arith, linear, f, e (norm ux uy), across ux uy c)

foot_far : (ux uy c s : ℤ) → (square s *ℤ norm ux uy) <ℤ square c → (norm (uy *ℤ c) (neg_ℤ (ux *ℤ c)) *ℤ square s) <ℤ square (square c)
foot_far ux uy c s h =
    let f : (square c *ℤ (square s *ℤ norm ux uy)) <ℤ square (square c) = longer (square c) (square s *ℤ norm ux uy) (times_from_zero (square s) (norm ux uy) (square_from_zero s) (norm_from_zero ux uy)) h in
    let e : (L C q : ℤ) → (L *ℤ C) *ℤ q ≡ C *ℤ (q *ℤ L) = λ L C q. simp ring in
    rw (across ux uy c, e (norm ux uy) (square c) (square s)) f

along_foot : (ax ay ux uy : ℤ) → ahead (uy *ℤ turn ax ay ux uy) (neg_ℤ (ux *ℤ turn ax ay ux uy)) ax ay ≡ square (turn ax ay ux uy)
along_foot ax ay ux uy = simp ring (omega (arith, linear))

along_foot_end : (ax ay bx by : ℤ) → ahead ((by -ℤ ay) *ℤ turn ax ay (bx -ℤ ax) (by -ℤ ay)) (neg_ℤ ((bx -ℤ ax) *ℤ turn ax ay (bx -ℤ ax) (by -ℤ ay))) bx by ≡ square (turn ax ay (bx -ℤ ax) (by -ℤ ay))
along_foot_end ax ay bx by =
    let e : (gx gy : ℤ) → ahead gx gy bx by ≡ ahead gx gy ax ay +ℤ ahead gx gy (bx -ℤ ax) (by -ℤ ay) = λ gx gy. simp ring (omega (arith, linear)) in
    let f : (ux uy c : ℤ) → ahead (uy *ℤ c) (neg_ℤ (ux *ℤ c)) ux uy ≡ pos 0 = λ ux uy c. simp ring (omega (arith, linear)) in
    omega (
      arith,
      linear,
      e ((by -ℤ ay) *ℤ turn ax ay (bx -ℤ ax) (by -ℤ ay)) (neg_ℤ ((bx -ℤ ax) *ℤ turn ax ay (bx -ℤ ax) (by -ℤ ay))),
      f (bx -ℤ ax) (by -ℤ ay) (turn ax ay (bx -ℤ ax) (by -ℤ ay)),
      along_foot ax ay (bx -ℤ ax) (by -ℤ ay),
    )

length_is : (ax ay bx by : ℤ) → norm (bx -ℤ ax) (by -ℤ ay) ≡ ahead bx by (bx -ℤ ax) (by -ℤ ay) -ℤ ahead ax ay (bx -ℤ ax) (by -ℤ ay)
length_is ax ay bx by = simp ring (omega (arith, linear))

by_foot : (s ax ay bx by : ℤ) → ahead ax ay (bx -ℤ ax) (by -ℤ ay) <ℤ pos 0 → pos 0 <ℤ ahead bx by (bx -ℤ ax) (by -ℤ ay) → Near s ax ay bx by ⊎ Cut s ax ay bx by
by_foot s ax ay bx by h k = elim (le_or_lt (square (turn ax ay (bx -ℤ ax) (by -ℤ ay))) (square s *ℤ norm (bx -ℤ ax) (by -ℤ ay))) [
  | inl l ↦ inl (record {
    i = neg_ℤ (ahead ax ay (bx -ℤ ax) (by -ℤ ay));
    m = norm (bx -ℤ ax) (by -ℤ ay);
    from_start = omega (arith, linear, h);
    to_end = omega (arith, linear, k, length_is ax ay bx by);
    positive = omega (arith, linear, h, k, length_is ax ay bx by);
    near = rw (foot_x ax ay (bx -ℤ ax) (by -ℤ ay), foot_y ax ay (bx -ℤ ax) (by -ℤ ay)) (foot_near (bx -ℤ ax) (by -ℤ ay) (turn ax ay (bx -ℤ ax) (by -ℤ ay)) s l);
  })
  | inr l ↦ inr (record {
    gx = (by -ℤ ay) *ℤ turn ax ay (bx -ℤ ax) (by -ℤ ay);
    gy = neg_ℤ ((bx -ℤ ax) *ℤ turn ax ay (bx -ℤ ax) (by -ℤ ay));
    k = square (turn ax ay (bx -ℤ ax) (by -ℤ ay));
    from_zero = square_from_zero (turn ax ay (bx -ℤ ax) (by -ℤ ay));
    far = foot_far (bx -ℤ ax) (by -ℤ ay) (turn ax ay (bx -ℤ ax) (by -ℤ ay)) s l;
    first = omega (arith, linear, along_foot ax ay (bx -ℤ ax) (by -ℤ ay));
    last = omega (arith, linear, along_foot_end ax ay bx by);
  })
]

pub near_or_cut : (s ax ay bx by : ℤ) → Near s ax ay bx by ⊎ Cut s ax ay bx by
near_or_cut s ax ay bx by = elim (le_or_lt (pos 0) (ahead ax ay (bx -ℤ ax) (by -ℤ ay))) [
  | inl h ↦ by_first s ax ay bx by h
  | inr h ↦ elim (le_or_lt (ahead bx by (bx -ℤ ax) (by -ℤ ay)) (pos 0)) [
    | inl k ↦ by_last s ax ay bx by k
    | inr k ↦ by_foot s ax ay bx by h k
  ]
]

-- ---- a cut serves for vectors that are k times as long, and for those at most k s from them

still_ahead : (gx gy k z s ex ey : ℤ) → pos 0 ≤ℤ k → (norm gx gy *ℤ square s) <ℤ square k → norm ex ey ≤ℤ square s → k ≤ℤ z → pos 1 ≤ℤ (z +ℤ ahead gx gy ex ey)
still_ahead gx gy k z s ex ey from far near over = elim (le_or_lt (pos 1) (z +ℤ ahead gx gy ex ey)) [
  | inl l ↦ l
  | inr l ↦
      (let f : square k ≤ℤ square (neg_ℤ (ahead gx gy ex ey)) = square_mono k (neg_ℤ (ahead gx gy ex ey)) from (omega (arith, linear, l, over)) in
      let g : (norm gx gy *ℤ norm ex ey) ≤ℤ (norm gx gy *ℤ square s) = times_mono (norm gx gy) (norm ex ey) (square s) (norm_from_zero gx gy) near in
      absurd (omega (arith, linear, f, g, far, square-neg (ahead gx gy ex ey), lagrange gx gy ex ey, square_from_zero (turn gx gy ex ey))))
]

far_scaled : (K N s k : ℤ) → pos 1 ≤ℤ K → (N *ℤ square s) <ℤ square k → (N *ℤ square (K *ℤ s)) <ℤ square (K *ℤ k)
far_scaled K N s k some far =
    let f : pos 1 ≤ℤ ((K *ℤ K) *ℤ (square k -ℤ N *ℤ square s)) = over_zero (K *ℤ K) (square k -ℤ N *ℤ square s) (over_zero K K some some) (omega (arith, linear, far)) in
    let e : (K *ℤ K) *ℤ (square k -ℤ N *ℤ square s) ≡ square (K *ℤ k) -ℤ N *ℤ square (K *ℤ s) = simp ring (omega (arith, linear)) in
    omega (arith, linear, f, e)

some_ahead : (N s k : ℤ) → pos 0 ≤ℤ N → pos 0 ≤ℤ k → (N *ℤ square s) <ℤ square k → pos 1 ≤ℤ k
some_ahead N s k h from far = elim (le_or_lt (pos 1) k) [
  | inl l ↦ l
  | inr l ↦
      (let z : k ≡ pos 0 = omega (arith, linear, from, l) in
      let f : (N *ℤ square s) <ℤ square (pos 0) = rw z at far in
      absurd (omega (arith, linear, f, zero-times (pos 0), times_from_zero N (square s) h (square_from_zero s))))
]

split : (gx gy vx vy cx cy : ℤ) → ahead gx gy vx vy ≡ ahead gx gy cx cy +ℤ ahead gx gy (vx -ℤ cx) (vy -ℤ cy)
split gx gy vx vy cx cy = simp ring (omega (arith, linear))

longer_ahead : (K gx gy x y : ℤ) → ahead gx gy (K *ℤ x) (K *ℤ y) ≡ K *ℤ ahead gx gy x y
longer_ahead K gx gy x y = simp ring

pub sided : (K s vx vy zx zy ax ay bx by : ℤ) → pos 1 ≤ℤ K → norm (vx -ℤ K *ℤ ax) (vy -ℤ K *ℤ ay) ≤ℤ square (K *ℤ s) → norm (zx -ℤ K *ℤ bx) (zy -ℤ K *ℤ by) ≤ℤ square (K *ℤ s) → Cut s ax ay bx by
    → Sided vx vy zx zy (K *ℤ ax) (K *ℤ ay) (K *ℤ bx) (K *ℤ by)
sided K s vx vy zx zy ax ay bx by some near near' c = record {
  gx = c.gx;
  gy = c.gy;
  a_is = beside vx vy ax ay near c.first;
  b_is = beside zx zy bx by near' c.last;
  c_is = there ax ay c.first;
  d_is = there bx by c.last;
}
  where
    from : pos 0 ≤ℤ (K *ℤ c.k)
    from = times_from_zero K c.k (omega (arith, linear, some)) c.from_zero

    reached : (x y : ℤ) → c.k ≤ℤ ahead c.gx c.gy x y → (K *ℤ c.k) ≤ℤ ahead c.gx c.gy (K *ℤ x) (K *ℤ y)
    reached x y h = rw (longer_ahead K c.gx c.gy x y) (times_mono K c.k (ahead c.gx c.gy x y) (omega (arith, linear, some)) h)

    there : (x y : ℤ) → c.k ≤ℤ ahead c.gx c.gy x y → pos 1 ≤ℤ ahead c.gx c.gy (K *ℤ x) (K *ℤ y)
    there x y h = omega (arith, linear, reached x y h, over_zero K c.k some (some_ahead (norm c.gx c.gy) s c.k (norm_from_zero c.gx c.gy) c.from_zero c.far))

    beside : (px py x y : ℤ) → norm (px -ℤ K *ℤ x) (py -ℤ K *ℤ y) ≤ℤ square (K *ℤ s) → c.k ≤ℤ ahead c.gx c.gy x y → pos 1 ≤ℤ ahead c.gx c.gy px py
    beside px py x y h l =
        rw (split c.gx c.gy px py (K *ℤ x) (K *ℤ y))
        (still_ahead c.gx c.gy (K *ℤ c.k) (ahead c.gx c.gy (K *ℤ x) (K *ℤ y)) (K *ℤ s) (px -ℤ K *ℤ x) (py -ℤ K *ℤ y) from (far_scaled K (norm c.gx c.gy) s c.k some c.far) h (reached x y l))

-- ---- 0 is on no edge that is ahead of a line through it

pub not_on : (m i ax ay bx by gx gy : ℤ) → pos 0 ≤ℤ i → i ≤ℤ m → pos 1 ≤ℤ m → pos 1 ≤ℤ ahead gx gy ax ay → pos 1 ≤ℤ ahead gx gy bx by → m *ℤ ax +ℤ i *ℤ (bx -ℤ ax) ≡ pos 0 → m *ℤ ay +ℤ i *ℤ (by -ℤ ay) ≡ pos 0 → ⊥
not_on m i ax ay bx by gx gy from to some first last ex ey =
    let e : gx *ℤ (m *ℤ ax +ℤ i *ℤ (bx -ℤ ax)) +ℤ gy *ℤ (m *ℤ ay +ℤ i *ℤ (by -ℤ ay)) ≡ (m -ℤ i) *ℤ ahead gx gy ax ay +ℤ i *ℤ ahead gx gy bx by = simp ring (omega (arith, linear)) in
    let none : (m -ℤ i) *ℤ ahead gx gy ax ay +ℤ i *ℤ ahead gx gy bx by ≡ gx *ℤ pos 0 +ℤ gy *ℤ pos 0 = rw (ex, ey) at (sym e) in
    omega (
      arith,
      linear,
      none,
      some,
      times-zero gx,
      times-zero gy,
      times_mono (m -ℤ i) (pos 1) (ahead gx gy ax ay) (omega (arith, linear, to)) first,
      times_mono i (pos 1) (ahead gx gy bx by) from last,
      times-one (m -ℤ i),
      times-one i,
    )
