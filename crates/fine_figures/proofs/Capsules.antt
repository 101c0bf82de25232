-- Strokes whose ends are near one another: the thinner lies in the thicker.
use Rattle.std.proofs.Common.{◌≡◌, ℤ, pos, neg_ℤ, ◌+ℤ◌, ◌-ℤ◌, ◌*ℤ◌, ◌≤ℤ◌, arith}
use Rattle.std.proofs.lemmas.Int.{ints}
use Rattle.planar.specs.declared.Spot.{Spot}
use Rattle.planar.specs.Plane.{InCapsule, Point, square}
use Rattle.planar.proofs.Ring.{ring, linear, square-neg, times_from_zero}
use Rattle.arcs.proofs.Vectors.{norm, scaled, sum_within, unscaled}
use Rattle.fine_figures.specs.Fine.{twice}
use Rattle.fine_figures.specs.Taken.{EndsNear, IsThinner}
use Rattle.fine_figures.specs.declared.FineStroke.{FineStroke}

-- ways of which those at both ends are at most so long: those between are too
weighed : (i m ux uy vx vy far : ℤ) → pos 0 ≤ℤ i → i ≤ℤ m → pos 0 ≤ℤ far → norm ux uy ≤ℤ square far → norm vx vy ≤ℤ square far → norm ((m -ℤ i) *ℤ ux +ℤ i *ℤ vx) ((m -ℤ i) *ℤ uy +ℤ i *ℤ vy) ≤ℤ square (m *ℤ far)
weighed i m ux uy vx vy far hi him hf hu hv =
    let e : (m -ℤ i) *ℤ far +ℤ i *ℤ far ≡ m *ℤ far = simp ring (omega (arith, linear)) in
    rw (← e) (
    sum_within ((m -ℤ i) *ℤ ux) ((m -ℤ i) *ℤ uy) (i *ℤ vx) (i *ℤ vy) ((m -ℤ i) *ℤ far) (i *ℤ far) (times_from_zero (m -ℤ i) far (omega (arith, linear)) hf) (times_from_zero i far hi hf) (scaled (m -ℤ i) ux uy far hu) (scaled i vx vy far hv)
    )

back : (a s : ℤ) → a -ℤ s ≡ neg_ℤ (s -ℤ a)
back a s = omega (arith, linear)

norm_back : (ax ay sx sy far : ℤ) → norm (sx -ℤ ax) (sy -ℤ ay) ≤ℤ square far → norm (ax -ℤ sx) (ay -ℤ sy) ≤ℤ square far
norm_back ax ay sx sy far h = rw (back ax sx, back ay sy, square-neg (sx -ℤ ax), square-neg (sy -ℤ ay)) h

-- how far a point is off a place of the one stroke, by how far it is off that of the other
by_other : (n m i p a b s t : ℤ) → m *ℤ (pos 2 *ℤ p) -ℤ n *ℤ (m *ℤ a +ℤ i *ℤ (b -ℤ a)) ≡ pos 2 *ℤ (m *ℤ p -ℤ n *ℤ (m *ℤ s +ℤ i *ℤ (t -ℤ s))) +ℤ n *ℤ ((m -ℤ i) *ℤ (pos 2 *ℤ s -ℤ a) +ℤ i *ℤ (pos 2 *ℤ t -ℤ b))
by_other n m i p a b s t = simp ring (omega (arith, linear))

by_fine : (n m i p a b s t : ℤ) → pos 2 *ℤ (m *ℤ p -ℤ n *ℤ (m *ℤ s +ℤ i *ℤ (t -ℤ s))) ≡ (m *ℤ (pos 2 *ℤ p) -ℤ n *ℤ (m *ℤ a +ℤ i *ℤ (b -ℤ a))) +ℤ n *ℤ ((m -ℤ i) *ℤ (a -ℤ pos 2 *ℤ s) +ℤ i *ℤ (b -ℤ pos 2 *ℤ t))
by_fine n m i p a b s t = simp ring (omega (arith, linear))

-- both parts of a sum, and what they are of
module _ (n m : ℤ) (some : pos 1 ≤ℤ n) (positive : pos 1 ≤ℤ m) where
  scale_from : pos 0 ≤ℤ (n *ℤ m)
  scale_from = times_from_zero n m (omega (arith, linear, some)) (omega (arith, linear, positive))

  -- the second is from a place between both ends
  added : (i x y ux uy vx vy r far : ℤ) → pos 0 ≤ℤ i → i ≤ℤ m → pos 0 ≤ℤ r → pos 0 ≤ℤ far → norm ux uy ≤ℤ square far → norm vx vy ≤ℤ square far → norm x y ≤ℤ square (n *ℤ m *ℤ r)
      → norm (x +ℤ n *ℤ ((m -ℤ i) *ℤ ux +ℤ i *ℤ vx)) (y +ℤ n *ℤ ((m -ℤ i) *ℤ uy +ℤ i *ℤ vy)) ≤ℤ square (n *ℤ m *ℤ (r +ℤ far))
  added i x y ux uy vx vy r far hi him hr hf hu hv h =
      let e : n *ℤ m *ℤ r +ℤ n *ℤ (m *ℤ far) ≡ n *ℤ m *ℤ (r +ℤ far) = simp ring (omega (arith, linear)) in
      rw (← e) (
      sum_within x y (n *ℤ ((m -ℤ i) *ℤ ux +ℤ i *ℤ vx)) (n *ℤ ((m -ℤ i) *ℤ uy +ℤ i *ℤ vy)) (n *ℤ m *ℤ r) (n *ℤ (m *ℤ far)) (times_from_zero (n *ℤ m) r scale_from hr) (times_from_zero n (m *ℤ far) (omega (arith, linear, some)) (times_from_zero m far (omega (arith, linear, positive)) hf)) h
      (scaled n ((m -ℤ i) *ℤ ux +ℤ i *ℤ vx) ((m -ℤ i) *ℤ uy +ℤ i *ℤ vy) (m *ℤ far) (weighed i m ux uy vx vy far hi him hf hu hv))
      )

twice_radius : (n m q : ℤ) → pos 2 *ℤ (n *ℤ m *ℤ q) ≡ n *ℤ m *ℤ (pos 2 *ℤ q)
twice_radius n m q = simp ring

twice_from_zero : (q : ℤ) → pos 0 ≤ℤ q → pos 0 ≤ℤ (pos 2 *ℤ q)
twice_from_zero q h = times_from_zero (pos 2) q record { le = tt } h

-- what the thinner stroke has
pub thinner_lies : (f : FineStroke) (a b : Spot) (q : ℤ) (p : Point) → IsThinner f a b q → InCapsule a b q p → InCapsule f.a f.b (pos f.r) (twice p)
thinner_lies f a b q p h c =
    let far : ℤ = pos f.r -ℤ pos 2 *ℤ q in
    let e : pos 2 *ℤ q +ℤ (pos f.r -ℤ pos 2 *ℤ q) ≡ pos f.r = omega (arith, linear) in
    record {
      i = c.i;
      m = c.m;
      from_start = c.from_start;
      to_end = c.to_end;
      positive = c.positive;
      near = rw (by_other p.n c.m c.i p.x f.a.x f.b.x a.x b.x, by_other p.n c.m c.i p.y f.a.y f.b.y a.y b.y) (rw e at (
          added p.n c.m p.positive c.positive c.i (pos 2 *ℤ (c.m *ℤ p.x -ℤ p.n *ℤ (c.m *ℤ a.x +ℤ c.i *ℤ (b.x -ℤ a.x)))) (pos 2 *ℤ (c.m *ℤ p.y -ℤ p.n *ℤ (c.m *ℤ a.y +ℤ c.i *ℤ (b.y -ℤ a.y))))
          (pos 2 *ℤ a.x -ℤ f.a.x) (pos 2 *ℤ a.y -ℤ f.a.y) (pos 2 *ℤ b.x -ℤ f.b.x) (pos 2 *ℤ b.y -ℤ f.b.y) (pos 2 *ℤ q) (pos f.r -ℤ pos 2 *ℤ q)
          c.from_start c.to_end (twice_from_zero q h.from_zero) h.near.some h.near.start h.near.end
          (rw (twice_radius p.n c.m q) at (scaled (pos 2) (c.m *ℤ p.x -ℤ p.n *ℤ (c.m *ℤ a.x +ℤ c.i *ℤ (b.x -ℤ a.x))) (c.m *ℤ p.y -ℤ p.n *ℤ (c.m *ℤ a.y +ℤ c.i *ℤ (b.y -ℤ a.y))) (p.n *ℤ c.m *ℤ q) c.near))
          ));
    }

-- what the thicker stroke has
pub thicker_holds : (f : FineStroke) (a b : Spot) (q : ℤ) (p : Point) → EndsNear f a b (pos 2 *ℤ q -ℤ pos f.r) → InCapsule f.a f.b (pos f.r) (twice p) → InCapsule a b q p
thicker_holds f a b q p h c =
    let e : pos f.r +ℤ (pos 2 *ℤ q -ℤ pos f.r) ≡ pos 2 *ℤ q = omega (arith, linear) in
    record {
      i = c.i;
      m = c.m;
      from_start = c.from_start;
      to_end = c.to_end;
      positive = c.positive;
      near = unscaled (pos 2) (c.m *ℤ p.x -ℤ p.n *ℤ (c.m *ℤ a.x +ℤ c.i *ℤ (b.x -ℤ a.x))) (c.m *ℤ p.y -ℤ p.n *ℤ (c.m *ℤ a.y +ℤ c.i *ℤ (b.y -ℤ a.y))) (p.n *ℤ c.m *ℤ q) record { le = tt }
          (rw (by_fine p.n c.m c.i p.x f.a.x f.b.x a.x b.x, by_fine p.n c.m c.i p.y f.a.y f.b.y a.y b.y, twice_radius p.n c.m q) (rw e at (
          added p.n c.m p.positive c.positive c.i (c.m *ℤ (pos 2 *ℤ p.x) -ℤ p.n *ℤ (c.m *ℤ f.a.x +ℤ c.i *ℤ (f.b.x -ℤ f.a.x))) (c.m *ℤ (pos 2 *ℤ p.y) -ℤ p.n *ℤ (c.m *ℤ f.a.y +ℤ c.i *ℤ (f.b.y -ℤ f.a.y)))
          (f.a.x -ℤ pos 2 *ℤ a.x) (f.a.y -ℤ pos 2 *ℤ a.y) (f.b.x -ℤ pos 2 *ℤ b.x) (f.b.y -ℤ pos 2 *ℤ b.y) (pos f.r) (pos 2 *ℤ q -ℤ pos f.r)
          c.from_start c.to_end (omega (arith, ints)) h.some
          (norm_back f.a.x f.a.y (pos 2 *ℤ a.x) (pos 2 *ℤ a.y) (pos 2 *ℤ q -ℤ pos f.r) h.start) (norm_back f.b.x f.b.y (pos 2 *ℤ b.x) (pos 2 *ℤ b.y) (pos 2 *ℤ q -ℤ pos f.r) h.end) c.near
          )));
    }
