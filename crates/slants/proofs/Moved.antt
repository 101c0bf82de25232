-- A disc whose centre stays near a spot, and the discs about that spot.
use Rattle.std.proofs.Common.{◌≡◌, ◌+◌, ◌-◌, ℕ, ℤ, pos, neg_ℤ, ◌+ℤ◌, ◌-ℤ◌, ◌*ℤ◌, ◌≤ℤ◌, arith}
use Rattle.std.proofs.lemmas.Int.{ints}
use Rattle.planar.specs.declared.Spot.{Spot}
use Rattle.planar.specs.Plane.{InCapsule, Point, cross_of, dot_of, square}
use Rattle.planar.proofs.Ring.{ring, linear, times_cancel, times_mono, times_mono_right, times_from_zero, over_zero, square_cancel, square_from_zero, zero-times, times-zero, times-one, one-times}
use Rattle.board_shapes.specs.Figures.{InFigure}
use Rattle.slants.specs.Discs.{DiscAbove, DiscBelow, InTurnedDisc, StaysNear, disc_about, room_of, turns_of}
use Rattle.slants.specs.Turned.{IsBetween, IsTurn, meet_of, turned_back}
use Rattle.slants.specs.declared.discs.TurnedDisc.{TurnedDisc}
use Rattle.slants.specs.declared.turns.Turn.{Turn}
use Rattle.slants.proofs.Around.{circle, in_cone}

abbrev norm : ℤ → ℤ → ℤ
norm x y = x *ℤ x +ℤ y *ℤ y

-- ---- two ways, one after the other

apart : (ax ay bx by : ℤ) → (ax *ℤ bx +ℤ ay *ℤ by) *ℤ (ax *ℤ bx +ℤ ay *ℤ by) +ℤ (ax *ℤ by -ℤ ay *ℤ bx) *ℤ (ax *ℤ by -ℤ ay *ℤ bx) ≡ norm ax ay *ℤ norm bx by
apart ax ay bx by = simp ring (omega (arith, linear))

-- the scalar product is at most the product of both lengths
together : (ax ay bx by m n : ℤ) → pos 0 ≤ℤ m → pos 0 ≤ℤ n → norm ax ay ≤ℤ (m *ℤ m) → norm bx by ≤ℤ (n *ℤ n) → (ax *ℤ bx +ℤ ay *ℤ by) ≤ℤ (m *ℤ n)
together ax ay bx by m n hm hn h k =
    let f : (norm ax ay *ℤ norm bx by) ≤ℤ (norm ax ay *ℤ (n *ℤ n)) = times_mono (norm ax ay) (norm bx by) (n *ℤ n) (omega (arith, linear, square_from_zero ax, square_from_zero ay)) k in
    let g : (norm ax ay *ℤ (n *ℤ n)) ≤ℤ ((m *ℤ m) *ℤ (n *ℤ n)) = times_mono_right (n *ℤ n) (norm ax ay) (m *ℤ m) (square_from_zero n) h in
    let e : (m *ℤ m) *ℤ (n *ℤ n) ≡ (m *ℤ n) *ℤ (m *ℤ n) = simp ring in
    square_cancel (ax *ℤ bx +ℤ ay *ℤ by) (m *ℤ n) (times_from_zero m n hm hn) (omega (arith, linear, apart ax ay bx by, f, g, e, square_from_zero (ax *ℤ by -ℤ ay *ℤ bx)))

longer : (ax ay bx by m n : ℤ) → pos 0 ≤ℤ m → pos 0 ≤ℤ n → norm ax ay ≤ℤ (m *ℤ m) → norm bx by ≤ℤ (n *ℤ n) → norm (ax +ℤ bx) (ay +ℤ by) ≤ℤ ((m +ℤ n) *ℤ (m +ℤ n))
longer ax ay bx by m n hm hn h k =
    let l : (ax *ℤ bx +ℤ ay *ℤ by) ≤ℤ (m *ℤ n) = together ax ay bx by m n hm hn h k in
    omega (arith, linear, l, h, k, ways ax ay bx by, sum m n)
  where
    ways : (ax ay bx by : ℤ) → norm (ax +ℤ bx) (ay +ℤ by) ≡ (norm ax ay +ℤ norm bx by) +ℤ ((ax *ℤ bx +ℤ ay *ℤ by) +ℤ (ax *ℤ bx +ℤ ay *ℤ by))
    ways ax ay bx by = simp ring (omega (arith, linear))

    sum : (m n : ℤ) → (m +ℤ n) *ℤ (m +ℤ n) ≡ (m *ℤ m +ℤ n *ℤ n) +ℤ (m *ℤ n +ℤ m *ℤ n)
    sum m n = simp ring (omega (arith, linear))

-- ---- a point of a disc

out_of : (m n i x a : ℤ) → m *ℤ x -ℤ n *ℤ (m *ℤ a +ℤ i *ℤ (a -ℤ a)) ≡ m *ℤ (x -ℤ n *ℤ a)
out_of m n i x a = simp ring (omega (arith, linear))

spread : (m x y : ℤ) → (m *ℤ x) *ℤ (m *ℤ x) +ℤ (m *ℤ y) *ℤ (m *ℤ y) ≡ (m *ℤ m) *ℤ norm x y
spread m x y = simp ring (omega (arith, linear))

from_disc : (c : Spot) (r : ℤ) (p : Point) → InCapsule c c r p → norm (p.x -ℤ p.n *ℤ c.x) (p.y -ℤ p.n *ℤ c.y) ≤ℤ square (p.n *ℤ r)
from_disc c r p h =
    let near = h.near in
    let f : ((h.m *ℤ (p.x -ℤ p.n *ℤ c.x)) *ℤ (h.m *ℤ (p.x -ℤ p.n *ℤ c.x)) +ℤ (h.m *ℤ (p.y -ℤ p.n *ℤ c.y)) *ℤ (h.m *ℤ (p.y -ℤ p.n *ℤ c.y))) ≤ℤ square (p.n *ℤ h.m *ℤ r) = rw (out_of h.m p.n h.i p.x c.x, out_of h.m p.n h.i p.y c.y) at near in
    times_cancel (h.m *ℤ h.m) (norm (p.x -ℤ p.n *ℤ c.x) (p.y -ℤ p.n *ℤ c.y)) (square (p.n *ℤ r)) (over_zero h.m h.m h.positive h.positive)
    (omega (arith, linear, f, spread h.m (p.x -ℤ p.n *ℤ c.x) (p.y -ℤ p.n *ℤ c.y), parted p.n h.m r))
  where
    parted : (n m r : ℤ) → square (n *ℤ m *ℤ r) ≡ (m *ℤ m) *ℤ square (n *ℤ r)
    parted n m r = simp ring

to_disc : (c : Spot) (r : ℤ) (p : Point) → norm (p.x -ℤ p.n *ℤ c.x) (p.y -ℤ p.n *ℤ c.y) ≤ℤ square (p.n *ℤ r) → InCapsule c c r p
to_disc c r p h = record {
  i = pos 0;
  m = pos 1;
  from_start = record { le = tt };
  to_end = record { le = tt };
  positive = record { le = tt };
  near = rw (out_of (pos 1) p.n (pos 0) p.x c.x, out_of (pos 1) p.n (pos 0) p.y c.y, one-times (p.x -ℤ p.n *ℤ c.x), one-times (p.y -ℤ p.n *ℤ c.y), times-one p.n) h;
}

-- ---- the centre, of plain numbers: v and w lead from what it is turned about to it and to the spot

gap_is : (dx dy dn n vx vy wx wy f : ℤ) → norm (n *ℤ (dx *ℤ wx +ℤ dy *ℤ wy -ℤ dn *ℤ vx)) (n *ℤ (dx *ℤ wy -ℤ dy *ℤ wx -ℤ dn *ℤ vy)) +ℤ
    (n *ℤ n) *ℤ (dn *ℤ ((f *ℤ f -ℤ (vx *ℤ vx +ℤ vy *ℤ vy) -ℤ (wx *ℤ wx +ℤ wy *ℤ wy)) *ℤ dn +ℤ ((vx *ℤ wx +ℤ vy *ℤ wy) +ℤ (vx *ℤ wx +ℤ vy *ℤ wy)) *ℤ dx +ℤ ((vx *ℤ wy -ℤ vy *ℤ wx) +ℤ (vx *ℤ wy -ℤ vy *ℤ wx)) *ℤ dy))
    ≡ (n *ℤ dn *ℤ f) *ℤ (n *ℤ dn *ℤ f) +ℤ (n *ℤ n) *ℤ ((norm dx dy -ℤ dn *ℤ dn) *ℤ norm wx wy)
gap_is dx dy dn n vx vy wx wy f = simp ring (omega (arith, linear))

gap : (dx dy dn n vx vy wx wy f : ℤ) → pos 0 ≤ℤ dn → norm dx dy ≡ dn *ℤ dn
    → pos 0 ≤ℤ ((f *ℤ f -ℤ (vx *ℤ vx +ℤ vy *ℤ vy) -ℤ (wx *ℤ wx +ℤ wy *ℤ wy)) *ℤ dn +ℤ ((vx *ℤ wx +ℤ vy *ℤ wy) +ℤ (vx *ℤ wx +ℤ vy *ℤ wy)) *ℤ dx +ℤ ((vx *ℤ wy -ℤ vy *ℤ wx) +ℤ (vx *ℤ wy -ℤ vy *ℤ wx)) *ℤ dy)
    → norm (n *ℤ (dx *ℤ wx +ℤ dy *ℤ wy -ℤ dn *ℤ vx)) (n *ℤ (dx *ℤ wy -ℤ dy *ℤ wx -ℤ dn *ℤ vy)) ≤ℤ ((n *ℤ dn *ℤ f) *ℤ (n *ℤ dn *ℤ f))
gap dx dy dn n vx vy wx wy f some is room =
    let k = times_from_zero (n *ℤ n) _ (square_from_zero n) (times_from_zero dn _ some room) in
    let none : norm dx dy -ℤ dn *ℤ dn ≡ pos 0 = omega (arith, linear, is) in
    let e = rw (none, zero-times (norm wx wy), times-zero (n *ℤ n)) at (gap_is dx dy dn n vx vy wx wy f) in
    omega (arith, linear, k, e)

-- the way from n times the spot to the point, turned back
turned_norm : (dx dy px py : ℤ) → norm (dx *ℤ px +ℤ dy *ℤ py) (dx *ℤ py -ℤ dy *ℤ px) ≡ norm dx dy *ℤ norm px py
turned_norm dx dy px py = simp ring (omega (arith, linear))

-- the point turned back, from the centre, and both parts of that way
back_x : (dx dy dn n px py ox oy qx sx sy : ℤ) → (dn *ℤ (n *ℤ ox) +ℤ (dx *ℤ (px -ℤ n *ℤ ox) +ℤ dy *ℤ (py -ℤ n *ℤ oy))) -ℤ (dn *ℤ n) *ℤ qx
    ≡ (dx *ℤ (px -ℤ n *ℤ sx) +ℤ dy *ℤ (py -ℤ n *ℤ sy)) +ℤ n *ℤ (dx *ℤ (sx -ℤ ox) +ℤ dy *ℤ (sy -ℤ oy) -ℤ dn *ℤ (qx -ℤ ox))
back_x dx dy dn n px py ox oy qx sx sy = simp ring (omega (arith, linear))

back_y : (dx dy dn n px py ox oy qy sx sy : ℤ) → (dn *ℤ (n *ℤ oy) +ℤ (dx *ℤ (py -ℤ n *ℤ oy) -ℤ dy *ℤ (px -ℤ n *ℤ ox))) -ℤ (dn *ℤ n) *ℤ qy
    ≡ (dx *ℤ (py -ℤ n *ℤ sy) -ℤ dy *ℤ (px -ℤ n *ℤ sx)) +ℤ n *ℤ (dx *ℤ (sy -ℤ oy) -ℤ dy *ℤ (sx -ℤ ox) -ℤ dn *ℤ (qy -ℤ oy))
back_y dx dy dn n px py ox oy qy sx sy = simp ring (omega (arith, linear))

module _ (a : TurnedDisc) (s : Spot) (far : ℕ) (t : Turn) (p : Point) (near : StaysNear a s far) (between : IsBetween (turns_of a) t) where
  abbrev dx : ℤ
  dx = (meet_of t t).x

  abbrev dy : ℤ
  dy = (meet_of t t).y

  abbrev dn : ℤ
  dn = (meet_of t t).n

  abbrev vx : ℤ
  vx = a.centre.x -ℤ a.about.x

  abbrev vy : ℤ
  vy = a.centre.y -ℤ a.about.y

  abbrev wx : ℤ
  wx = s.x -ℤ a.about.x

  abbrev wy : ℤ
  wy = s.y -ℤ a.about.y

  -- there is room at the turn
  room : pos 0 ≤ℤ room_of a.about a.centre s far (meet_of t t)
  room = in_cone (square (pos far) -ℤ dot_of a.about a.centre a.centre -ℤ dot_of a.about s s) (dot_of a.about a.centre s +ℤ dot_of a.about a.centre s) (cross_of a.about a.centre s +ℤ cross_of a.about a.centre s)
      between.i between.j between.k t.x t.y (turns_of a).first.x (turns_of a).first.y (turns_of a).last.x (turns_of a).last.y between.positive between.from_first between.from_last between.across between.up near.room.0 near.room.1 near.room.2

  -- the way from the turned centre to the spot, and that from the spot to the point, both turned back
  abbrev gx : ℤ
  gx = p.n *ℤ (dx *ℤ wx +ℤ dy *ℤ wy -ℤ dn *ℤ vx)

  abbrev gy : ℤ
  gy = p.n *ℤ (dx *ℤ wy -ℤ dy *ℤ wx -ℤ dn *ℤ vy)

  abbrev hx : ℤ
  hx = dx *ℤ (p.x -ℤ p.n *ℤ s.x) +ℤ dy *ℤ (p.y -ℤ p.n *ℤ s.y)

  abbrev hy : ℤ
  hy = dx *ℤ (p.y -ℤ p.n *ℤ s.y) -ℤ dy *ℤ (p.x -ℤ p.n *ℤ s.x)

  short : norm gx gy ≤ℤ ((p.n *ℤ dn *ℤ pos far) *ℤ (p.n *ℤ dn *ℤ pos far))
  short = gap dx dy dn p.n vx vy wx wy (pos far) (omega (arith, linear, between.some)) (circle t.x t.y) room

  abbrev back : IsTurn t → Point
  back some = turned_back (turns_of a) t some p

  way_x : (some : IsTurn t) → (back some).x -ℤ (back some).n *ℤ a.centre.x ≡ hx +ℤ gx
  way_x some = back_x dx dy dn p.n p.x p.y a.about.x a.about.y a.centre.x s.x s.y

  way_y : (some : IsTurn t) → (back some).y -ℤ (back some).n *ℤ a.centre.y ≡ hy +ℤ gy
  way_y some = back_y dx dy dn p.n p.x p.y a.about.x a.about.y a.centre.y s.x s.y

  norm_is : norm hx hy ≡ (dn *ℤ dn) *ℤ norm (p.x -ℤ p.n *ℤ s.x) (p.y -ℤ p.n *ℤ s.y)
  norm_is = let e = turned_norm dx dy (p.x -ℤ p.n *ℤ s.x) (p.y -ℤ p.n *ℤ s.y) in rw (circle t.x t.y) at e

  from_n : (z : ℕ) → pos 0 ≤ℤ (p.n *ℤ dn *ℤ pos z)
  from_n z = times_from_zero (p.n *ℤ dn) (pos z) (times_from_zero p.n dn (omega (arith, linear, p.positive)) (omega (arith, linear, between.some))) (omega (arith, ints))

  inside : (r : ℕ) (some : IsTurn t) → InFigure (disc_about s r) p → InFigure (disc_about a.centre (r + far)) (back some)
  inside r some h =
      let u : norm (p.x -ℤ p.n *ℤ s.x) (p.y -ℤ p.n *ℤ s.y) ≤ℤ square (p.n *ℤ pos r) = from_disc s (pos r) p h in
      let g : ((dn *ℤ dn) *ℤ norm (p.x -ℤ p.n *ℤ s.x) (p.y -ℤ p.n *ℤ s.y)) ≤ℤ ((dn *ℤ dn) *ℤ square (p.n *ℤ pos r)) = times_mono (dn *ℤ dn) _ _ (square_from_zero dn) u in
      let first : norm hx hy ≤ℤ ((p.n *ℤ dn *ℤ pos r) *ℤ (p.n *ℤ dn *ℤ pos r)) = omega (arith, linear, g, norm_is, grown dn p.n (pos r)) in
      let all = longer hx hy gx gy (p.n *ℤ dn *ℤ pos r) (p.n *ℤ dn *ℤ pos far) (from_n r) (from_n far) first short in
      to_disc a.centre (pos (r + far)) (back some) (rw (way_x some, way_y some) (omega (arith, linear, all, sum dn p.n r far)))
    where
      grown : (d n r : ℤ) → (d *ℤ d) *ℤ square (n *ℤ r) ≡ (n *ℤ d *ℤ r) *ℤ (n *ℤ d *ℤ r)
      grown d n r = simp ring

      plus : (d n r f : ℤ) → square (d *ℤ n *ℤ (r +ℤ f)) ≡ (n *ℤ d *ℤ r +ℤ n *ℤ d *ℤ f) *ℤ (n *ℤ d *ℤ r +ℤ n *ℤ d *ℤ f)
      plus d n r f = simp ring (omega (arith, linear))

      sum : (d n : ℤ) (r f : ℕ) → square (d *ℤ n *ℤ pos (r + f)) ≡ (n *ℤ d *ℤ pos r +ℤ n *ℤ d *ℤ pos f) *ℤ (n *ℤ d *ℤ pos r +ℤ n *ℤ d *ℤ pos f)
      sum d n r f = let e : pos (r + f) ≡ pos r +ℤ pos f = omega (arith, ints) in rw e (plus d n (pos r) (pos f))

  outside : (r : ℕ) (some : IsTurn t) → InFigure (disc_about a.centre r) (back some) → InFigure (disc_about s (r + far)) p
  outside r some h =
      let u = from_disc a.centre (pos r) (back some) h in
      let v : norm (hx +ℤ gx) (hy +ℤ gy) ≤ℤ square (dn *ℤ p.n *ℤ pos r) = rw (way_x some, way_y some) at u in
      let w : norm (hx +ℤ gx) (hy +ℤ gy) ≤ℤ ((p.n *ℤ dn *ℤ pos r) *ℤ (p.n *ℤ dn *ℤ pos r)) = omega (arith, linear, v, swapped dn p.n (pos r)) in
      let back_short : norm (neg_ℤ gx) (neg_ℤ gy) ≤ℤ ((p.n *ℤ dn *ℤ pos far) *ℤ (p.n *ℤ dn *ℤ pos far)) = omega (arith, linear, short, away gx gy) in
      let all = longer (hx +ℤ gx) (hy +ℤ gy) (neg_ℤ gx) (neg_ℤ gy) (p.n *ℤ dn *ℤ pos r) (p.n *ℤ dn *ℤ pos far) (from_n r) (from_n far) w back_short in
      let only = rw (less hx gx, less hy gy) at all in
      to_disc s (pos (r + far)) p (times_cancel (dn *ℤ dn) _ _ (over_zero dn dn between.some between.some) (omega (arith, linear, only, norm_is, sum dn p.n r far)))
    where
      swapped : (d n r : ℤ) → square (d *ℤ n *ℤ r) ≡ (n *ℤ d *ℤ r) *ℤ (n *ℤ d *ℤ r)
      swapped d n r = simp ring

      away : (x y : ℤ) → norm (neg_ℤ x) (neg_ℤ y) ≡ norm x y
      away x y = simp ring (omega (arith, linear))

      less : (x y : ℤ) → (x +ℤ y) +ℤ neg_ℤ y ≡ x
      less x y = omega (arith, linear)

      plus : (d n r f : ℤ) → (d *ℤ d) *ℤ square (n *ℤ (r +ℤ f)) ≡ (n *ℤ d *ℤ r +ℤ n *ℤ d *ℤ f) *ℤ (n *ℤ d *ℤ r +ℤ n *ℤ d *ℤ f)
      plus d n r f = simp ring (omega (arith, linear))

      sum : (d n : ℤ) (r f : ℕ) → (d *ℤ d) *ℤ square (n *ℤ pos (r + f)) ≡ (n *ℤ d *ℤ pos r +ℤ n *ℤ d *ℤ pos f) *ℤ (n *ℤ d *ℤ pos r +ℤ n *ℤ d *ℤ pos f)
      sum d n r f = let e : pos (r + f) ≡ pos r +ℤ pos f = omega (arith, ints) in rw e (plus d n (pos r) (pos f))

pub below_disc : (a : TurnedDisc) (s : Spot) (r : ℕ) (t : Turn) (p : Point) → DiscBelow a s r → IsBetween (turns_of a) t → InFigure (disc_about s r) p → InTurnedDisc a t p
below_disc a s r t p h between k =
    let e : r + (a.radius - r) ≡ a.radius = omega (arith, h.small) in
    record { some = between.some; inside = rw e at (inside a s (a.radius - r) t p h.near between r between.some k) }

pub above_disc : (a : TurnedDisc) (s : Spot) (r : ℕ) (t : Turn) (p : Point) → DiscAbove a s r → IsBetween (turns_of a) t → InTurnedDisc a t p → InFigure (disc_about s r) p
above_disc a s r t p h between k =
    let e : a.radius + (r - a.radius) ≡ r = omega (arith, h.large) in
    rw e at (outside a s (r - a.radius) t p h.near between a.radius k.some k.inside)
