-- What holds at the three corners of the triangle of a cone holds at each turn of it, and so of a figure and an edge.
use Rattle.std.proofs.Common.{Bool, false, IsTrue, ◌≡◌, ◌⊎◌, inl, inr, ℤ, pos, neg_ℤ, ◌+ℤ◌, ◌-ℤ◌, ◌*ℤ◌, ◌≤ℤ◌, List, [], ◌∷◌, arith, refl, subst}
use Rattle.planar.specs.declared.Spot.{Spot}
use Rattle.planar.specs.Plane.{Point, cross_of, dot_of}
use Rattle.planar.proofs.Ring.{ring, linear, times_from_zero, times_cancel, over_zero, times-zero, mul-neg}
use Rattle.board_shapes.specs.Figures.{InFigure, filled}
use Rattle.area_contact.specs.Contour.{InArea, edges_from, end_from}
use Rattle.area_contact.specs.Parity.{side_of}
use Rattle.slants.specs.Taken.{Each}
use Rattle.slants.specs.Turned.{AllLean, InTurned, IsBetween, IsTurn, Leans, TurnedAbove, TurnedBelow, back_of, lean_of, meet_of, mirrored, turned_back}
use Rattle.slants.specs.declared.turns.Heading.{Heading}
use Rattle.slants.specs.declared.turns.Motions.{Motions}
use Rattle.slants.specs.declared.turns.Turn.{Turn}
use Rattle.slants.proofs.Corners.{each_as}
use Rattle.slants.proofs.Halves.{Under, area_under}
use Rattle.slants.proofs.Inside.{lies_inside}

-- ---- the cone

abbrev pub form : ℤ → ℤ → ℤ → ℤ → ℤ → ℤ → ℤ → ℤ
form r s t ux uy vx vy = r *ℤ (ux *ℤ vx +ℤ uy *ℤ vy) +ℤ s *ℤ (ux *ℤ vx -ℤ uy *ℤ vy) +ℤ t *ℤ (ux *ℤ vy +ℤ uy *ℤ vx)

scaled : (r s t i x y : ℤ) → (i *ℤ i) *ℤ form r s t x y x y ≡ form r s t (i *ℤ x) (i *ℤ y) (i *ℤ x) (i *ℤ y)
scaled r s t i x y = simp ring (omega (arith, linear))

spread : (r s t j k ux uy vx vy : ℤ) → form r s t (j *ℤ ux +ℤ k *ℤ vx) (j *ℤ uy +ℤ k *ℤ vy) (j *ℤ ux +ℤ k *ℤ vx) (j *ℤ uy +ℤ k *ℤ vy)
    ≡ (j *ℤ j) *ℤ form r s t ux uy ux uy +ℤ ((j *ℤ k) *ℤ form r s t ux uy vx vy +ℤ (j *ℤ k) *ℤ form r s t ux uy vx vy) +ℤ (k *ℤ k) *ℤ form r s t vx vy vx vy
spread r s t j k ux uy vx vy = simp ring (omega (arith, linear))

pub in_cone : (r s t i j k x y ux uy vx vy : ℤ) → pos 1 ≤ℤ i → pos 0 ≤ℤ j → pos 0 ≤ℤ k → i *ℤ x ≡ j *ℤ ux +ℤ k *ℤ vx → i *ℤ y ≡ j *ℤ uy +ℤ k *ℤ vy
    → pos 0 ≤ℤ form r s t ux uy ux uy → pos 0 ≤ℤ form r s t ux uy vx vy → pos 0 ≤ℤ form r s t vx vy vx vy → pos 0 ≤ℤ form r s t x y x y
in_cone r s t i j k x y ux uy vx vy hi hj hk across up first middle last =
    let e : (i *ℤ i) *ℤ form r s t x y x y ≡ (j *ℤ j) *ℤ form r s t ux uy ux uy +ℤ ((j *ℤ k) *ℤ form r s t ux uy vx vy +ℤ (j *ℤ k) *ℤ form r s t ux uy vx vy) +ℤ (k *ℤ k) *ℤ form r s t vx vy vx vy =
    rw (scaled r s t i x y, across, up) (spread r s t j k ux uy vx vy) in
    let f : pos 0 ≤ℤ ((j *ℤ j) *ℤ form r s t ux uy ux uy) = times_from_zero (j *ℤ j) (form r s t ux uy ux uy) (times_from_zero j j hj hj) first in
    let g : pos 0 ≤ℤ ((j *ℤ k) *ℤ form r s t ux uy vx vy) = times_from_zero (j *ℤ k) (form r s t ux uy vx vy) (times_from_zero j k hj hk) middle in
    let h : pos 0 ≤ℤ ((k *ℤ k) *ℤ form r s t vx vy vx vy) = times_from_zero (k *ℤ k) (form r s t vx vy vx vy) (times_from_zero k k hk hk) last in
    from (i *ℤ i) (form r s t x y x y) ((j *ℤ j) *ℤ form r s t ux uy ux uy) ((j *ℤ k) *ℤ form r s t ux uy vx vy) ((k *ℤ k) *ℤ form r s t vx vy vx vy) (over_zero i i hi hi) e f g h
  where
    from : (m z f g h : ℤ) → pos 1 ≤ℤ m → m *ℤ z ≡ f +ℤ (g +ℤ g) +ℤ h → pos 0 ≤ℤ f → pos 0 ≤ℤ g → pos 0 ≤ℤ h → pos 0 ≤ℤ z
    from m z f g h hm e a b c = times_cancel m (pos 0) z hm (omega (arith, linear, e, a, b, c, times-zero m))

-- the spot is on the left, for each turn of the cone
pub leans_at : (m : Motions) (t : Turn) (b c q : Spot) → IsBetween m t → Leans m b c q → pos 0 ≤ℤ lean_of m b c (meet_of t t) q
leans_at m t b c q k l = in_cone (cross_of b c m.to) (cross_of b c q -ℤ cross_of b c m.from) (dot_of b c q -ℤ dot_of b c m.from) k.i k.j k.k t.x t.y m.first.x m.first.y m.last.x m.last.y
    k.positive k.from_first k.from_last k.across k.up l.0 l.1 l.2

-- ---- a figure under a line

-- by how much the spot is under a line across the direction: e leads along the edge, d is the direction
lean_is : (r ex ey bx by zx zy qx qy dx dy dn : ℤ) → r *ℤ dn +ℤ ((ex *ℤ (qy -ℤ by) -ℤ ey *ℤ (qx -ℤ bx)) -ℤ (ex *ℤ (zy -ℤ by) -ℤ ey *ℤ (zx -ℤ bx))) *ℤ dx +ℤ ((ex *ℤ (qx -ℤ bx) +ℤ ey *ℤ (qy -ℤ by)) -ℤ (ex *ℤ (zx -ℤ bx) +ℤ ey *ℤ (zy -ℤ by))) *ℤ dy
    ≡ (r *ℤ dn +ℤ ((dx *ℤ ey -ℤ dy *ℤ ex) *ℤ zx +ℤ neg_ℤ (dx *ℤ ex +ℤ dy *ℤ ey) *ℤ zy)) -ℤ ((dx *ℤ ey -ℤ dy *ℤ ex) *ℤ qx +ℤ neg_ℤ (dx *ℤ ex +ℤ dy *ℤ ey) *ℤ qy)
lean_is r ex ey bx by zx zy qx qy dx dy dn = simp ring (omega (arith, linear))

module _ (m : Motions) (b c : Spot) (d : Heading) where
  abbrev ux : ℤ
  ux = d.x *ℤ (c.y -ℤ b.y) -ℤ d.y *ℤ (c.x -ℤ b.x)

  abbrev uy : ℤ
  uy = neg_ℤ (d.x *ℤ (c.x -ℤ b.x) +ℤ d.y *ℤ (c.y -ℤ b.y))

  abbrev high : ℤ
  high = cross_of b c m.to *ℤ d.n +ℤ (ux *ℤ m.from.x +ℤ uy *ℤ m.from.y)

  under : (q : Spot) → pos 0 ≤ℤ lean_of m b c d q → Under ux uy high q
  under q l = omega (arith, linear, l, lean_is (cross_of b c m.to) (c.x -ℤ b.x) (c.y -ℤ b.y) b.x b.y m.from.x m.from.y q.x q.y d.x d.y d.n)

  all_under : (a : Spot) (rest : List Spot) (p : Point) → end_from a rest ≡ a → Each (λ q. pos 0 ≤ℤ lean_of m b c d q) (a ∷ rest) → InArea (edges_from a rest) p → (ux *ℤ p.x +ℤ uy *ℤ p.y) ≤ℤ (p.n *ℤ high)
  all_under a rest p closed all inside = area_under ux uy high a rest p closed (under a all.0) (each_as under rest all.1) inside

-- ---- the turned figure

pub circle : (x y : ℤ) → (x *ℤ x -ℤ y *ℤ y) *ℤ (x *ℤ x -ℤ y *ℤ y) +ℤ (x *ℤ y +ℤ y *ℤ x) *ℤ (x *ℤ y +ℤ y *ℤ x) ≡ (x *ℤ x +ℤ y *ℤ y) *ℤ (x *ℤ x +ℤ y *ℤ y)
circle x y = simp ring (omega (arith, linear))

-- v leads from where the figure is moved to, to the point
turned_out : (dx dy dn ex ey zx zy vx vy n : ℤ) → (dx *ℤ ey -ℤ dy *ℤ ex) *ℤ (dn *ℤ (n *ℤ zx) +ℤ (dx *ℤ vx +ℤ dy *ℤ vy)) +ℤ neg_ℤ (dx *ℤ ex +ℤ dy *ℤ ey) *ℤ (dn *ℤ (n *ℤ zy) +ℤ (dx *ℤ vy -ℤ dy *ℤ vx))
    ≡ (dx *ℤ dx +ℤ dy *ℤ dy) *ℤ (ey *ℤ vx -ℤ ex *ℤ vy) +ℤ (dn *ℤ n) *ℤ ((dx *ℤ ey -ℤ dy *ℤ ex) *ℤ zx +ℤ neg_ℤ (dx *ℤ ex +ℤ dy *ℤ ey) *ℤ zy)
turned_out dx dy dn ex ey zx zy vx vy n = simp ring (omega (arith, linear))

side_out : (ex ey bx by wx wy x y n : ℤ) → ex *ℤ (y -ℤ n *ℤ by) +ℤ (n *ℤ bx -ℤ x) *ℤ ey ≡ n *ℤ (ex *ℤ (wy -ℤ by) -ℤ ey *ℤ (wx -ℤ bx)) -ℤ (ey *ℤ (x -ℤ n *ℤ wx) -ℤ ex *ℤ (y -ℤ n *ℤ wy))
side_out ex ey bx by wx wy x y n = simp ring (omega (arith, linear))

-- o is the square of dn
freed : (dn o n r u z l : ℤ) → pos 1 ≤ℤ dn → o ≡ dn *ℤ dn → l ≡ o *ℤ z +ℤ (dn *ℤ n) *ℤ u → l ≤ℤ ((dn *ℤ n) *ℤ (r *ℤ dn +ℤ u)) → z ≤ℤ (n *ℤ r)
freed dn o n r u z l some is e h =
    let f : (dn *ℤ n) *ℤ (r *ℤ dn +ℤ u) ≡ (dn *ℤ dn) *ℤ (n *ℤ r) +ℤ (dn *ℤ n) *ℤ u = simp ring in
    let g : l ≡ (dn *ℤ dn) *ℤ z +ℤ (dn *ℤ n) *ℤ u = rw (← is) e in
    times_cancel (dn *ℤ dn) z (n *ℤ r) (over_zero dn dn some some) (omega (arith, linear, f, g, h))

above_left : (m : Motions) (t : Turn) (some : IsTurn t) (b c a : Spot) (rest : List Spot) (p : Point) → end_from a rest ≡ a → Each (λ q. pos 0 ≤ℤ lean_of m b c (meet_of t t) q) (a ∷ rest)
    → InArea (edges_from a rest) (turned_back m t some p) → pos 0 ≤ℤ side_of b c p.x p.y p.n
above_left m t some b c a rest p closed all inside =
    let d : Heading = meet_of t t in
    let l = all_under m b c d a rest (turned_back m t some p) closed all inside in
    let e = turned_out d.x d.y d.n (c.x -ℤ b.x) (c.y -ℤ b.y) m.from.x m.from.y (p.x -ℤ p.n *ℤ m.to.x) (p.y -ℤ p.n *ℤ m.to.y) p.n in
    let f : ((c.y -ℤ b.y) *ℤ (p.x -ℤ p.n *ℤ m.to.x) -ℤ (c.x -ℤ b.x) *ℤ (p.y -ℤ p.n *ℤ m.to.y)) ≤ℤ (p.n *ℤ cross_of b c m.to) = freed d.n _ p.n (cross_of b c m.to) _ _ _ some (circle t.x t.y) e l in
    omega (arith, linear, f, side_out (c.x -ℤ b.x) (c.y -ℤ b.y) b.x b.y m.to.x m.to.y p.x p.y p.n)

-- ---- and a polygon in it

-- z is the spot that the figure is turned about
side_in : (dx dy dn ex ey bx by zx zy vx vy n : ℤ) → ex *ℤ ((dn *ℤ (n *ℤ zy) +ℤ (dx *ℤ vy -ℤ dy *ℤ vx)) -ℤ (dn *ℤ n) *ℤ by) +ℤ ((dn *ℤ n) *ℤ bx -ℤ (dn *ℤ (n *ℤ zx) +ℤ (dx *ℤ vx +ℤ dy *ℤ vy))) *ℤ ey
    ≡ (n *ℤ dn) *ℤ (ex *ℤ (zy -ℤ by) -ℤ ey *ℤ (zx -ℤ bx)) -ℤ ((dx *ℤ ey +ℤ dy *ℤ ex) *ℤ vx +ℤ neg_ℤ (dx *ℤ ex -ℤ dy *ℤ ey) *ℤ vy)
side_in dx dy dn ex ey bx by zx zy vx vy n = simp ring (omega (arith, linear))

-- d' is the direction back
held : (dx dy ex ey wx wy x y n r dn : ℤ) → ((dx *ℤ ey -ℤ neg_ℤ dy *ℤ ex) *ℤ x +ℤ neg_ℤ (dx *ℤ ex +ℤ neg_ℤ dy *ℤ ey) *ℤ y) ≤ℤ (n *ℤ (r *ℤ dn +ℤ ((dx *ℤ ey -ℤ neg_ℤ dy *ℤ ex) *ℤ wx +ℤ neg_ℤ (dx *ℤ ex +ℤ neg_ℤ dy *ℤ ey) *ℤ wy)))
    → ((dx *ℤ ey +ℤ dy *ℤ ex) *ℤ (x -ℤ n *ℤ wx) +ℤ neg_ℤ (dx *ℤ ex -ℤ dy *ℤ ey) *ℤ (y -ℤ n *ℤ wy)) ≤ℤ ((n *ℤ dn) *ℤ r)
held dx dy ex ey wx wy x y n r dn h = simp ring (omega (arith, linear, simp ring at h))

back_x : (x y : ℤ) → x *ℤ x -ℤ neg_ℤ y *ℤ neg_ℤ y ≡ x *ℤ x -ℤ y *ℤ y
back_x x y = simp ring (omega (arith, linear))

back_y : (x y : ℤ) → x *ℤ neg_ℤ y +ℤ neg_ℤ y *ℤ x ≡ neg_ℤ (x *ℤ y +ℤ y *ℤ x)
back_y x y = simp ring (omega (arith, linear))

back_n : (x y : ℤ) → x *ℤ x +ℤ neg_ℤ y *ℤ neg_ℤ y ≡ x *ℤ x +ℤ y *ℤ y
back_n x y = simp ring (omega (arith, linear))

abbrev heading_back : Turn → Heading
heading_back t = record { x = (meet_of t t).x; y = neg_ℤ (meet_of t t).y; n = (meet_of t t).n }

meets_back : (t : Turn) → meet_of (mirrored t) (mirrored t) ≡ heading_back t
meets_back t = rw (back_x t.x t.y, back_y t.x t.y, back_n t.x t.y) refl

below_left : (m : Motions) (t : Turn) (some : IsTurn t) (b c a : Spot) (rest : List Spot) (p : Point) → end_from a rest ≡ a → Each (λ q. pos 0 ≤ℤ lean_of (back_of m) b c (heading_back t) q) (a ∷ rest)
    → InArea (edges_from a rest) p → pos 0 ≤ℤ side_of b c (turned_back m t some p).x (turned_back m t some p).y (turned_back m t some p).n
below_left m t some b c a rest p closed all inside =
    let d : Heading = meet_of t t in
    let l = all_under (back_of m) b c (heading_back t) a rest p closed all inside in
    let f = held d.x d.y (c.x -ℤ b.x) (c.y -ℤ b.y) m.to.x m.to.y p.x p.y p.n (cross_of b c m.from) d.n l in
    omega (arith, linear, f, side_in d.x d.y d.n (c.x -ℤ b.x) (c.y -ℤ b.y) b.x b.y m.from.x m.from.y (p.x -ℤ p.n *ℤ m.to.x) (p.y -ℤ p.n *ℤ m.to.y) p.n)

-- ---- the laws

back_between : (m : Motions) (t : Turn) → IsBetween m t → IsBetween (back_of m) (mirrored t)
back_between m t k = record {
  some = omega (arith, linear, k.some, back_n t.x t.y);
  i = k.i;
  j = k.j;
  k = k.k;
  positive = k.positive;
  from_first = k.from_first;
  from_last = k.from_last;
  across = k.across;
  up = omega (arith, linear, k.up, mul-neg k.i t.y, mul-neg k.j m.first.y, mul-neg k.k m.last.y);
}

pub above_turned : (figure : List Spot) (m : Motions) (points : List Spot) (t : Turn) (p : Point) → TurnedAbove figure m points → IsBetween m t → InTurned figure m t p → InFigure (filled points) p
above_turned [] m points t p h k inside = absurd (none inside.inside)
  where
    none : ⊥ ⊎ ⊥ → ⊥
    none (inl z) = z
    none (inr z) = z
above_turned (a ∷ rest) m points t p h k inside = lies_inside points p left h.round
  where
    left : (b c : Spot) → AllLean (a ∷ rest) m b c → pos 0 ≤ℤ side_of b c p.x p.y p.n
    left b c all = above_left m t inside.some b c a rest p h.closed (each_as (λ q l. leans_at m t b c q k l) (a ∷ rest) all) inside.inside

-- points that are left of a line where they are turned back have their area there
pub back_left : (m : Motions) (t : Turn) (k : IsBetween m t) (b c a : Spot) (rest : List Spot) (p : Point) → end_from a rest ≡ a → AllLean (a ∷ rest) (back_of m) b c → InArea (edges_from a rest) p
    → pos 0 ≤ℤ side_of b c (turned_back m t k.some p).x (turned_back m t k.some p).y (turned_back m t k.some p).n
back_left m t k b c a rest p closed all inside = below_left m t k.some b c a rest p closed (each_as at_back (a ∷ rest) all) inside
  where
    at_back : (q : Spot) → Leans (back_of m) b c q → pos 0 ≤ℤ lean_of (back_of m) b c (heading_back t) q
    at_back q l = subst (λ (d : Heading). pos 0 ≤ℤ lean_of (back_of m) b c d q) (meets_back t) (leans_at (back_of m) (mirrored t) b c q (back_between m t k) l)

pub below_turned : (figure : List Spot) (m : Motions) (points : List Spot) (t : Turn) (p : Point) → TurnedBelow figure m points → IsBetween m t → InFigure (filled points) p → InTurned figure m t p
below_turned figure m [] t p h k (inl z) = absurd z
below_turned figure m [] t p h k (inr z) = absurd z
below_turned figure m (a ∷ rest) t p h k inside = record { some = k.some; inside = lies_inside figure (turned_back m t k.some p) left h.round }
  where
    left : (b c : Spot) → AllLean (a ∷ rest) (back_of m) b c → pos 0 ≤ℤ side_of b c (turned_back m t k.some p).x (turned_back m t k.some p).y (turned_back m t k.some p).n
    left b c all = back_left m t k b c a rest p h.closed all inside

pub no_more : {b : Bool} → IsTrue b → b ≡ false → ⊥
no_more t e = cc
