-- An edge that keeps the rectangle on its left has each point of it there.
use Rattle.std.proofs.Common.{◌≡◌, ℕ, ◌*◌, ℤ, pos, negsuc, neg_ℤ, unsigned_abs, ◌+ℤ◌, ◌-ℤ◌, ◌*ℤ◌, ◌≤ℤ◌, List, arith, refl}
use Rattle.std.proofs.lemmas.Int.{ints}
use Rattle.planar.specs.declared.Spot.{Spot}
use Rattle.planar.specs.Plane.{Point, cross_of, dot_of, square}
use Rattle.planar.proofs.Ring.{ring, linear, times_from_zero, times_mono, times_cancel, square_from_zero, square_mono, square_cancel, over_zero, times-zero}
use Rattle.board_shapes.specs.Figures.{InFigure, filled}
use Rattle.area_contact.specs.Parity.{side_of}
use Rattle.slants.specs.Copper.{InSlant, along_of}
use Rattle.slants.specs.Taken.{IsOff, Keeps, TakenAbove, rise}
use Rattle.slants.specs.declared.Slant.{Slant}
use Rattle.slants.specs.declared.measures.TheConstants.{FINE}
use Rattle.slants.proofs.Inside.{lies_inside}

-- ---- lengths by their squares

squared : (a b : ℤ) → square (a *ℤ b) ≡ square a *ℤ square b
squared a b = simp ring

-- f w v <= c r with r at most the length, in parts of 2 f: then w v <= 2 c times the length
without_parts : (f w v c r d : ℤ) → pos 1 ≤ℤ f → pos 0 ≤ℤ w → pos 0 ≤ℤ v → (f *ℤ w *ℤ v) ≤ℤ (c *ℤ r) → square r ≤ℤ (square (pos 2 *ℤ f) *ℤ d) → square (w *ℤ v) ≤ℤ (square (pos 2 *ℤ c) *ℤ d)
without_parts f w v c r d some hw hv h k =
    let from : pos 0 ≤ℤ (f *ℤ w *ℤ v) = times_from_zero (f *ℤ w) v (times_from_zero f w (omega (arith, linear, some)) hw) hv in
    let a : square (f *ℤ w *ℤ v) ≤ℤ square (c *ℤ r) = square_mono (f *ℤ w *ℤ v) (c *ℤ r) from h in
    let b : (square c *ℤ square r) ≤ℤ (square c *ℤ (square (pos 2 *ℤ f) *ℤ d)) = times_mono (square c) (square r) (square (pos 2 *ℤ f) *ℤ d) (square_from_zero c) k in
    let goal : (square f *ℤ square (w *ℤ v)) ≤ℤ (square f *ℤ (square (pos 2 *ℤ c) *ℤ d)) = omega (arith, linear, a, b, squared c r, left f w v, right f c d) in
    times_cancel (square f) (square (w *ℤ v)) (square (pos 2 *ℤ c) *ℤ d) (over_zero f f some some) goal
  where
    left : (f w v : ℤ) → square (f *ℤ w *ℤ v) ≡ square f *ℤ square (w *ℤ v)
    left f w v = simp ring

    right : (f c d : ℤ) → square c *ℤ (square (pos 2 *ℤ f) *ℤ d) ≡ square f *ℤ (square (pos 2 *ℤ c) *ℤ d)
    right f c d = simp ring

-- a place half the width off, at most, of a line that is far enough on the left
off_by : (n w d c v s : ℤ) → pos 0 ≤ℤ n → pos 1 ≤ℤ d → pos 0 ≤ℤ c → square (pos 2 *ℤ s) ≤ℤ (square (n *ℤ w) *ℤ d) → square (w *ℤ v) ≤ℤ (square (pos 2 *ℤ c) *ℤ d) → pos 0 ≤ℤ ((n *ℤ d) *ℤ c +ℤ s *ℤ v)
off_by n w d c v s hn hd hc near far =
    let a : (square v *ℤ square (pos 2 *ℤ s)) ≤ℤ (square v *ℤ (square (n *ℤ w) *ℤ d)) = times_mono (square v) (square (pos 2 *ℤ s)) (square (n *ℤ w) *ℤ d) (square_from_zero v) near in
    let hk : pos 0 ≤ℤ (square n *ℤ d) = times_from_zero (square n) d (square_from_zero n) (omega (arith, linear, hd)) in
    let b : ((square n *ℤ d) *ℤ square (w *ℤ v)) ≤ℤ ((square n *ℤ d) *ℤ (square (pos 2 *ℤ c) *ℤ d)) = times_mono (square n *ℤ d) (square (w *ℤ v)) (square (pos 2 *ℤ c) *ℤ d) hk far in
    let e : square (pos 2 *ℤ (neg_ℤ s *ℤ v)) ≤ℤ square (pos 2 *ℤ ((n *ℤ d) *ℤ c)) = omega (arith, linear, a, b, one s v, two n w d v, three n d c) in
    let from : pos 0 ≤ℤ ((n *ℤ d) *ℤ c) = times_from_zero (n *ℤ d) c (times_from_zero n d hn (omega (arith, linear, hd))) hc in
    let f : (pos 2 *ℤ (neg_ℤ s *ℤ v)) ≤ℤ (pos 2 *ℤ ((n *ℤ d) *ℤ c)) = square_cancel (pos 2 *ℤ (neg_ℤ s *ℤ v)) (pos 2 *ℤ ((n *ℤ d) *ℤ c)) (times_from_zero (pos 2) ((n *ℤ d) *ℤ c) record { le = tt } from) e in
    let g : (neg_ℤ s *ℤ v) ≤ℤ ((n *ℤ d) *ℤ c) = times_cancel (pos 2) (neg_ℤ s *ℤ v) ((n *ℤ d) *ℤ c) record { le = tt } f in
    omega (arith, linear, g, moved s v)
  where
    one : (s v : ℤ) → square v *ℤ square (pos 2 *ℤ s) ≡ square (pos 2 *ℤ (neg_ℤ s *ℤ v))
    one s v = simp ring (omega (arith, linear))

    two : (n w d v : ℤ) → square v *ℤ (square (n *ℤ w) *ℤ d) ≡ (square n *ℤ d) *ℤ square (w *ℤ v)
    two n w d v = simp ring

    three : (n d c : ℤ) → (square n *ℤ d) *ℤ (square (pos 2 *ℤ c) *ℤ d) ≡ square (pos 2 *ℤ ((n *ℤ d) *ℤ c))
    three n d c = simp ring

    moved : (s v : ℤ) → neg_ℤ s *ℤ v ≡ neg_ℤ (s *ℤ v)
    moved s v = simp ring

-- ---- the side of a point of the rectangle

-- d leads from start to end, v along the edge, f from its start to that of the line, q from there to the point
parted : (dx dy vx vy fx fy qx qy n : ℤ) → (dx *ℤ dx +ℤ dy *ℤ dy) *ℤ (vx *ℤ (qy +ℤ n *ℤ fy) -ℤ vy *ℤ (qx +ℤ n *ℤ fx))
    ≡ (n *ℤ (dx *ℤ dx +ℤ dy *ℤ dy) -ℤ (dx *ℤ qx +ℤ dy *ℤ qy)) *ℤ (vx *ℤ fy -ℤ vy *ℤ fx) +ℤ (dx *ℤ qx +ℤ dy *ℤ qy) *ℤ (vx *ℤ (fy +ℤ dy) -ℤ vy *ℤ (fx +ℤ dx)) +ℤ (dx *ℤ qy -ℤ dy *ℤ qx) *ℤ (dx *ℤ vx +ℤ dy *ℤ vy)
parted dx dy vx vy fx fy qx qy n = simp ring (omega (arith, linear))

-- off both ends by enough, so in between
between : (n d along c e s v : ℤ) → pos 1 ≤ℤ n → pos 1 ≤ℤ d → pos 0 ≤ℤ along → along ≤ℤ (n *ℤ d) → pos 0 ≤ℤ ((n *ℤ d) *ℤ c +ℤ s *ℤ v) → pos 0 ≤ℤ ((n *ℤ d) *ℤ e +ℤ s *ℤ v) → pos 0 ≤ℤ ((n *ℤ d -ℤ along) *ℤ c +ℤ along *ℤ e +ℤ s *ℤ v)
between n d along c e s v hn hd ha hb h k =
    let m : ℤ = n *ℤ d in
    by m along c e (s *ℤ v) (over_zero n d hn hd) ha hb h k
  where
    by : (m along c e t : ℤ) → pos 1 ≤ℤ m → pos 0 ≤ℤ along → along ≤ℤ m → pos 0 ≤ℤ (m *ℤ c +ℤ t) → pos 0 ≤ℤ (m *ℤ e +ℤ t) → pos 0 ≤ℤ ((m -ℤ along) *ℤ c +ℤ along *ℤ e +ℤ t)
    by m along c e t hm ha hb h k =
        let f : pos 0 ≤ℤ ((m -ℤ along) *ℤ (m *ℤ c +ℤ t)) = times_from_zero (m -ℤ along) (m *ℤ c +ℤ t) (omega (arith, linear, hb)) h in
        let g : pos 0 ≤ℤ (along *ℤ (m *ℤ e +ℤ t)) = times_from_zero along (m *ℤ e +ℤ t) ha k in
        let same : (m -ℤ along) *ℤ (m *ℤ c +ℤ t) +ℤ along *ℤ (m *ℤ e +ℤ t) ≡ m *ℤ ((m -ℤ along) *ℤ c +ℤ along *ℤ e +ℤ t) = simp ring (omega (arith, linear)) in
        let none : m *ℤ pos 0 ≡ pos 0 = simp ring in
        times_cancel m (pos 0) ((m -ℤ along) *ℤ c +ℤ along *ℤ e +ℤ t) hm (omega (arith, linear, f, g, same, none))

own_is : (ax ay bx by x y n : ℤ) → (bx -ℤ ax) *ℤ (y -ℤ n *ℤ ay) +ℤ (n *ℤ ax -ℤ x) *ℤ (by -ℤ ay) ≡ (bx -ℤ ax) *ℤ (y -ℤ n *ℤ ay) -ℤ (by -ℤ ay) *ℤ (x -ℤ n *ℤ ax)
own_is ax ay bx by x y n = simp ring (omega (arith, linear))

side_by : (bx by cx cy sx sy x y n : ℤ) → (cx -ℤ bx) *ℤ (y -ℤ n *ℤ by) +ℤ (n *ℤ bx -ℤ x) *ℤ (cy -ℤ by) ≡ (cx -ℤ bx) *ℤ ((y -ℤ n *ℤ sy) +ℤ n *ℤ (sy -ℤ by)) -ℤ (cy -ℤ by) *ℤ ((x -ℤ n *ℤ sx) +ℤ n *ℤ (sx -ℤ bx))
side_by bx by cx cy sx sy x y n = simp ring (omega (arith, linear))

end_by : (bx by cx cy sx sy ex ey : ℤ) → (cx -ℤ bx) *ℤ (ey -ℤ by) -ℤ (cy -ℤ by) *ℤ (ex -ℤ bx) ≡ (cx -ℤ bx) *ℤ ((sy -ℤ by) +ℤ (ey -ℤ sy)) -ℤ (cy -ℤ by) *ℤ ((sx -ℤ bx) +ℤ (ex -ℤ sx))
end_by bx by cx cy sx sy ex ey = simp ring (omega (arith, linear))

rise_by : (dx dy bx by cx cy sx sy : ℤ) → (dx *ℤ (cx -ℤ sx) +ℤ dy *ℤ (cy -ℤ sy)) -ℤ (dx *ℤ (bx -ℤ sx) +ℤ dy *ℤ (by -ℤ sy)) ≡ dx *ℤ (cx -ℤ bx) +ℤ dy *ℤ (cy -ℤ by)
rise_by dx dy bx by cx cy sx sy = simp ring (omega (arith, linear))

reach_is : (f w v : ℕ) → pos (f * w * v) ≡ pos f *ℤ pos w *ℤ pos v
reach_is f w v = omega (arith, ints)

from_zero : (n : ℕ) → pos 0 ≤ℤ pos n
from_zero n = omega (arith, ints)

abs_squared : (w z : ℤ) → square (w *ℤ pos (unsigned_abs z)) ≡ square (w *ℤ z)
abs_squared w (pos n) = refl
abs_squared w (negsuc n) = same w (pos (unsigned_abs (negsuc n))) (negsuc n) (omega (arith, ints))
  where
    same : (w u z : ℤ) → z ≡ neg_ℤ u → square (w *ℤ u) ≡ square (w *ℤ z)
    same w u z e = rw e (simp ring (omega (arith, linear)))

module _ (a : Slant) (b c : Spot) (root : ℤ) (apart : pos 1 ≤ℤ dot_of a.start a.end a.end) (is : square root ≤ℤ (square (pos (2 * FINE)) *ℤ dot_of a.start a.end a.end)) where
  abbrev whole : ℤ
  whole = dot_of a.start a.end a.end

  -- a spot that is far enough off
  far_off : (q : Spot) → IsOff a root b c q → square (pos a.width *ℤ rise a b c) ≤ℤ (square (pos 2 *ℤ cross_of b c q) *ℤ whole)
  far_off q off =
      let h : (pos FINE *ℤ pos a.width *ℤ pos (unsigned_abs (rise a b c))) ≤ℤ (cross_of b c q *ℤ root) = rw (reach_is FINE a.width (unsigned_abs (rise a b c))) at off.1 in
      let f : square (pos a.width *ℤ pos (unsigned_abs (rise a b c))) ≤ℤ (square (pos 2 *ℤ cross_of b c q) *ℤ whole) =
      without_parts (pos FINE) (pos a.width) (pos (unsigned_abs (rise a b c))) (cross_of b c q) root whole record { le = tt } (from_zero a.width) (from_zero (unsigned_abs (rise a b c))) h is in
      rw (abs_squared (pos a.width) (rise a b c)) at f

  module _ (p : Point) (inside : InSlant a p) where
    abbrev side : ℤ
    side = side_of a.start a.end p.x p.y p.n

    enough : (q : Spot) → IsOff a root b c q → pos 0 ≤ℤ ((p.n *ℤ whole) *ℤ cross_of b c q +ℤ side *ℤ rise a b c)
    enough q off = off_by p.n (pos a.width) whole (cross_of b c q) (rise a b c) side (omega (arith, linear, p.positive)) apart off.0 inside.beside (far_off q off)

    times_side : whole *ℤ side_of b c p.x p.y p.n ≡ (p.n *ℤ whole -ℤ along_of a.start a.end p) *ℤ cross_of b c a.start +ℤ along_of a.start a.end p *ℤ cross_of b c a.end +ℤ side *ℤ rise a b c
    times_side = rw (side_by b.x b.y c.x c.y a.start.x a.start.y p.x p.y p.n, end_by b.x b.y c.x c.y a.start.x a.start.y a.end.x a.end.y, own_is a.start.x a.start.y a.end.x a.end.y p.x p.y p.n, rise_by (a.end.x -ℤ a.start.x) (a.end.y -ℤ a.start.y) b.x b.y c.x c.y a.start.x a.start.y)
        (parted (a.end.x -ℤ a.start.x) (a.end.y -ℤ a.start.y) (c.x -ℤ b.x) (c.y -ℤ b.y) (a.start.x -ℤ b.x) (a.start.y -ℤ b.y) (p.x -ℤ p.n *ℤ a.start.x) (p.y -ℤ p.n *ℤ a.start.y) p.n)

    on_left : Keeps a root b c → pos 0 ≤ℤ side_of b c p.x p.y p.n
    on_left k =
        let f : pos 0 ≤ℤ ((p.n *ℤ whole -ℤ along_of a.start a.end p) *ℤ cross_of b c a.start +ℤ along_of a.start a.end p *ℤ cross_of b c a.end +ℤ side *ℤ rise a b c) =
        between p.n whole (along_of a.start a.end p) (cross_of b c a.start) (cross_of b c a.end) side (rise a b c) p.positive apart inside.from_start inside.to_end (enough a.start k.1) (enough a.end k.2) in
        times_cancel whole (pos 0) (side_of b c p.x p.y p.n) apart (omega (arith, linear, f, times_side, times-zero whole))

pub above_holds : (a : Slant) (points : List Spot) (p : Point) → TakenAbove a points → InSlant a p → InFigure (filled points) p
above_holds a points p t inside = lies_inside points p (λ b c k. on_left a b c t.edges.root inside.apart t.edges.is p inside k) t.edges.round
