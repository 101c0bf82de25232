-- A line back, and a level line.
use Rattle.std.proofs.Common.{◌≡◌, ◌↔◌, inl, inr, ℕ, ◌+◌, ◌≤◌, ℤ, pos, neg_ℤ, ◌+ℤ◌, ◌-ℤ◌, ◌*ℤ◌, ◌≤ℤ◌, [], ◌∷◌, arith, refl, sym, subst, ◌∙◌}
use Rattle.std.proofs.lemmas.Int.{ints}
use Rattle.planar.specs.declared.Spot.{Spot}
use Rattle.planar.specs.Plane.{Point, at, dot_of, square}
use Rattle.planar.proofs.Ring.{ring, linear, times_from_zero, times_mono, times_cancel, square_cancel, over_zero, square-neg, mul-neg, mul-add_left, mul-add_right, one-times, times-zero}
use Rattle.planar.proofs.EdgeLaw.{not_lt, not_le, is_lt, is_le}
use Rattle.board_shapes.specs.Figures.{InFigure, filled}
use Rattle.area_contact.specs.Parity.{side_of}
use Rattle.board_shapes.specs.Rectangles.{rectangle}
use Rattle.slants.specs.Copper.{InSlant}
use Rattle.slants.specs.Laws.{LevelIsRectangle, OtherWayIsSame}
use Rattle.slants.specs.Rounds.{GoesOnce}
use Rattle.slants.specs.declared.Slant.{Slant}
use Rattle.slants.proofs.Corners.{corners_lie, square_between}
use Rattle.slants.proofs.Inside.{lies_left}

-- ---- back

same_length : (sx sy ex ey : ℤ) → (sx -ℤ ex) *ℤ (sx -ℤ ex) +ℤ (sy -ℤ ey) *ℤ (sy -ℤ ey) ≡ (ex -ℤ sx) *ℤ (ex -ℤ sx) +ℤ (ey -ℤ sy) *ℤ (ey -ℤ sy)
same_length sx sy ex ey = simp ring (omega (arith, linear))

along_back : (sx sy ex ey x y n : ℤ) → (sx -ℤ ex) *ℤ (x -ℤ n *ℤ ex) +ℤ (sy -ℤ ey) *ℤ (y -ℤ n *ℤ ey) ≡ n *ℤ ((ex -ℤ sx) *ℤ (ex -ℤ sx) +ℤ (ey -ℤ sy) *ℤ (ey -ℤ sy)) -ℤ ((ex -ℤ sx) *ℤ (x -ℤ n *ℤ sx) +ℤ (ey -ℤ sy) *ℤ (y -ℤ n *ℤ sy))
along_back sx sy ex ey x y n = simp ring (omega (arith, linear))

side_back : (sx sy ex ey x y n : ℤ) → pos 2 *ℤ ((sx -ℤ ex) *ℤ (y -ℤ n *ℤ ey) +ℤ (n *ℤ ex -ℤ x) *ℤ (sy -ℤ ey)) ≡ neg_ℤ (pos 2 *ℤ ((ex -ℤ sx) *ℤ (y -ℤ n *ℤ sy) +ℤ (n *ℤ sx -ℤ x) *ℤ (ey -ℤ sy)))
side_back sx sy ex ey x y n = simp ring (omega (arith, linear))

pub other_way_is_same : OtherWayIsSame
other_way_is_same a p h =
    let length : dot_of a.end a.start a.start ≡ dot_of a.start a.end a.end = same_length a.start.x a.start.y a.end.x a.end.y in
    let along : _ = along_back a.start.x a.start.y a.end.x a.end.y p.x p.y p.n in
    let side : _ = side_back a.start.x a.start.y a.end.x a.end.y p.x p.y p.n in
    record {
      apart = rw length h.apart;
      from_start = omega (arith, linear, along, h.to_end);
      to_end = rw length (omega (arith, linear, along, h.from_start));
      beside = rw (length, side) (rw (square-neg (pos 2 *ℤ ((a.end.x -ℤ a.start.x) *ℤ (p.y -ℤ p.n *ℤ a.start.y) +ℤ (p.n *ℤ a.start.x -ℤ p.x) *ℤ (a.end.y -ℤ a.start.y)))) h.beside);
    }

-- ---- level: the line from (u, w) to (v, w), half the width is h

flat_length : (u v w : ℤ) → (v -ℤ u) *ℤ (v -ℤ u) +ℤ (w -ℤ w) *ℤ (w -ℤ w) ≡ square (v -ℤ u)
flat_length u v w = simp ring (omega (arith, linear))

flat_along : (u v w x y n : ℤ) → (v -ℤ u) *ℤ (x -ℤ n *ℤ u) +ℤ (w -ℤ w) *ℤ (y -ℤ n *ℤ w) ≡ (v -ℤ u) *ℤ (x -ℤ n *ℤ u)
flat_along u v w x y n = simp ring (omega (arith, linear))

flat_side : (u v w x y n : ℤ) → pos 2 *ℤ ((v -ℤ u) *ℤ (y -ℤ n *ℤ w) +ℤ (n *ℤ u -ℤ x) *ℤ (w -ℤ w)) ≡ (v -ℤ u) *ℤ (pos 2 *ℤ (y -ℤ n *ℤ w))
flat_side u v w x y n = simp ring (omega (arith, linear))

flat_end : (u v n : ℤ) → n *ℤ square (v -ℤ u) ≡ (v -ℤ u) *ℤ (n *ℤ v -ℤ n *ℤ u)
flat_end u v n = simp ring (omega (arith, linear))

flat_width : (n k l : ℤ) → square (n *ℤ k) *ℤ square l ≡ square (l *ℤ (n *ℤ k))
flat_width n k l = simp ring

double : (z : ℤ) → pos 2 *ℤ z ≡ z +ℤ z
double z = mul-add_left (pos 1) (pos 1) z ∙ rw (one-times z) refl

twice_height : (n h : ℤ) → n *ℤ (h +ℤ h) ≡ pos 2 *ℤ (n *ℤ h)
twice_height n h = mul-add_right n h h ∙ sym (double (n *ℤ h))

-- the turns of the rectangle, and a point's sides of its edges
turn_b : (u v w h : ℤ) → (v -ℤ u) *ℤ ((w +ℤ h) -ℤ (w -ℤ h)) -ℤ ((w -ℤ h) -ℤ (w -ℤ h)) *ℤ (v -ℤ u) ≡ (v -ℤ u) *ℤ (h +ℤ h)
turn_b u v w h = simp ring (omega (arith, linear))

side_b : (u v w h x y n : ℤ) → (v -ℤ u) *ℤ (y -ℤ n *ℤ (w -ℤ h)) +ℤ (n *ℤ u -ℤ x) *ℤ ((w -ℤ h) -ℤ (w -ℤ h)) ≡ (v -ℤ u) *ℤ (y -ℤ (n *ℤ w -ℤ n *ℤ h))
side_b u v w h x y n = simp ring (omega (arith, linear))

side_c : (v w h x y n : ℤ) → (v -ℤ v) *ℤ (y -ℤ n *ℤ (w -ℤ h)) +ℤ (n *ℤ v -ℤ x) *ℤ ((w +ℤ h) -ℤ (w -ℤ h)) ≡ (n *ℤ v -ℤ x) *ℤ (h +ℤ h)
side_c v w h x y n = simp ring (omega (arith, linear))

side_d : (u v w h x y n : ℤ) → (u -ℤ v) *ℤ (y -ℤ n *ℤ (w +ℤ h)) +ℤ (n *ℤ v -ℤ x) *ℤ ((w +ℤ h) -ℤ (w +ℤ h)) ≡ (v -ℤ u) *ℤ ((n *ℤ w +ℤ n *ℤ h) -ℤ y)
side_d u v w h x y n = simp ring (omega (arith, linear))

side_e : (u w h x y n : ℤ) → (u -ℤ u) *ℤ (y -ℤ n *ℤ (w +ℤ h)) +ℤ (n *ℤ u -ℤ x) *ℤ ((w -ℤ h) -ℤ (w +ℤ h)) ≡ (x -ℤ n *ℤ u) *ℤ (h +ℤ h)
side_e u w h x y n = simp ring (omega (arith, linear))

-- the point is in the box
record IsBoxed (u v w h x y n : ℤ) : Type 0 where
  not_left : (n *ℤ u) ≤ℤ x
  not_right : x ≤ℤ (n *ℤ v)
  not_below : (n *ℤ w -ℤ n *ℤ h) ≤ℤ y
  not_above : y ≤ℤ (n *ℤ w +ℤ n *ℤ h)

module _ (s : Spot) (v : ℤ) (h k : ℕ) (right : pos 1 ≤ℤ (v -ℤ s.x)) (width : k ≡ h + h) where
  abbrev line : Slant
  line = record { start = s; end = record { x = v; y = s.y }; width = k }

  abbrev l : ℤ
  l = v -ℤ s.x

  from : pos 0 ≤ℤ l
  from = omega (arith, linear, right)

  wide : (n : ℤ) → n *ℤ pos k ≡ pos 2 *ℤ (n *ℤ pos h)
  wide n = rw width (twice_height n (pos h))

  box_out : (p : Point) → InSlant line p → IsBoxed s.x v s.y (pos h) p.x p.y p.n
  box_out p q = record {
    not_left = omega (arith, linear, times_cancel l (pos 0) (p.x -ℤ p.n *ℤ s.x) right (omega (arith, linear, times-zero l, flat_along s.x v s.y p.x p.y p.n, q.from_start)));
    not_right = omega (arith, linear, times_cancel l (p.x -ℤ p.n *ℤ s.x) (p.n *ℤ v -ℤ p.n *ℤ s.x) right (omega (arith, linear, flat_along s.x v s.y p.x p.y p.n, flat_end s.x v p.n, rw (flat_length s.x v s.y) at q.to_end)));
    not_below = omega (arith, linear, times_cancel l (neg_ℤ (pos 2 *ℤ off)) (p.n *ℤ pos k) right (omega (arith, linear, mul-neg l (pos 2 *ℤ off), square_cancel (neg_ℤ (l *ℤ (pos 2 *ℤ off))) (l *ℤ (p.n *ℤ pos k)) room (rw (square-neg (l *ℤ (pos 2 *ℤ off))) squared))), wide p.n, double off, double (p.n *ℤ pos h));
    not_above = omega (arith, linear, times_cancel l (pos 2 *ℤ off) (p.n *ℤ pos k) right (square_cancel (l *ℤ (pos 2 *ℤ off)) (l *ℤ (p.n *ℤ pos k)) room squared), wide p.n, double off, double (p.n *ℤ pos h));
  }
    where
      off : ℤ
      off = p.y -ℤ p.n *ℤ s.y

      squared : square (l *ℤ (pos 2 *ℤ off)) ≤ℤ square (l *ℤ (p.n *ℤ pos k))
      squared = rw (← (flat_side s.x v s.y p.x p.y p.n), ← (flat_width p.n (pos k) l), ← (flat_length s.x v s.y)) q.beside

      room : pos 0 ≤ℤ (l *ℤ (p.n *ℤ pos k))
      room = times_from_zero l (p.n *ℤ pos k) from (times_from_zero p.n (pos k) (omega (arith, linear, p.positive)) (omega (arith, ints)))

  box_in : (p : Point) → IsBoxed s.x v s.y (pos h) p.x p.y p.n → InSlant line p
  box_in p b = record {
    apart = rw (flat_length s.x v s.y) (over_zero l l right right);
    from_start = rw (flat_along s.x v s.y p.x p.y p.n) (times_from_zero l (p.x -ℤ p.n *ℤ s.x) from (omega (arith, linear, b.not_left)));
    to_end = rw (flat_along s.x v s.y p.x p.y p.n, flat_length s.x v s.y, flat_end s.x v p.n) (times_mono l (p.x -ℤ p.n *ℤ s.x) (p.n *ℤ v -ℤ p.n *ℤ s.x) from (omega (arith, linear, b.not_right)));
    beside = rw (flat_side s.x v s.y p.x p.y p.n, flat_length s.x v s.y, flat_width p.n (pos k) l) (square_between (l *ℤ (pos 2 *ℤ off)) (l *ℤ (p.n *ℤ pos k)) one other);
  }
    where
      off : ℤ
      off = p.y -ℤ p.n *ℤ s.y

      one : (l *ℤ (pos 2 *ℤ off)) ≤ℤ (l *ℤ (p.n *ℤ pos k))
      one = times_mono l (pos 2 *ℤ off) (p.n *ℤ pos k) from (omega (arith, linear, wide p.n, double off, double (p.n *ℤ pos h), b.not_above))

      other : neg_ℤ (l *ℤ (pos 2 *ℤ off)) ≤ℤ (l *ℤ (p.n *ℤ pos k))
      other = omega (arith, linear, mul-neg l (pos 2 *ℤ off), times_mono l (neg_ℤ (pos 2 *ℤ off)) (p.n *ℤ pos k) from (omega (arith, linear, wide p.n, double off, double (p.n *ℤ pos h), b.not_below)))

  -- ---- the rectangle

  abbrev b : Spot
  b = record { x = s.x; y = s.y -ℤ pos h }

  abbrev c : Spot
  c = record { x = v; y = s.y -ℤ pos h }

  abbrev d : Spot
  d = record { x = v; y = s.y +ℤ pos h }

  abbrev e : Spot
  e = record { x = s.x; y = s.y +ℤ pos h }

  -- a corner at one of the heights
  corner_in : (x y : ℤ) → s.x ≤ℤ x → x ≤ℤ v → (s.y -ℤ pos h) ≤ℤ y → y ≤ℤ (s.y +ℤ pos h) → InSlant line (at record { x = x; y = y })
  corner_in x y f g i j = box_in (at record { x = x; y = y }) record {
    not_left = omega (arith, linear, one-times s.x, f);
    not_right = omega (arith, linear, one-times v, g);
    not_below = omega (arith, linear, one-times s.y, one-times (pos h), i);
    not_above = omega (arith, linear, one-times s.y, one-times (pos h), j);
  }

  rectangle_in : (p : Point) → InFigure (filled (rectangle b d)) p → InSlant line p
  rectangle_in p = corners_lie line (rectangle b d) p refl (left_low, (right_low, (right_high, (left_high, (left_low, tt)))))
    where
      left_low : InSlant line (at b)
      left_low = corner_in s.x (s.y -ℤ pos h) (omega (arith, linear)) (omega (arith, linear, right)) (omega (arith, linear)) (omega (arith, ints))

      right_low : InSlant line (at c)
      right_low = corner_in v (s.y -ℤ pos h) (omega (arith, linear, right)) (omega (arith, linear)) (omega (arith, linear)) (omega (arith, ints))

      right_high : InSlant line (at d)
      right_high = corner_in v (s.y +ℤ pos h) (omega (arith, linear, right)) (omega (arith, linear)) (omega (arith, ints)) (omega (arith, linear))

      left_high : InSlant line (at e)
      left_high = corner_in s.x (s.y +ℤ pos h) (omega (arith, linear)) (omega (arith, linear, right)) (omega (arith, ints)) (omega (arith, linear))

  module _ (some : 1 ≤ h) where
    round : pos 1 ≤ℤ (l *ℤ (pos h +ℤ pos h))
    round = over_zero l (pos h +ℤ pos h) right (omega (arith, ints))

    once : GoesOnce b (c ∷ d ∷ e ∷ b ∷ [])
    once = record {
      once = inr (rw (
        not_lt (s.y -ℤ pos h) (s.y -ℤ pos h) (omega (arith, linear)),
        is_lt (s.y -ℤ pos h) (s.y +ℤ pos h) (omega (arith, ints, some)),
        not_lt (s.y +ℤ pos h) (s.y +ℤ pos h) (omega (arith, linear)),
        is_le (s.y +ℤ pos h) (s.y +ℤ pos h) (omega (arith, linear)),
        not_lt (s.y +ℤ pos h) (s.y -ℤ pos h) (omega (arith, ints)),
        not_le (s.y +ℤ pos h) (s.y -ℤ pos h) (omega (arith, ints, some)),
      ) (omega arith));
      wide = λ all. omega (arith, linear, all.1.0, round, turn_b s.x v s.y (pos h));
    }

    slant_in : (p : Point) → InSlant line p → InFigure (filled (rectangle b d)) p
    slant_in p q = lies_left (rectangle b d) p (refl, once, inl (low, (right_side, (top, (left_side, tt)))))
      where
        boxed : IsBoxed s.x v s.y (pos h) p.x p.y p.n
        boxed = box_out p q

        low : pos 0 ≤ℤ side_of b c p.x p.y p.n
        low = rw (side_b s.x v s.y (pos h) p.x p.y p.n) (times_from_zero l (p.y -ℤ (p.n *ℤ s.y -ℤ p.n *ℤ pos h)) from (omega (arith, linear, boxed.not_below)))

        right_side : pos 0 ≤ℤ side_of c d p.x p.y p.n
        right_side = rw (side_c v s.y (pos h) p.x p.y p.n) (times_from_zero (p.n *ℤ v -ℤ p.x) (pos h +ℤ pos h) (omega (arith, linear, boxed.not_right)) (omega (arith, ints)))

        top : pos 0 ≤ℤ side_of d e p.x p.y p.n
        top = rw (side_d s.x v s.y (pos h) p.x p.y p.n) (times_from_zero l ((p.n *ℤ s.y +ℤ p.n *ℤ pos h) -ℤ p.y) from (omega (arith, linear, boxed.not_above)))

        left_side : pos 0 ≤ℤ side_of e b p.x p.y p.n
        left_side = rw (side_e s.x s.y (pos h) p.x p.y p.n) (times_from_zero (p.x -ℤ p.n *ℤ s.x) (pos h +ℤ pos h) (omega (arith, linear, boxed.not_left)) (omega (arith, ints)))

pub level_is_rectangle : LevelIsRectangle
level_is_rectangle a h p right level width some =
    let past : pos 1 ≤ℤ (a.end.x -ℤ a.start.x) = omega (arith, linear, right) in
    subst (λ (y : ℤ). InSlant (record { start = a.start; end = record { x = a.end.x; y = y }; width = a.width }) p ↔ InFigure (filled (rectangle (record { x = a.start.x; y = a.start.y -ℤ pos h }) (record { x = a.end.x; y = a.start.y +ℤ pos h }))) p) (sym level)
    (slant_in a.start a.end.x h a.width past width some p, rectangle_in a.start a.end.x h a.width past width p)
