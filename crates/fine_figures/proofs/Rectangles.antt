-- What lies between sides, and rectangles around them.
use Rattle.std.proofs.Common.{◌≡◌, inl, inr, ℤ, pos, ◌+ℤ◌, ◌-ℤ◌, ◌*ℤ◌, ◌≤ℤ◌, ◌<ℤ◌, [], ◌∷◌, List, arith, refl, subst, sym}
use Rattle.planar.specs.declared.Spot.{Spot}
use Rattle.planar.specs.Plane.{Point}
use Rattle.planar.proofs.Ring.{ring, linear, over_zero, times_cancel, times_from_zero, times_mono}
use Rattle.planar.proofs.EdgeLaw.{not_lt, not_le, is_lt, is_le}
use Rattle.contact.specs.Solid.{InBox}
use Rattle.contact.specs.declared.Bounds.{Bounds}
use Rattle.area_contact.specs.Contour.{edges_of, InArea}
use Rattle.area_contact.specs.Parity.{side_of}
use Rattle.board_shapes.specs.Figures.{Figure, InFigure, figure_box}
use Rattle.board_shapes.specs.Rectangles.{rectangle}
use Rattle.board_shapes.specs.Shapes.{boxed_figure}
use Rattle.slants.specs.Rounds.{GoesOnce}
use Rattle.slants.proofs.Inside.{lies_left}
use Rattle.fine_figures.specs.Fine.{twice}
use Rattle.fine_figures.specs.Taken.{HoldSides, IsRectangleAround, IsInSides}

-- ---- between sides

swapped : (n a : ℤ) → n *ℤ (pos 2 *ℤ a) ≡ pos 2 *ℤ (n *ℤ a)
swapped n a = simp ring

over_twice : (n low a x : ℤ) → pos 1 ≤ℤ n → low ≤ℤ (pos 2 *ℤ a) → (n *ℤ a) ≤ℤ x → (n *ℤ low) ≤ℤ (pos 2 *ℤ x)
over_twice n low a x some h k =
    let f : (n *ℤ low) ≤ℤ (n *ℤ (pos 2 *ℤ a)) = times_mono n low (pos 2 *ℤ a) (omega (arith, linear, some)) h in
    let g : (pos 2 *ℤ (n *ℤ a)) ≤ℤ (pos 2 *ℤ x) = times_mono (pos 2) (n *ℤ a) x record { le = tt } k in
    omega (arith, linear, f, g, swapped n a)

under_twice : (n high a x : ℤ) → pos 1 ≤ℤ n → (pos 2 *ℤ a) ≤ℤ high → x ≤ℤ (n *ℤ a) → (pos 2 *ℤ x) ≤ℤ (n *ℤ high)
under_twice n high a x some h k =
    let f : (n *ℤ (pos 2 *ℤ a)) ≤ℤ (n *ℤ high) = times_mono n (pos 2 *ℤ a) high (omega (arith, linear, some)) h in
    let g : (pos 2 *ℤ x) ≤ℤ (pos 2 *ℤ (n *ℤ a)) = times_mono (pos 2) x (n *ℤ a) record { le = tt } k in
    omega (arith, linear, f, g, swapped n a)

pub inside_sides : (sides : Bounds) (f : Figure) (p : Point) → IsInSides sides f → InFigure f p → InBox sides (twice p)
inside_sides sides f p h k =
    let b : InBox (figure_box f) p = boxed_figure f p h.lawful k in
    record {
      not_left = over_twice p.n sides.left (figure_box f).left p.x p.positive h.between.not_left b.not_left;
      not_right = under_twice p.n sides.right (figure_box f).right p.x p.positive h.between.not_right b.not_right;
      not_below = over_twice p.n sides.low (figure_box f).low p.y p.positive h.between.not_below b.not_below;
      not_above = under_twice p.n sides.high (figure_box f).high p.y p.positive h.between.not_above b.not_above;
    }

-- ---- around sides

over_half : (n low a x : ℤ) → pos 1 ≤ℤ n → (pos 2 *ℤ a) ≤ℤ low → (n *ℤ low) ≤ℤ (pos 2 *ℤ x) → (n *ℤ a) ≤ℤ x
over_half n low a x some h k =
    let f : (n *ℤ (pos 2 *ℤ a)) ≤ℤ (n *ℤ low) = times_mono n (pos 2 *ℤ a) low (omega (arith, linear, some)) h in
    times_cancel (pos 2) (n *ℤ a) x record { le = tt } (omega (arith, linear, f, k, swapped n a))

under_half : (n high a x : ℤ) → pos 1 ≤ℤ n → high ≤ℤ (pos 2 *ℤ a) → (pos 2 *ℤ x) ≤ℤ (n *ℤ high) → x ≤ℤ (n *ℤ a)
under_half n high a x some h k =
    let f : (n *ℤ high) ≤ℤ (n *ℤ (pos 2 *ℤ a)) = times_mono n high (pos 2 *ℤ a) (omega (arith, linear, some)) h in
    times_cancel (pos 2) x (n *ℤ a) record { le = tt } (omega (arith, linear, f, k, swapped n a))

-- the sides of a rectangle from (u, w) to (v, z), and its first turn
low_side : (u v w x y n : ℤ) → (v -ℤ u) *ℤ (y -ℤ n *ℤ w) +ℤ (n *ℤ u -ℤ x) *ℤ (w -ℤ w) ≡ (v -ℤ u) *ℤ (y -ℤ n *ℤ w)
low_side u v w x y n = simp ring (omega (arith, linear))

right_side : (v w z x y n : ℤ) → (v -ℤ v) *ℤ (y -ℤ n *ℤ w) +ℤ (n *ℤ v -ℤ x) *ℤ (z -ℤ w) ≡ (n *ℤ v -ℤ x) *ℤ (z -ℤ w)
right_side v w z x y n = simp ring (omega (arith, linear))

high_side : (u v z x y n : ℤ) → (u -ℤ v) *ℤ (y -ℤ n *ℤ z) +ℤ (n *ℤ v -ℤ x) *ℤ (z -ℤ z) ≡ (v -ℤ u) *ℤ (n *ℤ z -ℤ y)
high_side u v z x y n = simp ring (omega (arith, linear))

left_side : (u w z x y n : ℤ) → (u -ℤ u) *ℤ (y -ℤ n *ℤ z) +ℤ (n *ℤ u -ℤ x) *ℤ (w -ℤ z) ≡ (x -ℤ n *ℤ u) *ℤ (z -ℤ w)
left_side u w z x y n = simp ring (omega (arith, linear))

first_turn : (u v w z : ℤ) → (v -ℤ u) *ℤ (z -ℤ w) -ℤ (w -ℤ w) *ℤ (v -ℤ u) ≡ (v -ℤ u) *ℤ (z -ℤ w)
first_turn u v w z = simp ring (omega (arith, linear))

module _ (u w v z : ℤ) (wide : u <ℤ v) (high : w <ℤ z) where
  abbrev lower : Spot
  lower = record { x = u; y = w }

  abbrev right : Spot
  right = record { x = v; y = w }

  abbrev upper : Spot
  upper = record { x = v; y = z }

  abbrev left : Spot
  left = record { x = u; y = z }

  once : GoesOnce lower (right ∷ upper ∷ left ∷ lower ∷ [])
  once = record {
    once = inr (rw (
      not_lt w w (omega (arith, linear)),
      is_lt w z high,
      not_lt z z (omega (arith, linear)),
      is_le z z (omega (arith, linear)),
      not_lt z w (omega (arith, linear, high)),
      not_le z w high,
    ) (omega arith));
    wide = λ all. omega (arith, linear, all.1.0, first_turn u v w z, over_zero (v -ℤ u) (z -ℤ w) (omega (arith, linear, wide)) (omega (arith, linear, high)));
  }

  boxed_lies : (p : Point) → InBox (record { left = u; low = w; right = v; high = z }) p → InArea (edges_of (rectangle lower upper)) p
  boxed_lies p b = lies_left (rectangle lower upper) p (refl, once, inl (low, (beside, (top, (before, tt)))))
    where
      across : pos 0 ≤ℤ (v -ℤ u)
      across = omega (arith, linear, wide)

      up : pos 0 ≤ℤ (z -ℤ w)
      up = omega (arith, linear, high)

      low : pos 0 ≤ℤ side_of lower right p.x p.y p.n
      low = rw (low_side u v w p.x p.y p.n) (times_from_zero (v -ℤ u) (p.y -ℤ p.n *ℤ w) across (omega (arith, linear, b.not_below)))

      beside : pos 0 ≤ℤ side_of right upper p.x p.y p.n
      beside = rw (right_side v w z p.x p.y p.n) (times_from_zero (p.n *ℤ v -ℤ p.x) (z -ℤ w) (omega (arith, linear, b.not_right)) up)

      top : pos 0 ≤ℤ side_of upper left p.x p.y p.n
      top = rw (high_side u v z p.x p.y p.n) (times_from_zero (v -ℤ u) (p.n *ℤ z -ℤ p.y) across (omega (arith, linear, b.not_above)))

      before : pos 0 ≤ℤ side_of left lower p.x p.y p.n
      before = rw (left_side u w z p.x p.y p.n) (times_from_zero (p.x -ℤ p.n *ℤ u) (z -ℤ w) (omega (arith, linear, b.not_left)) up)

held : (lower upper : Spot) (sides : Bounds) (p : Point) → HoldSides lower upper sides → InBox sides (twice p) → InArea (edges_of (rectangle lower upper)) p
held lower upper sides p h b = boxed_lies lower.x lower.y upper.x upper.y h.wide h.high p record {
  not_left = over_half p.n sides.left lower.x p.x p.positive h.not_left b.not_left;
  not_right = under_half p.n sides.right upper.x p.x p.positive h.not_right b.not_right;
  not_below = over_half p.n sides.low lower.y p.y p.positive h.not_below b.not_below;
  not_above = under_half p.n sides.high upper.y p.y p.positive h.not_above b.not_above;
}

pub around_sides : (sides : Bounds) (points : List Spot) (p : Point) → IsRectangleAround sides points → InBox sides (twice p) → InArea (edges_of points) p
around_sides sides points p h b = subst (λ (ps : List Spot). InArea (edges_of ps) p) (sym h.are) (held h.lower h.upper sides p h.hold b)
