-- What is taken for a fine figure with a hole lies in it, or holds it.
use Rattle.std.proofs.Common.{◌≡◌, ◌⊎◌, inl, inr, ◌↔◌, ℕ, ℤ, pos, ◌+ℤ◌, ◌-ℤ◌, ◌*ℤ◌, ◌≤ℤ◌, ◌<ℤ◌, Bool, IsTrue, FitsSigned, to_z, of_z, to_z-of_z, arith, refl, sym, subst, ap, ◌∙◌}
use Rattle.std.proofs.lemmas.Int.{ints, clamps}
use Rattle.std.specs.Int.{int_min, int_max, w64}
use Rattle.planar.specs.Plane.{InCapsule, IsPlaced, Point, square}
use Rattle.planar.specs.declared.Frame.{Frame}
use Rattle.planar.specs.declared.Spot.{Spot}
use Rattle.planar.proofs.Ring.{ring, linear, le_or_lt, over_zero, square_mono, times_cancel, times_from_zero, times_mono}
use Rattle.contact.specs.Round.{IsCapsuleRadius, box_of}
use Rattle.contact.specs.Solid.{IsInside, SharePoint}
use Rattle.board_shapes.specs.Figures.{Figure, InFigure, figure_box, figure_of, filled, round}
use Rattle.board_shapes.specs.declared.shape.Shape.{Shape}
use Rattle.arcs.specs.Copper.{reach_of}
use Rattle.arcs.proofs.Vectors.{scaled}
use Rattle.fine_figures.specs.Fine.{InFine, twice}
use Rattle.fine_figures.specs.Holes.{HoledAbove, HoledBelow, InHoled, IsClearOf, IsUpright, LiesWithin, foot, half_up, part_by}
use Rattle.fine_figures.specs.Taken.{doubled}
use Rattle.fine_figures.specs.declared.FineFigure.{FineFigure}
use Rattle.fine_figures.specs.declared.FineFigure.TheVariants.{Round, Rectangle}
use Rattle.fine_figures.specs.declared.FineStroke.{FineStroke}
use Rattle.fine_figures.specs.declared.HoledFigure.{HoledFigure}
use Rattle.fine_figures.proofs.Capsules.{thinner_lies}
use Rattle.fine_figures.proofs.Fine.{fine_above}
use Rattle.fine_figures.proofs.Rectangles.{inside_sides}

-- ---- a part of an upright stroke lies in it

-- a place between u and v, between a and b, so far along b - a
along : (n m i p a b u v : ℤ) → (m *ℤ (b -ℤ a)) *ℤ p -ℤ n *ℤ ((m *ℤ (b -ℤ a)) *ℤ a +ℤ (m *ℤ (u -ℤ a) +ℤ i *ℤ (v -ℤ u)) *ℤ (b -ℤ a)) ≡ (b -ℤ a) *ℤ (m *ℤ p -ℤ n *ℤ (m *ℤ u +ℤ i *ℤ (v -ℤ u)))
along n m i p a b u v = simp ring (omega (arith, linear))

-- across it all is as far
across : (n m i j p y l : ℤ) → (m *ℤ l) *ℤ p -ℤ n *ℤ ((m *ℤ l) *ℤ y +ℤ j *ℤ (y -ℤ y)) ≡ l *ℤ (m *ℤ p -ℤ n *ℤ (m *ℤ y +ℤ i *ℤ (y -ℤ y)))
across n m i j p y l = simp ring (omega (arith, linear))

radius : (n m l r : ℤ) → n *ℤ (m *ℤ l) *ℤ r ≡ l *ℤ (n *ℤ m *ℤ r)
radius n m l r = simp ring

from_start : (m i a u v : ℤ) → pos 0 ≤ℤ i → i ≤ℤ m → a ≤ℤ u → a ≤ℤ v → pos 0 ≤ℤ (m *ℤ (u -ℤ a) +ℤ i *ℤ (v -ℤ u))
from_start m i a u v hi him hu hv =
    let f = times_from_zero (m -ℤ i) (u -ℤ a) (omega (arith, linear, him)) (omega (arith, linear, hu)) in
    let g = times_from_zero i (v -ℤ a) hi (omega (arith, linear, hv)) in
    let e : m *ℤ (u -ℤ a) +ℤ i *ℤ (v -ℤ u) ≡ (m -ℤ i) *ℤ (u -ℤ a) +ℤ i *ℤ (v -ℤ a) = simp ring (omega (arith, linear)) in
    omega (arith, linear, f, g, e)

to_end : (m i a b u v : ℤ) → pos 0 ≤ℤ i → i ≤ℤ m → u ≤ℤ b → v ≤ℤ b → (m *ℤ (u -ℤ a) +ℤ i *ℤ (v -ℤ u)) ≤ℤ (m *ℤ (b -ℤ a))
to_end m i a b u v hi him hu hv =
    let f = times_from_zero (m -ℤ i) (b -ℤ u) (omega (arith, linear, him)) (omega (arith, linear, hu)) in
    let g = times_from_zero i (b -ℤ v) hi (omega (arith, linear, hv)) in
    let e : m *ℤ (b -ℤ a) -ℤ (m *ℤ (u -ℤ a) +ℤ i *ℤ (v -ℤ u)) ≡ (m -ℤ i) *ℤ (b -ℤ u) +ℤ i *ℤ (b -ℤ v) = simp ring (omega (arith, linear)) in
    omega (arith, linear, f, g, e)

level_part : (a b u v y r : ℤ) (p : Point) → a <ℤ b → a ≤ℤ u → u ≤ℤ b → a ≤ℤ v → v ≤ℤ b → InCapsule (record { x = u; y = y }) (record { x = v; y = y }) r p → InCapsule (record { x = a; y = y }) (record { x = b; y = y }) r p
level_part a b u v y r p less hu ku hv kv c = record {
  i = c.m *ℤ (u -ℤ a) +ℤ c.i *ℤ (v -ℤ u);
  m = c.m *ℤ (b -ℤ a);
  from_start = from_start c.m c.i a u v c.from_start c.to_end hu hv;
  to_end = to_end c.m c.i a b u v c.from_start c.to_end ku kv;
  positive = over_zero c.m (b -ℤ a) c.positive (omega (arith, linear, less));
  near = rw (along p.n c.m c.i p.x a b u v, across p.n c.m c.i (c.m *ℤ (u -ℤ a) +ℤ c.i *ℤ (v -ℤ u)) p.y y (b -ℤ a), radius p.n c.m (b -ℤ a) r)
      (scaled (b -ℤ a) (c.m *ℤ p.x -ℤ p.n *ℤ (c.m *ℤ u +ℤ c.i *ℤ (v -ℤ u))) (c.m *ℤ p.y -ℤ p.n *ℤ (c.m *ℤ y +ℤ c.i *ℤ (y -ℤ y))) (p.n *ℤ c.m *ℤ r) c.near);
}

standing_part : (a b u v x r : ℤ) (p : Point) → a <ℤ b → a ≤ℤ u → u ≤ℤ b → a ≤ℤ v → v ≤ℤ b → InCapsule (record { x = x; y = u }) (record { x = x; y = v }) r p → InCapsule (record { x = x; y = a }) (record { x = x; y = b }) r p
standing_part a b u v x r p less hu ku hv kv c = record {
  i = c.m *ℤ (u -ℤ a) +ℤ c.i *ℤ (v -ℤ u);
  m = c.m *ℤ (b -ℤ a);
  from_start = from_start c.m c.i a u v c.from_start c.to_end hu hv;
  to_end = to_end c.m c.i a b u v c.from_start c.to_end ku kv;
  positive = over_zero c.m (b -ℤ a) c.positive (omega (arith, linear, less));
  near = rw (along p.n c.m c.i p.y a b u v, across p.n c.m c.i (c.m *ℤ (u -ℤ a) +ℤ c.i *ℤ (v -ℤ u)) p.x x (b -ℤ a), radius p.n c.m (b -ℤ a) r)
      (scaled (b -ℤ a) (c.m *ℤ p.x -ℤ p.n *ℤ (c.m *ℤ x +ℤ c.i *ℤ (x -ℤ x))) (c.m *ℤ p.y -ℤ p.n *ℤ (c.m *ℤ u +ℤ c.i *ℤ (v -ℤ u))) (p.n *ℤ c.m *ℤ r) c.near);
}

-- a place that is held between two is between them
held_low : (a b z : ℤ) → a ≤ℤ int_max a (int_min z b)
held_low a b z = omega (arith, ints, clamps)

held_high : (a b z : ℤ) → a ≤ℤ b → int_max a (int_min z b) ≤ℤ b
held_high a b z h = omega (arith, ints, clamps, h)

held_one : (a z : ℤ) → int_max a (int_min z a) ≡ a
held_one a z = omega (arith, ints, clamps)

less_or_one : (a b : ℤ) → a ≤ℤ b → (a <ℤ b) ⊎ (a ≡ b)
less_or_one a b h = elim (le_or_lt b a) [ inl l ↦ inr (omega (arith, linear, h, l)) | inr g ↦ inl g ]

level_in : (ax bx y r : ℤ) (s t : Spot) (p : Point) → ax ≤ℤ bx
    → InCapsule (record { x = int_max ax (int_min s.x bx); y = int_max y (int_min s.y y) }) (record { x = int_max ax (int_min t.x bx); y = int_max y (int_min t.y y) }) r p
    → InCapsule (record { x = ax; y = y }) (record { x = bx; y = y }) r p
level_in ax bx y r s t p h c = elim (less_or_one ax bx h) [
  | inl less ↦ level_part ax bx (int_max ax (int_min s.x bx)) (int_max ax (int_min t.x bx)) y r p less (held_low ax bx s.x) (held_high ax bx s.x h) (held_low ax bx t.x) (held_high ax bx t.x h) (rw (held_one y s.y, held_one y t.y) at c)
  | inr same ↦ subst (λ (z : ℤ). InCapsule (record { x = ax; y = y }) (record { x = z; y = y }) r p) same (one same)
]
  where
    one : ax ≡ bx → InCapsule (record { x = ax; y = y }) (record { x = ax; y = y }) r p
    one same = rw (held_one y s.y, held_one y t.y, ← same, held_one ax s.x, held_one ax t.x) at c

standing_in : (x ay by r : ℤ) (s t : Spot) (p : Point) → ay ≤ℤ by
    → InCapsule (record { x = int_max x (int_min s.x x); y = int_max ay (int_min s.y by) }) (record { x = int_max x (int_min t.x x); y = int_max ay (int_min t.y by) }) r p
    → InCapsule (record { x = x; y = ay }) (record { x = x; y = by }) r p
standing_in x ay by r s t p h c = elim (less_or_one ay by h) [
  | inl less ↦ standing_part ay by (int_max ay (int_min s.y by)) (int_max ay (int_min t.y by)) x r p less (held_low ay by s.y) (held_high ay by s.y h) (held_low ay by t.y) (held_high ay by t.y h) (rw (held_one x s.x, held_one x t.x) at c)
  | inr same ↦ subst (λ (z : ℤ). InCapsule (record { x = x; y = ay }) (record { x = x; y = z }) r p) same (one same)
]
  where
    one : ay ≡ by → InCapsule (record { x = x; y = ay }) (record { x = x; y = ay }) r p
    one same = rw (held_one x s.x, held_one x t.x, ← same, held_one ay s.y, held_one ay t.y) at c

part_lies : (f : FineStroke) (s t : Spot) (r : ℤ) (p : Point) → IsUpright f → InCapsule (foot f s) (foot f t) r p → InCapsule f.a f.b r p
part_lies f s t r p (inl (h, same)) c = subst (λ (z : ℤ). InCapsule f.a (record { x = f.b.x; y = z }) r p) same (level_in f.a.x f.b.x f.a.y r s t p h (rw (← same) at c))
part_lies f s t r p (inr (same, h)) c = subst (λ (z : ℤ). InCapsule f.a (record { x = z; y = f.b.y }) r p) same (standing_in f.a.x f.a.y f.b.y r s t p h (rw (← same) at c))

lies_in : (outline : FineFigure) (bound : Figure) (p : Point) → LiesWithin outline bound → InFigure bound p → InFine outline p
lies_in (Round f) (round s) p (upright, thinner) inside = part_lies f (doubled s.a) (doubled s.b) (pos f.r) (twice p) upright (thinner_lies (part_by f s.a s.b) s.a s.b s.r p thinner inside)
lies_in (Round f) (filled points) p taken inside = absurd taken
lies_in (Rectangle sides) bound p taken inside = inside_sides sides bound p taken inside

-- ---- what is clear of the disc of the hole lies past the hole

-- a shape, told by what it is
pub of_shape : (shape x : Shape) (a b : Spot) (r : ℤ) (t : Bool) → shape ≡ x → IsTrue t ↔ SharePoint (InFigure (figure_of x)) (InCapsule a b r) → IsTrue t ↔ SharePoint (InFigure (figure_of shape)) (InCapsule a b r)
of_shape shape x a b r t is told = subst (λ (s : Shape). IsTrue t ↔ SharePoint (InFigure (figure_of s)) (InCapsule a b r)) (sym is) told

-- a disc, told by its fields
pub clear_read : (t : Bool) (frame : Frame) (c : Spot) (r : ℕ) (f : Figure) (a b : Spot) (z : ℤ) → a ≡ c → b ≡ c → z ≡ pos r → IsPlaced c → IsCapsuleRadius (pos r) → IsInside (figure_box f) frame
    → IsTrue t ↔ (IsInside (box_of a b z) frame × ¬ SharePoint (InFigure f) (InCapsule a b z)) → IsTrue t ↔ IsClearOf frame c r f
clear_read t frame c r f a b z ea eb ez placed radius inside told =
    by (subst (λ (w : ℤ). IsTrue t ↔ (IsInside (box_of c c w) frame × ¬ SharePoint (InFigure f) (InCapsule c c w))) ez
    (subst (λ (w : Spot). IsTrue t ↔ (IsInside (box_of c w z) frame × ¬ SharePoint (InFigure f) (InCapsule c w z))) eb
    (subst (λ (w : Spot). IsTrue t ↔ (IsInside (box_of w b z) frame × ¬ SharePoint (InFigure f) (InCapsule w b z))) ea told)))
  where
    by : IsTrue t ↔ (IsInside (box_of c c (pos r)) frame × ¬ SharePoint (InFigure f) (InCapsule c c (pos r))) → IsTrue t ↔ IsClearOf frame c r f
    by k = ((λ h. record { placed = placed; radius = radius; inside = inside; disc = (k.0 h).0; apart = (k.0 h).1 }), λ h. k.1 (h.disc, h.apart))

-- a place between two, as it is read
pub held_read : (a z b : ℤ) (m n : ℤ) → FitsSigned w64 a → FitsSigned w64 z → FitsSigned w64 b → m ≡ int_min (to_z w64 (of_z w64 z)) (to_z w64 (of_z w64 b)) → n ≡ int_max (to_z w64 (of_z w64 a)) (to_z w64 (of_z w64 m)) → to_z w64 (of_z w64 n) ≡ int_max a (int_min z b)
held_read a z b m n fa fz fb low high =
    let least : m ≡ int_min z b = low ∙ rw (to_z-of_z fz, to_z-of_z fb) refl in
    let fm : FitsSigned w64 m = omega (arith, ints, clamps, least, fz, fb) in
    let most : n ≡ int_max a m = high ∙ rw (to_z-of_z fa, to_z-of_z fm) refl in
    let fn : FitsSigned w64 n = omega (arith, ints, clamps, most, fa, fm) in
    to_z-of_z fn ∙ most ∙ ap (λ (w : ℤ). int_max a w) least

ahead : (n p c : ℤ) → pos 1 *ℤ p -ℤ n *ℤ (pos 1 *ℤ c +ℤ pos 0 *ℤ (c -ℤ c)) ≡ p -ℤ n *ℤ c
ahead n p c = simp ring (omega (arith, linear))

in_disc : (c : Spot) (r : ℤ) (p : Point) → reach_of c p ≤ℤ square (p.n *ℤ r) → InCapsule c c r p
in_disc c r p h = record {
  i = pos 0;
  m = pos 1;
  from_start = omega (arith, ints);
  to_end = omega (arith, ints);
  positive = omega (arith, ints);
  near = rw (ahead p.n p.x c.x, ahead p.n p.y c.y, one p.n r) h;
}
  where
    one : (n r : ℤ) → n *ℤ pos 1 *ℤ r ≡ n *ℤ r
    one n r = simp ring

-- 4 times a reach that is below the square of the hole is at most that of twice the radius
reached : (n d r reach : ℤ) → pos 1 ≤ℤ n → pos 0 ≤ℤ d → d ≤ℤ (pos 2 *ℤ r) → (pos 4 *ℤ reach) <ℤ square (n *ℤ d) → reach ≤ℤ square (n *ℤ r)
reached n d r reach some from most h =
    let f : square (n *ℤ d) ≤ℤ square (n *ℤ (pos 2 *ℤ r)) = square_mono (n *ℤ d) (n *ℤ (pos 2 *ℤ r)) (times_from_zero n d (omega (arith, linear, some)) from) (times_mono n d (pos 2 *ℤ r) (omega (arith, linear, some)) most) in
    let e : square (n *ℤ (pos 2 *ℤ r)) ≡ pos 4 *ℤ square (n *ℤ r) = simp ring (omega (arith, linear)) in
    times_cancel (pos 4) reach (square (n *ℤ r)) record { le = tt } (omega (arith, linear, f, e, h))

most_of : (d : ℕ) → pos d ≤ℤ (pos 2 *ℤ pos (half_up d))
most_of d = omega (arith, ints)

past_hole : (frame : Frame) (c : Spot) (d : ℕ) (f : Figure) (p : Point) → IsClearOf frame c (half_up d) f → InFigure f p → square (p.n *ℤ pos d) ≤ℤ (pos 4 *ℤ reach_of c p)
past_hole frame c d f p clear inside = elim (le_or_lt (square (p.n *ℤ pos d)) (pos 4 *ℤ reach_of c p)) [
  | inl l ↦ l
  | inr g ↦ absurd (clear.apart record { point = p; in_first = inside; in_second = in_disc c (pos (half_up d)) p (reached p.n (pos d) (pos (half_up d)) (reach_of c p) p.positive (omega (arith, ints)) (most_of d) g) })
]

pub holed_below : (h : HoledFigure) (frame : Frame) (bound : Figure) (p : Point) → HoledBelow frame h bound → InFigure bound p → InHoled h p
holed_below h frame bound p (lies, clear) inside = record { inside = lies_in h.outline bound p lies inside; past = past_hole frame h.centre h.hole bound p clear inside }

pub holed_above : (h : HoledFigure) (bound : Figure) (p : Point) → HoledAbove h bound → InHoled h p → InFigure bound p
holed_above h bound p taken inside = fine_above h.outline bound p taken inside.inside
