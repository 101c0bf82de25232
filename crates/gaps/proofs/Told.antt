-- What the calls read.
use Rattle.std.proofs.Common.{Bool, false, IsTrue, FitsSigned, to_z, of_z, to_z-of_z, w64, ◌≡◌, ◌↔◌, ℕ, ℤ, pos, ◌+ℤ◌, ◌-ℤ◌, ◌≤ℤ◌, suc, List, [], ◌∷◌, All, arith, sym, subst}
use Rattle.std.proofs.lemmas.Int.{ints, clamps}
use Rattle.std.specs.Int.{int_min, int_max}
use Rattle.planar.specs.declared.Frame.{Frame}
use Rattle.planar.specs.declared.Spot.{Spot}
use Rattle.planar.specs.declared.TheConstants.{METRE, TWO_METRES}
use Rattle.planar.specs.Plane.{Point, at, InCapsule, IsInFrame, IsPlaced, IsWithin, Share, dot_of, square}
use Rattle.planar.proofs.Ring.{linear, ring}
use Rattle.planar.proofs.Spots.{one_spot}
use Rattle.planar.proofs.SpotWithin.{spot_before}
use Rattle.contact.specs.declared.Bounds.{Bounds}
use Rattle.contact.specs.declared.Capsule.{Capsule}
use Rattle.contact.specs.Round.{box_of}
use Rattle.contact.specs.Solid.{InBox, IsInside, LiesIn, SharePoint}
use Rattle.contact.proofs.Rounds.{in_frame, share_spot}
use Rattle.area_contact.proofs.Ladders.{points_in_frame}
use Rattle.area_contact.specs.declared.Area.{Area}
use Rattle.area_contact.specs.Contour.{area_box, box_from, edges_from, edges_of, InArea, Reaches, SomeEdge, widened, widened_by}
use Rattle.board_shapes.specs.declared.shape.Shape.{Shape}
use Rattle.board_shapes.specs.declared.shape.Shape.TheVariants.{Round, Filled}
use Rattle.board_shapes.specs.Figures.{Figure, round, filled, figure_of, figure_box, IsLawfulFigure}
use Rattle.board_shapes.specs.Shapes.{InShape, lawful, shape_box}
use Rattle.gaps.specs.Gaps.{IsClose}
use Rattle.gaps.specs.Grown.{Grown, IsGrowth, IsSmallBox, wider_box}
use Rattle.gaps.specs.Strokes.{IsInReach, LiesInside}
use Rattle.gaps.proofs.Between.{grown_share}
use Rattle.gaps.proofs.Wider.{grown_at, grown_capsule, grown_reaches, reaches_grown}

pub reach_read : (start end a b : Spot) (r : ℤ) (t : Bool) → FitsSigned w64 r → IsTrue t ↔ Share start end (pos 0) a b (to_z w64 (of_z w64 r)) → IsTrue t ↔ Share start end (pos 0) a b r
reach_read start end a b r t f h = subst (λ (z : ℤ). IsTrue t ↔ Share start end (pos 0) a b z) (to_z-of_z f) h

follow : {P Q R : Type 0} → P ↔ Q → R ↔ Q → P ↔ R
follow e f = (λ h. f.1 (e.0 h), λ h. e.1 (f.0 h))

-- two spots share a point with a reach exactly where they are that near
spots_share : (p q : Spot) (r : ℤ) → pos 0 ≤ℤ r → Share p p (pos 0) q q r ↔ ((dot_of p q q) ≤ℤ square r)
spots_share p q r h =
    let none : dot_of p q p ≡ pos 0 = simp ring (omega (arith, linear)) in
    let back : (dot_of p q p) ≤ℤ pos 0 = omega (arith, linear, none) in
    let one : Share p p (pos 0) q q r ↔ InCapsule p p r (at q) = share_spot p p q r h in
    let two : InCapsule p p r (at q) ↔ ((dot_of p q q) ≤ℤ square r) = spot_before p p r q back in
    (λ k. two.0 (one.0 k), λ k. one.1 (two.1 k))

-- segments that have no length
pub spots_read : (a b c d : Spot) (r : ℤ) (t : Bool) → ((a.x ≡ b.x) × (a.y ≡ b.y)) × ((c.x ≡ d.x) × (c.y ≡ d.y)) → pos 0 ≤ℤ r → IsTrue t ↔ ((dot_of a c c) ≤ℤ square r) → IsTrue t ↔ Share a b (pos 0) c d r
spots_read a b c d r t e h k =
    let l : IsTrue t ↔ Share a a (pos 0) c c r = follow k (spots_share a c r h) in
    subst (λ (z : Spot). IsTrue t ↔ Share a b (pos 0) c z r) (one_spot c d e.1.0 e.1.1) (subst (λ (z : Spot). IsTrue t ↔ Share a z (pos 0) c c r) (one_spot a b e.0.0 e.0.1) l)

-- ---- the box

less_back : (l g : ℤ) → IsWithin TWO_METRES l → IsGrowth g → to_z w64 (of_z w64 (to_z w64 (of_z w64 l) -ℤ to_z w64 (of_z w64 g))) ≡ l -ℤ g
less_back l g h k = omega (arith, ints)

more_back : (l g : ℤ) → IsWithin TWO_METRES l → IsGrowth g → to_z w64 (of_z w64 (to_z w64 (of_z w64 l) +ℤ to_z w64 (of_z w64 g))) ≡ l +ℤ g
more_back l g h k = omega (arith, ints)

pub widened_read : (b : Bounds) (g : ℤ) → IsSmallBox b → IsGrowth g →
    ◌≡◌ {A = Bounds} (record { left = to_z w64 (of_z w64 (to_z w64 (of_z w64 b.left) -ℤ to_z w64 (of_z w64 g))); low = to_z w64 (of_z w64 (to_z w64 (of_z w64 b.low) -ℤ to_z w64 (of_z w64 g))); right = to_z w64 (of_z w64 (to_z w64 (of_z w64 b.right) +ℤ to_z w64 (of_z w64 g))); high = to_z w64 (of_z w64 (to_z w64 (of_z w64 b.high) +ℤ to_z w64 (of_z w64 g))) }) (wider_box b g)
widened_read b g h k = rw (less_back b.left g h.0 k, less_back b.low g h.1 k, more_back b.right g h.2 k, more_back b.high g h.3 k)

-- a box whose sides are at most one metre from 0
abbrev IsPlacedBox : Bounds → Type 0
IsPlacedBox b = IsWithin METRE b.left × IsWithin METRE b.low × IsWithin METRE b.right × IsWithin METRE b.high

rest_all : (P : Spot → Type 0) (a : Spot) (rest : List Spot) → All P (a ∷ rest) → All P rest
rest_all P a rest h k d l = h (suc k) d (omega (arith, l))

-- where the box of a contour lies in the frame, each of its corners does
pub line_in_frame : (points : List Spot) (start : Spot) (rest : List Spot) (f : Frame) → points ≡ start ∷ rest → IsInside (area_box points) f → IsInFrame f start × All (IsInFrame f) rest
line_in_frame points start rest f e h =
    let all : All (IsInFrame f) (start ∷ rest) = subst (λ (ps : List Spot). All (IsInFrame f) ps) e (points_in_frame points f h) in
    (all 0 start (omega arith), rest_all (IsInFrame f) start rest all)

widened_placed : (b : Bounds) (p : Spot) → IsPlacedBox b → IsPlaced p → IsPlacedBox (widened b p)
widened_placed b p h k = (omega (arith, ints, clamps, h, k), omega (arith, ints, clamps, h, k), omega (arith, ints, clamps, h, k), omega (arith, ints, clamps, h, k))

all_placed : (b : Bounds) (rest : List Spot) → IsPlacedBox b → All IsPlaced rest → IsPlacedBox (widened_by b rest)
all_placed b [] h k = h
all_placed b (p ∷ rest) h k = all_placed (widened b p) rest (widened_placed b p h (k 0 p (omega arith))) (rest_all IsPlaced p rest k)

figure_small : (f : Figure) → IsLawfulFigure f → IsSmallBox (figure_box f)
figure_small (round s) h = (omega (arith, ints, clamps, h), omega (arith, ints, clamps, h), omega (arith, ints, clamps, h), omega (arith, ints, clamps, h))
figure_small (filled []) h = absurd (omega (arith, h.enough))
figure_small (filled (a ∷ rest)) h =
    let p : IsPlaced a = h.placed 0 a (omega arith) in
    let b : IsPlacedBox (box_from a rest) = all_placed (record { left = a.x; low = a.y; right = a.x; high = a.y }) rest (p.0, p.1, p.0, p.1) (rest_all IsPlaced a rest h.placed) in
    (omega (arith, ints, b), omega (arith, ints, b), omega (arith, ints, b), omega (arith, ints, b))

pub shape_small : (s : Shape) (b : Bounds) → b ≡ shape_box s → IsSmallBox b
shape_small s b e = rw e (figure_small (figure_of s) (lawful s))

pub out_of_box : (P : Point → Type 0) (p : Spot) (b c : Bounds) (t : Bool) → c ≡ b → t ≡ false → IsTrue t ↔ InBox c (at p) → (P (at p) → InBox b (at p)) → IsTrue t ↔ P (at p)
out_of_box P p b c t e n k inside = (λ x. absurd (none x), λ x. k.1 (subst (λ (z : Bounds). InBox z (at p)) (sym e) (inside x)))
  where
    none : IsTrue t → ⊥
    none x = cc

-- ---- in a frame

less_in : (from low high g : ℤ) → pos 0 ≤ℤ g → LiesIn from (low -ℤ g) (high +ℤ g) → LiesIn from low high
less_in from low high g h k = omega (arith, ints, h, k)

pub box_inside : (b : Bounds) (g : ℤ) (f : Frame) → pos 0 ≤ℤ g → IsInside (wider_box b g) f → IsInside b f
box_inside b g f h k = (less_in f.left b.left b.right g h k.0, less_in f.low b.low b.high g h k.1)

pub area_inside : (s : Shape) (area : Area) (g : ℤ) (f : Frame) → s ≡ Filled area → IsGrowth g → IsInside (wider_box (shape_box s) g) f → IsInside (area_box area.points.items) f
area_inside s area g f e h k = box_inside (area_box area.points.items) g f h.0 (rw e at k)

side_same : (from a b r g : ℤ) → LiesIn from (int_min a b -ℤ r -ℤ g) (int_max a b +ℤ r +ℤ g) → LiesIn from (int_min a b -ℤ (g +ℤ r)) (int_max a b +ℤ (g +ℤ r))
side_same from a b r g k = omega (arith, ints, k)

pub own_inside : (s : Shape) (c : Capsule) (g : ℤ) (f : Frame) (a b : Spot) (r : ℤ) → s ≡ Round c → IsGrowth g → IsInside (wider_box (shape_box s) g) f → a ≡ c.a → b ≡ c.b → r ≡ g +ℤ c.r → LiesInside f a b r
own_inside s c g f a b r e h k p q o = rw (p, q, o) inner
  where
    there : IsInside (wider_box (box_of c.a c.b c.r) g) f
    there = rw e at k

    inner : LiesInside f c.a c.b (g +ℤ c.r)
    inner = record { a_placed = c.start; b_placed = c.end; from_zero = omega (arith, ints, h, c.radius); half_reach = omega (arith, ints, h, c.radius); inside = (side_same f.left c.a.x c.b.x c.r g there.0, side_same f.low c.a.y c.b.y c.r g there.1) }

pub wide_in_reach : (f : Frame) (a b : Spot) (r g : ℤ) (a' b' : Spot) (r' : ℤ) → LiesInside f a b r → IsGrowth g → a' ≡ a → b' ≡ b → r' ≡ g +ℤ r → IsInReach f a' b' r'
wide_in_reach f a b r g a' b' r' h k p q o = rw (p, q, o) inner
  where
    inner : IsInReach f a b (g +ℤ r)
    inner =
        let i : IsInFrame f a × IsInFrame f b = in_frame a b r f h.from_zero h.inside in
        record { a_placed = h.a_placed; b_placed = h.b_placed; a_in_frame = i.0; b_in_frame = i.1; radius = (omega (arith, ints, k, h.from_zero), omega (arith, ints, k, h.from_zero, h.half_reach)) }

pub rest_placed : (points : List Spot) (start : Spot) (rest : List Spot) → points ≡ start ∷ rest → All IsPlaced points → All IsPlaced rest
rest_placed points start rest e h = rest_all IsPlaced start rest (subst (λ (l : List Spot). All IsPlaced l) e h)

-- ---- the edges of a line are those of its contour

pub edges_read : (points : List Spot) (start : Spot) (rest : List Spot) (points' : List Spot) (other : Spot) (others : List Spot) (g : ℤ) (t : Bool) → points ≡ start ∷ rest → points' ≡ other ∷ others →
    IsTrue t ↔ SomeEdge (λ e. SomeEdge (Reaches e.start e.end g) (edges_from other others)) (edges_from start rest) → IsTrue t ↔ SomeEdge (λ e. SomeEdge (Reaches e.start e.end g) (edges_of points')) (edges_of points)
edges_read points start rest points' other others g t e f h = rw (e, f) h

-- ---- what the arms decide

pub round_reaches : (s : Shape) (c : Capsule) (g : ℤ) (a b : Spot) (r : ℤ) (u v : Spot) (q : ℤ) (t : Bool) → s ≡ Round c → IsGrowth g → a ≡ c.a → b ≡ c.b → r ≡ g +ℤ c.r →
    IsTrue t ↔ SharePoint (InCapsule a b r) (InCapsule u v q) → IsTrue t ↔ SharePoint (Grown (InShape s) g) (InCapsule u v q)
round_reaches s c g a b r u v q t e h k l o f = rw e (follow own wide)
  where
    own : IsTrue t ↔ SharePoint (InCapsule c.a c.b (g +ℤ c.r)) (InCapsule u v q)
    own = rw (k, l, o) at f

    wide : SharePoint (Grown (InCapsule c.a c.b c.r) g) (InCapsule u v q) ↔ SharePoint (InCapsule c.a c.b (g +ℤ c.r)) (InCapsule u v q)
    wide = (
      λ s. record { point = s.point; in_first = (grown_capsule c.a c.b c.r g s.point h.0 c.radius.0).0 s.in_first; in_second = s.in_second },
      λ s. record { point = s.point; in_first = (grown_capsule c.a c.b c.r g s.point h.0 c.radius.0).1 s.in_first; in_second = s.in_second },
    )

pub filled_reaches : (s : Shape) (area : Area) (g : ℤ) (u v : Spot) (q : ℤ) (u' v' : Spot) (q' : ℤ) (t : Bool) → s ≡ Filled area → IsGrowth g → pos 0 ≤ℤ q → u' ≡ u → v' ≡ v → q' ≡ g +ℤ q →
    IsTrue t ↔ SharePoint (InArea (edges_of area.points.items)) (InCapsule u' v' q') → IsTrue t ↔ SharePoint (Grown (InShape s) g) (InCapsule u v q)
filled_reaches s area g u v q u' v' q' t e h hq k l o f = rw e (follow own (grown_reaches (InArea (edges_of area.points.items)) u v q g h.0 hq))
  where
    own : IsTrue t ↔ SharePoint (InArea (edges_of area.points.items)) (InCapsule u v (g +ℤ q))
    own = rw (k, l, o) at f

-- the second shape is a capsule: it was tested whole
pub round_second : (P : Point → Type 0) (s : Shape) (c : Capsule) (g : ℤ) (a b : Spot) (r : ℤ) (t : Bool) → s ≡ Round c → IsGrowth g → a ≡ c.a → b ≡ c.b → r ≡ g +ℤ c.r →
    IsTrue t ↔ SharePoint P (InCapsule a b r) → IsTrue t ↔ SharePoint P (Grown (InShape s) g)
round_second P s c g a b r t e h k l o f = rw e (follow own (reaches_grown P c.a c.b c.r g h.0 c.radius.0))
  where
    own : IsTrue t ↔ SharePoint P (InCapsule c.a c.b (g +ℤ c.r))
    own = rw (k, l, o) at f

-- the first is
pub round_first : (P : Point → Type 0) (s : Shape) (c : Capsule) (g : ℤ) (a b : Spot) (r : ℤ) (t : Bool) → s ≡ Round c → IsGrowth g → a ≡ c.a → b ≡ c.b → r ≡ g +ℤ c.r →
    IsTrue t ↔ SharePoint P (InCapsule a b r) → IsTrue t ↔ SharePoint (Grown (InShape s) g) P
round_first P s c g a b r t e h k l o f =
    let n : IsTrue t ↔ SharePoint P (Grown (InShape s) g) = round_second P s c g a b r t e h k l o f in
    (λ x. turn (n.0 x), λ x. n.1 (turn x))
  where
    turn : {P Q : Point → Type 0} → SharePoint P Q → SharePoint Q P
    turn m = record { point = m.point; in_first = m.in_second; in_second = m.in_first }

pub filled_both : (s s' : Shape) (area area' : Area) (g g' w : ℤ) (t : Bool) → s ≡ Filled area → s' ≡ Filled area' → IsGrowth g → IsGrowth g' → w ≡ g +ℤ g' →
    IsTrue t ↔ IsClose (InArea (edges_of area.points.items)) (InArea (edges_of area'.points.items)) w → IsTrue t ↔ SharePoint (Grown (InShape s) g) (Grown (InShape s') g')
filled_both s s' area area' g g' w t e e' h h' o f = rw (e, e') (follow own (grown_share (InArea (edges_of area.points.items)) (InArea (edges_of area'.points.items)) g g' h.0 h'.0))
  where
    own : IsTrue t ↔ IsClose (InArea (edges_of area.points.items)) (InArea (edges_of area'.points.items)) (g +ℤ g')
    own = rw o at f

pub covers_read : (P : Point → Type 0) (p : Spot) (g : ℤ) (t : Bool) → pos 0 ≤ℤ g → IsTrue t ↔ SharePoint (Grown P g) (InCapsule p p (pos 0)) → IsTrue t ↔ Grown P g (at p)
covers_read P p g t h f = let n : SharePoint (Grown P g) (InCapsule p p (pos 0)) ↔ Grown P g (at p) = grown_at P p g h in (λ x. n.0 (f.0 x), λ x. f.1 (n.1 x))

-- ---- unsigned amounts

pub amount_read : (start : Spot) (rest : List Spot) (u v : Spot) (g : ℕ) (z : ℤ) (t : Bool) → z ≡ pos g → IsTrue t ↔ SomeEdge (Reaches u v z) (edges_from start rest) → IsTrue t ↔ SomeEdge (Reaches u v (pos g)) (edges_from start rest)
amount_read start rest u v g z t e h = subst (λ (w : ℤ). IsTrue t ↔ SomeEdge (Reaches u v w) (edges_from start rest)) e h

pub from_zero : (n : ℕ) → pos 0 ≤ℤ pos n
from_zero n = omega (arith, ints)
