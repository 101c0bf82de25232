-- What is taken for a polygon about each corner of a square bounds it wherever its middle lies there.
use Rattle.std.proofs.Common.{◌≡◌, ℕ, ◌+◌, ◌*◌, ◌/◌, ◌<◌, inl, inr, ℤ, pos, neg_ℤ, ◌+ℤ◌, ◌-ℤ◌, ◌*ℤ◌, ◌≤ℤ◌, List, [], ◌∷◌, All, arith, refl, sym, subst, ◌∙◌}
use Rattle.std.proofs.lemmas.Int.{ints}
use Rattle.std.proofs.lemmas.List.Elements.{All-head, All-tail}
use Rattle.planar.specs.Plane.{Point, square}
use Rattle.planar.specs.declared.Spot.{Spot}
use Rattle.planar.proofs.Ring.{ring, linear, times_cancel, times_from_zero, times-zero, one-times}
use Rattle.area_contact.specs.Parity.{side_of}
use Rattle.board_shapes.specs.Figures.{InFigure, filled}
use Rattle.slants.specs.Cones.{cosine, sine, turns_by}
use Rattle.slants.specs.Laws.{DiscsAreBetween, IsNear, NearIsBetween, PolygonIsBetween, PolygonsHaveCopper}
use Rattle.slants.specs.Polygons.{HasCorners, HaveCorners, IsBeside, PolygonBelow, PossiblyInPolygon, SurelyInPolygon, direction_of, edge_end, edge_start, inner_of, quartered, reach_of, turns_to}
use Rattle.slants.specs.Turned.{IsBetween, IsTurn, lean_of, meet_of}
use Rattle.slants.specs.declared.cones.TheConstants.{RIGHT_ANGLE}
use Rattle.slants.specs.declared.polygons.RegularPolygon.{RegularPolygon}
use Rattle.slants.specs.declared.turns.Heading.{Heading}
use Rattle.slants.specs.declared.turns.Turn.{Turn}
use Rattle.turned_outlines.proofs.Frames.{comes_near}
use Rattle.turned_polygons.specs.Copper.{PossiblyIn, SurelyIn, middle_at, moved_back, turns_of}
use Rattle.turned_polygons.specs.Laws.{TurnedPolygonIsBetween, TurnedPolygonsHaveCopper}
use Rattle.turned_polygons.specs.Taken.{StaysNear, TurnedPolygonAbove, TurnedPolygonBelow, about_corners, about_spot, around, far_of, near_of}
use Rattle.turned_polygons.specs.declared.TurnedPolygon.{TurnedPolygon}
use Rattle.turned_polygons.proofs.Squares.{IsEnd, in_line, in_square, within}

-- ---- what is so of each of four is so at each corner

at_corners : (P : RegularPolygon → Type 0) (g : RegularPolygon) (s : Spot) (f : ℤ) → All P (about_corners g s f) → (x y : ℤ) → IsEnd f x → IsEnd f y → P (about_spot g s x y)
at_corners P g s f all x y first last = by x y first last
  where
    rest : All P (about_spot g s f (neg_ℤ f) ∷ about_spot g s f f ∷ about_spot g s (neg_ℤ f) f ∷ [])
    rest = All-tail P (about_spot g s (neg_ℤ f) (neg_ℤ f)) (about_spot g s f (neg_ℤ f) ∷ about_spot g s f f ∷ about_spot g s (neg_ℤ f) f ∷ []) all

    last_two : All P (about_spot g s f f ∷ about_spot g s (neg_ℤ f) f ∷ [])
    last_two = All-tail P (about_spot g s f (neg_ℤ f)) (about_spot g s f f ∷ about_spot g s (neg_ℤ f) f ∷ []) rest

    last_one : All P (about_spot g s (neg_ℤ f) f ∷ [])
    last_one = All-tail P (about_spot g s f f) (about_spot g s (neg_ℤ f) f ∷ []) last_two

    by : (x y : ℤ) → IsEnd f x → IsEnd f y → P (about_spot g s x y)
    by x y (inl e) (inl h) = rw (e, h) (All-head P (about_spot g s f f) (about_spot g s (neg_ℤ f) f ∷ []) last_two)
    by x y (inl e) (inr h) = rw (e, h) (All-head P (about_spot g s f (neg_ℤ f)) (about_spot g s f f ∷ about_spot g s (neg_ℤ f) f ∷ []) rest)
    by x y (inr e) (inl h) = rw (e, h) (All-head P (about_spot g s (neg_ℤ f) f) [] last_one)
    by x y (inr e) (inr h) = rw (e, h) (All-head P (about_spot g s (neg_ℤ f) (neg_ℤ f)) (about_spot g s f (neg_ℤ f) ∷ about_spot g s f f ∷ about_spot g s (neg_ℤ f) f ∷ []) all)

-- the same turns about another spot
between_as : (a b : Spot) (angle : ℕ) (t : Turn) → IsBetween (turns_by a angle) t → IsBetween (turns_by b angle) t
between_as a b angle t k = record { some = k.some; i = k.i; j = k.j; k = k.k; positive = k.positive; from_first = k.from_first; from_last = k.from_last; across = k.across; up = k.up }

-- ---- the middle stays in the square

-- how far it comes from the spot, times n
abbrev off_x : (a : TurnedPolygon) (t : Turn) → IsTurn t → ℤ
off_x a t some = (middle_at a t some).x -ℤ (meet_of t t).n *ℤ (near_of a).x

abbrev off_y : (a : TurnedPolygon) (t : Turn) → IsTurn t → ℤ
off_y a t some = (middle_at a t some).y -ℤ (meet_of t t).n *ℤ (near_of a).y

record IsIn (a : TurnedPolygon) (t : Turn) (some : IsTurn t) : Type 0 where
  right : off_x a t some ≤ℤ ((meet_of t t).n *ℤ pos (far_of a))
  left : neg_ℤ (off_x a t some) ≤ℤ ((meet_of t t).n *ℤ pos (far_of a))
  over : off_y a t some ≤ℤ ((meet_of t t).n *ℤ pos (far_of a))
  under : neg_ℤ (off_y a t some) ≤ℤ ((meet_of t t).n *ℤ pos (far_of a))

is_in : DiscsAreBetween → (a : TurnedPolygon) → StaysNear a → (t : Turn) → (k : IsBetween (turns_of a) t) → IsIn a t k.some
is_in law a near t k =
    let h : (square (off_x a t k.some) +ℤ square (off_y a t k.some)) ≤ℤ square ((meet_of t t).n *ℤ pos (far_of a)) = comes_near law a.about a.angle (far_of a) t k.some k a.polygon.centre (near_of a) near in
    let some : pos 0 ≤ℤ ((meet_of t t).n *ℤ pos (far_of a)) = times_from_zero (meet_of t t).n (pos (far_of a)) (omega (arith, linear, k.some)) (omega (arith, ints)) in
    let x = within (off_x a t k.some) (off_y a t k.some) ((meet_of t t).n *ℤ pos (far_of a)) some h in
    let y = within (off_y a t k.some) (off_x a t k.some) ((meet_of t t).n *ℤ pos (far_of a)) some (omega (arith, linear, h)) in
    record { right = x.0; left = x.1; over = y.0; under = y.1 }

-- ---- the side of an edge, by where the middle is

-- so much by how far the point is from the middle across and up, and by itself
abbrev slope_x : ℤ → ℤ → ℤ → ℤ → ℤ
slope_x ex ey dx dy = neg_ℤ (ex *ℤ dy +ℤ ey *ℤ dx)

abbrev slope_y : ℤ → ℤ → ℤ → ℤ → ℤ
slope_y ex ey dx dy = ex *ℤ dx -ℤ ey *ℤ dy

abbrev still : ℤ → ℤ → ℤ → ℤ → ℤ → ℤ
still ex ey qx qy dn = dn *ℤ (qx *ℤ ey -ℤ ex *ℤ qy)

side_is : (ex ey qx qy dx dy dn n X Y : ℤ) → ex *ℤ ((dx *ℤ Y -ℤ dy *ℤ X) -ℤ (dn *ℤ n) *ℤ qy) +ℤ ((dn *ℤ n) *ℤ qx -ℤ (dx *ℤ X +ℤ dy *ℤ Y)) *ℤ ey ≡ (slope_x ex ey dx dy *ℤ X +ℤ slope_y ex ey dx dy *ℤ Y) +ℤ n *ℤ still ex ey qx qy dn
side_is ex ey qx qy dx dy dn n X Y = simp ring (omega (arith, linear))

-- the place turned back, from a spot of the polygon
from_x : (dx dy dn n cx qx X Y : ℤ) → (dn *ℤ n) *ℤ (cx +ℤ qx) -ℤ (dn *ℤ (n *ℤ cx) +ℤ (dx *ℤ X +ℤ dy *ℤ Y)) ≡ (dn *ℤ n) *ℤ qx -ℤ (dx *ℤ X +ℤ dy *ℤ Y)
from_x dx dy dn n cx qx X Y = simp ring (omega (arith, linear))

from_y : (dx dy dn n cy qy X Y : ℤ) → (dn *ℤ (n *ℤ cy) +ℤ (dx *ℤ Y -ℤ dy *ℤ X)) -ℤ (dn *ℤ n) *ℤ (cy +ℤ qy) ≡ (dx *ℤ Y -ℤ dy *ℤ X) -ℤ (dn *ℤ n) *ℤ qy
from_y dx dy dn n cy qy X Y = simp ring (omega (arith, linear))

apart : (c r q : ℤ) → (c +ℤ r) -ℤ (c +ℤ q) ≡ r -ℤ q
apart c r q = omega (arith, linear)

-- of a polygon about (cx, cy) and a point (px/n, py/n)
edge_side : (dx dy dn n px py cx cy qx qy rx ry : ℤ) → side_of (record { x = cx +ℤ qx; y = cy +ℤ qy }) (record { x = cx +ℤ rx; y = cy +ℤ ry })
    (dn *ℤ (n *ℤ cx) +ℤ (dx *ℤ (px -ℤ n *ℤ cx) +ℤ dy *ℤ (py -ℤ n *ℤ cy))) (dn *ℤ (n *ℤ cy) +ℤ (dx *ℤ (py -ℤ n *ℤ cy) -ℤ dy *ℤ (px -ℤ n *ℤ cx))) (dn *ℤ n)
    ≡ (slope_x (rx -ℤ qx) (ry -ℤ qy) dx dy *ℤ (px -ℤ n *ℤ cx) +ℤ slope_y (rx -ℤ qx) (ry -ℤ qy) dx dy *ℤ (py -ℤ n *ℤ cy)) +ℤ n *ℤ still (rx -ℤ qx) (ry -ℤ qy) qx qy dn
edge_side dx dy dn n px py cx cy qx qy rx ry =
    rw (apart cx rx qx, apart cy ry qy, from_x dx dy dn n cx qx (px -ℤ n *ℤ cx) (py -ℤ n *ℤ cy), from_y dx dy dn n cy qy (px -ℤ n *ℤ cx) (py -ℤ n *ℤ cy))
    (side_is (rx -ℤ qx) (ry -ℤ qy) qx qy dx dy dn n (px -ℤ n *ℤ cx) (py -ℤ n *ℤ cy))

-- about a corner of the square, by what it is about the middle
at_corner : (a b w n px py sx sy x y : ℤ) → (a *ℤ (px -ℤ n *ℤ (sx +ℤ x)) +ℤ b *ℤ (py -ℤ n *ℤ (sy +ℤ y))) +ℤ n *ℤ w ≡ ((a *ℤ (px -ℤ n *ℤ sx) +ℤ b *ℤ (py -ℤ n *ℤ sy)) +ℤ n *ℤ w) -ℤ n *ℤ (a *ℤ x +ℤ b *ℤ y)
at_corner a b w n px py sx sy x y = simp ring (omega (arith, linear))

-- and about the turned middle, of the point that is moved back
at_middle : (a b w n px py sx sy m zx zy mx my : ℤ) → (a *ℤ ((m *ℤ px +ℤ n *ℤ (m *ℤ zx -ℤ mx)) -ℤ (m *ℤ n) *ℤ zx) +ℤ b *ℤ ((m *ℤ py +ℤ n *ℤ (m *ℤ zy -ℤ my)) -ℤ (m *ℤ n) *ℤ zy)) +ℤ (m *ℤ n) *ℤ w
    ≡ m *ℤ ((a *ℤ (px -ℤ n *ℤ sx) +ℤ b *ℤ (py -ℤ n *ℤ sy)) +ℤ n *ℤ w) -ℤ n *ℤ (a *ℤ (mx -ℤ m *ℤ sx) +ℤ b *ℤ (my -ℤ m *ℤ sy))
at_middle a b w n px py sx sy m zx zy mx my = simp ring (omega (arith, linear))

-- ---- below

-- what is turned by the right angles in a direction of the polygon
abbrev set_out : RegularPolygon → ℕ → Spot → Spot
set_out g h p = quartered (direction_of g h / RIGHT_ANGLE) p

-- what surely lies in the polygon about each corner of the square does so about the middle
module _ (law : DiscsAreBetween) (a : TurnedPolygon) (p : Point) (near : StaysNear a) (each : (x y : ℤ) → IsEnd (pos (far_of a)) x → IsEnd (pos (far_of a)) y → SurelyInPolygon (about_spot a.polygon (near_of a) x y) p) (t : Turn) (k : IsBetween (turns_of a) t) where
  module _ (j : ℕ) (v : Turn) (below : j < a.polygon.corners) (between : IsBetween (turns_to a.polygon (2 * j + 1)) v) where
    abbrev first : Spot
    first = set_out a.polygon (2 * j + 1) (record { x = pos (inner_of a.polygon); y = pos 0 })

    abbrev last : Spot
    last = set_out a.polygon (2 * j + 1) (record { x = pos (inner_of a.polygon); y = pos 1 })

    abbrev across : ℤ
    across = slope_x (last.x -ℤ first.x) (last.y -ℤ first.y) (meet_of v v).x (meet_of v v).y

    abbrev up : ℤ
    up = slope_y (last.x -ℤ first.x) (last.y -ℤ first.y) (meet_of v v).x (meet_of v v).y

    abbrev alone : ℤ
    alone = still (last.x -ℤ first.x) (last.y -ℤ first.y) first.x first.y (meet_of v v).n

    abbrev whole : ℤ
    whole = (across *ℤ (p.x -ℤ p.n *ℤ (near_of a).x) +ℤ up *ℤ (p.y -ℤ p.n *ℤ (near_of a).y)) +ℤ p.n *ℤ alone

    corner : (x y : ℤ) → IsEnd (pos (far_of a)) x → IsEnd (pos (far_of a)) y → pos 0 ≤ℤ (whole -ℤ p.n *ℤ (across *ℤ x +ℤ up *ℤ y))
    corner x y hx hy =
        let h : IsBeside (turns_to (about_spot a.polygon (near_of a) x y) (2 * j + 1)) v (edge_start (about_spot a.polygon (near_of a) x y) j) (edge_end (about_spot a.polygon (near_of a) x y) j) p
        = each x y hx hy j v below (between_as a.polygon.centre (record { x = (near_of a).x +ℤ x; y = (near_of a).y +ℤ y }) _ v between) in
        subst (λ (z : ℤ). pos 0 ≤ℤ z)
        (edge_side (meet_of v v).x (meet_of v v).y (meet_of v v).n p.n p.x p.y ((near_of a).x +ℤ x) ((near_of a).y +ℤ y) first.x first.y last.x last.y
        ∙ at_corner across up alone p.n p.x p.y (near_of a).x (near_of a).y x y) h.left

    inside : pos 0 ≤ℤ ((meet_of t t).n *ℤ whole -ℤ p.n *ℤ (across *ℤ off_x a t k.some +ℤ up *ℤ off_y a t k.some))
    inside =
        let s = is_in law a near t k in
        in_square across up whole p.n (meet_of t t).n (pos (far_of a)) (off_x a t k.some) (off_y a t k.some) (omega (arith, linear, p.positive)) (omega (arith, linear, k.some)) corner s.right s.left s.over s.under

    beside : IsBeside (turns_to a.polygon (2 * j + 1)) v (edge_start a.polygon j) (edge_end a.polygon j) (moved_back a t k.some p)
    beside = record {
      some = between.some;
      left =
          subst (λ (z : ℤ). pos 0 ≤ℤ z)
          (sym (
          edge_side (meet_of v v).x (meet_of v v).y (meet_of v v).n (moved_back a t k.some p).n (moved_back a t k.some p).x (moved_back a t k.some p).y a.polygon.centre.x a.polygon.centre.y first.x first.y last.x last.y
          ∙ at_middle across up alone p.n p.x p.y (near_of a).x (near_of a).y (meet_of t t).n a.polygon.centre.x a.polygon.centre.y (middle_at a t k.some).x (middle_at a t k.some).y)) inside;
    }

  surely : SurelyInPolygon a.polygon (moved_back a t k.some p)
  surely j v below between = beside j v below between

lies : DiscsAreBetween → PolygonIsBetween → (a : TurnedPolygon) (points : List Spot) (p : Point) → TurnedPolygonBelow a points → InFigure (filled points) p → SurelyIn a p
lies law held a points p h inside = λ t k. surely law a p h.near each t k
  where
    each : (x y : ℤ) → IsEnd (pos (far_of a)) x → IsEnd (pos (far_of a)) y → SurelyInPolygon (about_spot a.polygon (near_of a) x y) p
    each x y hx hy = held.0 (about_spot a.polygon (near_of a) x y) points p (at_corners (λ g. PolygonBelow g points) a.polygon (near_of a) (pos (far_of a)) h.below x y hx hy) inside

-- ---- above

gap : (v z b c : ℤ) → ((c -ℤ v) +ℤ z) -ℤ ((b -ℤ v) +ℤ z) ≡ c -ℤ b
gap v z b c = omega (arith, linear)

before : (v z b : ℤ) → z -ℤ ((b -ℤ v) +ℤ z) ≡ v -ℤ b
before v z b = omega (arith, linear)

further : (v z w b : ℤ) → (z +ℤ w) -ℤ ((b -ℤ v) +ℤ z) ≡ (v +ℤ w) -ℤ b
further v z w b = omega (arith, linear)

-- the spot that lies from z as b does from v
abbrev carried : Spot → Spot → Spot → Spot
carried v z b = record { x = (b.x -ℤ v.x) +ℤ z.x; y = (b.y -ℤ v.y) +ℤ z.y }

-- how far a spot that is turned about v is on the left of a line, of all that are carried to z
leans_same : (v z b c w : Spot) (one other : Turn) (d : Heading) →
    lean_of (record { first = one; last = other; from = z; to = z }) (carried v z b) (carried v z c) d (record { x = z.x +ℤ w.x; y = z.y +ℤ w.y })
    ≡ lean_of (record { first = one; last = other; from = v; to = v }) b c d (record { x = v.x +ℤ w.x; y = v.y +ℤ w.y })
leans_same v z b c w one other d = rw (gap v.x z.x b.x c.x, gap v.y z.y b.y c.y, before v.x z.x b.x, before v.y z.y b.y, further v.x z.x w.x b.x, further v.y z.y w.y b.y) refl

-- the side of a line that is carried so, of a point that is moved back
carried_side : (ex ey n px py bx by sx sy x y m zx zy mx my : ℤ) → ex *ℤ ((m *ℤ py +ℤ n *ℤ (m *ℤ zy -ℤ my)) -ℤ (m *ℤ n) *ℤ ((by -ℤ (sy +ℤ y)) +ℤ zy)) +ℤ ((m *ℤ n) *ℤ ((bx -ℤ (sx +ℤ x)) +ℤ zx) -ℤ (m *ℤ px +ℤ n *ℤ (m *ℤ zx -ℤ mx))) *ℤ ey
    ≡ m *ℤ (ex *ℤ (py -ℤ n *ℤ by) +ℤ (n *ℤ bx -ℤ px) *ℤ ey) +ℤ n *ℤ (ex *ℤ (m *ℤ y -ℤ (my -ℤ m *ℤ sy)) -ℤ ey *ℤ (m *ℤ x -ℤ (mx -ℤ m *ℤ sx)))
carried_side ex ey n px py bx by sx sy x y m zx zy mx my = simp ring (omega (arith, linear))

module _ (law : DiscsAreBetween) (a : TurnedPolygon) (p : Point) (near : StaysNear a) (t : Turn) (k : IsBetween (turns_of a) t) (possible : PossiblyInPolygon a.polygon (moved_back a t k.some p)) (b c : Spot) (all : HaveCorners (around a) b c) where
  abbrev spot : ℤ → ℤ → Spot
  spot x y = record { x = (near_of a).x +ℤ x; y = (near_of a).y +ℤ y }

  -- the line, carried from the corner of the square to the middle before its turn, has the corners on its left
  corners : (x y : ℤ) → IsEnd (pos (far_of a)) x → IsEnd (pos (far_of a)) y → HasCorners a.polygon (carried (spot x y) a.polygon.centre b) (carried (spot x y) a.polygon.centre c)
  corners x y hx hy j v below between =
      let h = at_corners (λ g. HasCorners g b c) a.polygon (near_of a) (pos (far_of a)) all x y hx hy j v below (between_as a.polygon.centre (spot x y) _ v between) in
      subst (λ (z : ℤ). pos 0 ≤ℤ z) (sym (leans_same (spot x y) a.polygon.centre b c (set_out a.polygon (2 * j) (record { x = pos (reach_of a.polygon); y = pos 0 })) (turns_to a.polygon (2 * j)).first (turns_to a.polygon (2 * j)).last (meet_of v v))) h

  line : (x y : ℤ) → IsEnd (pos (far_of a)) x → IsEnd (pos (far_of a)) y → pos 0 ≤ℤ ((meet_of t t).n *ℤ side_of b c p.x p.y p.n +ℤ p.n *ℤ ((c.x -ℤ b.x) *ℤ ((meet_of t t).n *ℤ y -ℤ off_y a t k.some) -ℤ (c.y -ℤ b.y) *ℤ ((meet_of t t).n *ℤ x -ℤ off_x a t k.some)))
  line x y hx hy =
      let v = spot x y in
      let z = a.polygon.centre in
      let q = moved_back a t k.some p in
      let h : pos 0 ≤ℤ side_of (carried v z b) (carried v z c) q.x q.y q.n = possible (carried v z b) (carried v z c) (corners x y hx hy) in
      let e : side_of (carried v z b) (carried v z c) q.x q.y q.n ≡ (c.x -ℤ b.x) *ℤ (q.y -ℤ q.n *ℤ (carried v z b).y) +ℤ (q.n *ℤ (carried v z b).x -ℤ q.x) *ℤ (c.y -ℤ b.y) = rw (gap v.x z.x b.x c.x, gap v.y z.y b.y c.y) refl in
      subst (λ (z : ℤ). pos 0 ≤ℤ z) (e ∙ carried_side (c.x -ℤ b.x) (c.y -ℤ b.y) p.n p.x p.y b.x b.y (near_of a).x (near_of a).y x y (meet_of t t).n z.x z.y (middle_at a t k.some).x (middle_at a t k.some).y) h

  left : pos 0 ≤ℤ side_of b c p.x p.y p.n
  left =
      let s = is_in law a near t k in
      let h : pos 0 ≤ℤ ((meet_of t t).n *ℤ side_of b c p.x p.y p.n) = in_line (c.x -ℤ b.x) (c.y -ℤ b.y) (side_of b c p.x p.y p.n) p.n (meet_of t t).n (pos (far_of a)) (off_x a t k.some) (off_y a t k.some) (omega (arith, linear, p.positive)) line s.right s.left s.over s.under in
      times_cancel (meet_of t t).n (pos 0) (side_of b c p.x p.y p.n) k.some (rw (times-zero (meet_of t t).n) h)

holds : DiscsAreBetween → PolygonIsBetween → (a : TurnedPolygon) (points : List Spot) (p : Point) → TurnedPolygonAbove a points → PossiblyIn a p → InFigure (filled points) p
holds law held a points p h (t, k, possible) = held.1 (around a) points p h.above (λ b c all. left law a p h.near t k possible b c all)

pub is_between : DiscsAreBetween → PolygonIsBetween → TurnedPolygonIsBetween
is_between law held a points p = (lies law held a points p, holds law held a points p)

-- ---- there is a copper

pub have_copper : NearIsBetween → PolygonsHaveCopper → TurnedPolygonsHaveCopper
have_copper law held a p acute regular sure = (t, k, held a.polygon (moved_back a t k.some p) regular (sure t k))
  where
    t : Turn
    t = record { x = pos (cosine a.angle); y = pos (sine a.angle) }

    is_near : IsNear a.angle (pos 1) t
    is_near = record {
      some = record { le = tt };
      up = omega (arith, ints);
      x_from = rw (one-times (pos (cosine a.angle) -ℤ pos 1)) (omega (arith, ints));
      x_to = rw (one-times (pos (cosine a.angle) +ℤ pos 1)) (omega (arith, ints));
      y_from = rw (one-times (pos (sine a.angle) -ℤ pos 1)) (omega (arith, ints));
      y_to = rw (one-times (pos (sine a.angle) +ℤ pos 1)) (omega (arith, ints));
    }

    k : IsBetween (turns_of a) t
    k = law a.about a.angle (pos 1) t acute is_near
