-- What the copper of a regular polygon says of its directions: it is there where they follow each other.
use Rattle.std.proofs.Common.{◌≡◌, Bool, true, false, cond, ℕ, ◌+◌, ◌*◌, ◌/◌, ◌%◌, ◌==◌, ◌<◌, ℤ, pos, neg_ℤ, ◌+ℤ◌, ◌-ℤ◌, ◌*ℤ◌, ◌≤ℤ◌, arith}
use Rattle.planar.specs.declared.Spot.{Spot}
use Rattle.planar.specs.Plane.{Point, cross_of}
use Rattle.planar.proofs.Ring.{ring, linear}
use Rattle.area_contact.specs.Parity.{side_of}
use Rattle.slants.specs.Polygons.{HasCorners, IsPolygon, PossiblyInPolygon, SurelyInPolygon, direction_of, inner_of, quartered, reach_of, turns_to}
use Rattle.slants.specs.Turned.{IsBetween, meet_of}
use Rattle.slants.specs.declared.cones.TheConstants.{RIGHT_ANGLE}
use Rattle.slants.specs.declared.polygons.RegularPolygon.{RegularPolygon}
use Rattle.slants.specs.declared.turns.Heading.{Heading}
use Rattle.slants.specs.declared.turns.Turn.{Turn}
use Rattle.slants.proofs.Spokes.{GoRound, Held, all_round}

-- ---- what lies so from the middle, turned there by right angles

abbrev out : ℤ → ℤ → Spot → Spot
out ox oy q = record { x = ox +ℤ q.x; y = oy +ℤ q.y }

abbrev picked : Bool → Bool → Bool → Spot → Spot
picked a b c p = cond a p (cond b (record { x = neg_ℤ p.y; y = p.x }) (cond c (record { x = neg_ℤ p.x; y = neg_ℤ p.y }) (record { x = p.y; y = neg_ℤ p.x })))

module _ (ox oy r vx vy dx dy dn n : ℤ) where
  abbrev back_x : ℤ
  back_x = dn *ℤ (n *ℤ ox) +ℤ (dx *ℤ vx +ℤ dy *ℤ vy)

  abbrev back_y : ℤ
  back_y = dn *ℤ (n *ℤ oy) +ℤ (dx *ℤ vy -ℤ dy *ℤ vx)

  -- the edge so far out has the point, turned back, on its left
  side_0 : side_of (out ox oy (record { x = r; y = pos 0 })) (out ox oy (record { x = r; y = pos 1 })) back_x back_y (dn *ℤ n) ≡ dn *ℤ (n *ℤ r) -ℤ (dx *ℤ vx +ℤ dy *ℤ vy)
  side_0 = simp ring (omega (arith, linear))

  side_1 : side_of (out ox oy (record { x = neg_ℤ (pos 0); y = r })) (out ox oy (record { x = neg_ℤ (pos 1); y = r })) back_x back_y (dn *ℤ n) ≡ dn *ℤ (n *ℤ r) -ℤ (neg_ℤ dy *ℤ vx +ℤ dx *ℤ vy)
  side_1 = simp ring (omega (arith, linear))

  side_2 : side_of (out ox oy (record { x = neg_ℤ r; y = neg_ℤ (pos 0) })) (out ox oy (record { x = neg_ℤ r; y = neg_ℤ (pos 1) })) back_x back_y (dn *ℤ n) ≡ dn *ℤ (n *ℤ r) -ℤ (neg_ℤ dx *ℤ vx +ℤ neg_ℤ dy *ℤ vy)
  side_2 = simp ring (omega (arith, linear))

  side_3 : side_of (out ox oy (record { x = pos 0; y = neg_ℤ r })) (out ox oy (record { x = pos 1; y = neg_ℤ r })) back_x back_y (dn *ℤ n) ≡ dn *ℤ (n *ℤ r) -ℤ (dy *ℤ vx +ℤ neg_ℤ dx *ℤ vy)
  side_3 = simp ring (omega (arith, linear))

  side_by : (a b c : Bool) → side_of (out ox oy (picked a b c (record { x = r; y = pos 0 }))) (out ox oy (picked a b c (record { x = r; y = pos 1 }))) back_x back_y (dn *ℤ n)
      ≡ dn *ℤ (n *ℤ r) -ℤ ((picked a b c (record { x = dx; y = dy })).x *ℤ vx +ℤ (picked a b c (record { x = dx; y = dy })).y *ℤ vy)
  side_by true b c = side_0
  side_by false true c = side_1
  side_by false false true = side_2
  side_by false false false = side_3

  side_is : (k : ℕ) → side_of (out ox oy (quartered k (record { x = r; y = pos 0 }))) (out ox oy (quartered k (record { x = r; y = pos 1 }))) back_x back_y (dn *ℤ n)
      ≡ dn *ℤ (n *ℤ r) -ℤ ((quartered k (record { x = dx; y = dy })).x *ℤ vx +ℤ (quartered k (record { x = dx; y = dy })).y *ℤ vy)
  unfolding quartered
  side_is k = side_by (k % 4 == 0) (k % 4 == 1) (k % 4 == 2)

module _ (ox oy r bx by ex ey dx dy dn : ℤ) where
  abbrev crossing : Spot → ℤ
  crossing q = ex *ℤ (q.y -ℤ by) -ℤ ey *ℤ (q.x -ℤ bx)

  abbrev dotting : Spot → ℤ
  dotting q = ex *ℤ (q.x -ℤ bx) +ℤ ey *ℤ (q.y -ℤ by)

  abbrev leaning : Spot → ℤ
  leaning q = crossing (record { x = ox; y = oy }) *ℤ dn +ℤ (crossing q -ℤ crossing (record { x = ox; y = oy })) *ℤ dx +ℤ (dotting q -ℤ dotting (record { x = ox; y = oy })) *ℤ dy

  -- the corner so far out, turned, is on the left of the line
  lean_0 : leaning (out ox oy (record { x = r; y = pos 0 })) ≡ dn *ℤ crossing (record { x = ox; y = oy }) -ℤ r *ℤ (ey *ℤ dx +ℤ neg_ℤ ex *ℤ dy)
  lean_0 = simp ring (omega (arith, linear))

  lean_1 : leaning (out ox oy (record { x = neg_ℤ (pos 0); y = r })) ≡ dn *ℤ crossing (record { x = ox; y = oy }) -ℤ r *ℤ (ey *ℤ neg_ℤ dy +ℤ neg_ℤ ex *ℤ dx)
  lean_1 = simp ring (omega (arith, linear))

  lean_2 : leaning (out ox oy (record { x = neg_ℤ r; y = neg_ℤ (pos 0) })) ≡ dn *ℤ crossing (record { x = ox; y = oy }) -ℤ r *ℤ (ey *ℤ neg_ℤ dx +ℤ neg_ℤ ex *ℤ neg_ℤ dy)
  lean_2 = simp ring (omega (arith, linear))

  lean_3 : leaning (out ox oy (record { x = pos 0; y = neg_ℤ r })) ≡ dn *ℤ crossing (record { x = ox; y = oy }) -ℤ r *ℤ (ey *ℤ dy +ℤ neg_ℤ ex *ℤ neg_ℤ dx)
  lean_3 = simp ring (omega (arith, linear))

  lean_by : (a b c : Bool) → leaning (out ox oy (picked a b c (record { x = r; y = pos 0 })))
      ≡ dn *ℤ crossing (record { x = ox; y = oy }) -ℤ r *ℤ (ey *ℤ (picked a b c (record { x = dx; y = dy })).x +ℤ neg_ℤ ex *ℤ (picked a b c (record { x = dx; y = dy })).y)
  lean_by true b c = lean_0
  lean_by false true c = lean_1
  lean_by false false true = lean_2
  lean_by false false false = lean_3

  lean_is : (k : ℕ) → leaning (out ox oy (quartered k (record { x = r; y = pos 0 })))
      ≡ dn *ℤ crossing (record { x = ox; y = oy }) -ℤ r *ℤ (ey *ℤ (quartered k (record { x = dx; y = dy })).x +ℤ neg_ℤ ex *ℤ (quartered k (record { x = dx; y = dy })).y)
  unfolding quartered
  lean_is k = lean_by (k % 4 == 0) (k % 4 == 1) (k % 4 == 2)

-- ---- the copper

-- the direction of a way, turned on by so many right angles
unfoldable pub set_out : ℕ → Turn → Heading
set_out k t = record {
  x = (quartered k (record { x = (meet_of t t).x; y = (meet_of t t).y })).x;
  y = (quartered k (record { x = (meet_of t t).x; y = (meet_of t t).y })).y;
  n = (meet_of t t).n;
}

-- of a way for each
abbrev pub spoke : RegularPolygon → (ℕ → Turn) → ℕ → Heading
spoke g w h = set_out (direction_of g h / RIGHT_ANGLE) (w (direction_of g h % RIGHT_ANGLE))

side_out : (ex ey bx by ox oy x y n : ℤ) → ex *ℤ (y -ℤ n *ℤ by) +ℤ (n *ℤ bx -ℤ x) *ℤ ey ≡ n *ℤ (ex *ℤ (oy -ℤ by) -ℤ ey *ℤ (ox -ℤ bx)) -ℤ (ey *ℤ (x -ℤ n *ℤ ox) +ℤ neg_ℤ ex *ℤ (y -ℤ n *ℤ oy))
side_out ex ey bx by ox oy x y n = simp ring (omega (arith, linear))

module _ (g : RegularPolygon) (w : ℕ → Turn) (between : (h : ℕ) → IsBetween (turns_to g h) (w (direction_of g h % RIGHT_ANGLE))) (p : Point) (surely : SurelyInPolygon g p) (b c : Spot) (corners : HasCorners g b c) where
  abbrev vx : ℤ
  vx = p.x -ℤ p.n *ℤ g.centre.x

  abbrev vy : ℤ
  vy = p.y -ℤ p.n *ℤ g.centre.y

  abbrev ex : ℤ
  ex = c.x -ℤ b.x

  abbrev ey : ℤ
  ey = c.y -ℤ b.y

  under_edge : (k : ℕ) → k < g.corners → ((spoke g w (2 * k + 1)).x *ℤ vx +ℤ (spoke g w (2 * k + 1)).y *ℤ vy) ≤ℤ ((spoke g w (2 * k + 1)).n *ℤ (p.n *ℤ pos (inner_of g)))
  unfolding set_out
  under_edge k below =
      let t : Turn = w (direction_of g (2 * k + 1) % RIGHT_ANGLE) in
      let l = (surely k t below (between (2 * k + 1))).left in
      omega (arith, linear, l, side_is g.centre.x g.centre.y (pos (inner_of g)) vx vy (meet_of t t).x (meet_of t t).y (meet_of t t).n p.n (direction_of g (2 * k + 1) / RIGHT_ANGLE))

  under_line : (k : ℕ) → k < g.corners → (pos (reach_of g) *ℤ (ey *ℤ (spoke g w (2 * k)).x +ℤ neg_ℤ ex *ℤ (spoke g w (2 * k)).y)) ≤ℤ ((spoke g w (2 * k)).n *ℤ cross_of b c g.centre)
  unfolding set_out
  under_line k below =
      let t : Turn = w (direction_of g (2 * k) % RIGHT_ANGLE) in
      let l = corners k t below (between (2 * k)) in
      omega (arith, linear, l, lean_is g.centre.x g.centre.y (pos (reach_of g)) b.x b.y ex ey (meet_of t t).x (meet_of t t).y (meet_of t t).n (direction_of g (2 * k) / RIGHT_ANGLE))

  some : (k : ℕ) → k < g.corners → pos 1 ≤ℤ (spoke g w (2 * k)).n
  unfolding set_out
  some k below = (between (2 * k)).some

  beside : IsPolygon g → GoRound g.corners (inner_of g) (reach_of g) (spoke g w) → pos 0 ≤ℤ side_of b c p.x p.y p.n
  beside regular turn =
      let held : Held g.corners (inner_of g) (reach_of g) (spoke g w) ey (neg_ℤ ex) vx vy p.n (cross_of b c g.centre) = record { from_zero = omega (arith, linear, p.positive); some = some; edges = under_edge; out = under_line } in
      let l = all_round g.corners (inner_of g) (reach_of g) (spoke g w) ey (neg_ℤ ex) vx vy p.n (cross_of b c g.centre) held turn regular.enough in
      omega (arith, linear, l, side_out ex ey b.x b.y g.centre.x g.centre.y p.x p.y p.n)

pub copper_by : (g : RegularPolygon) (w : ℕ → Turn) (p : Point) → ((h : ℕ) → IsBetween (turns_to g h) (w (direction_of g h % RIGHT_ANGLE))) → IsPolygon g → GoRound g.corners (inner_of g) (reach_of g) (spoke g w) → SurelyInPolygon g p → PossiblyInPolygon g p
copper_by g w p between regular turn surely b c corners = beside g w between p surely b c corners regular turn
