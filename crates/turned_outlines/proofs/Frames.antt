-- A figure at a turn, in the frame of the point: vectors from the point to the corners, turned, and as many times as long as makes them whole.
use Rattle.std.proofs.Common.{ℕ, ◌≡◌, List, [], ◌∷◌, ℤ, pos, neg_ℤ, ◌+ℤ◌, ◌-ℤ◌, ◌*ℤ◌, ◌≤ℤ◌, arith, refl, sym, ◌∙◌}
use Rattle.planar.specs.Plane.{InCapsule, Point, square}
use Rattle.planar.specs.declared.Spot.{Spot}
use Rattle.planar.proofs.Ring.{ring, linear, over_zero, zero-times, one-times}
use Rattle.area_contact.specs.Contour.{edges_from}
use Rattle.area_contact.specs.Parity.{crossed, odd, same_crosses, sign, side_of}
use Rattle.area_contact.specs.declared.Edge.{Edge}
use Rattle.area_contact.proofs.Paths.{sign_le}
use Rattle.arcs.proofs.Vectors.{norm, scaled, unscaled}
use Rattle.slants.specs.Cones.{turns_by}
use Rattle.slants.specs.Discs.{DiscAbove, PossiblyInDisc}
use Rattle.slants.specs.Laws.{DiscsAreBetween}
use Rattle.slants.specs.Turned.{IsBetween, IsTurn, meet_of, turned_back}
use Rattle.slants.specs.declared.turns.Turn.{Turn}
use Rattle.turned_outlines.specs.Taken.{corner_of}
use Rattle.turned_outlines.proofs.Quads.{odd_met, turn}
use Rattle.turned_outlines.proofs.Rays.{meets}

-- ---- an edge that the ray to the right crosses is one that is met, by numbers that are so many times as large

crossed_by : (e : Edge) (x y n k j A B f : ℤ) → pos 1 ≤ℤ k → pos 1 ≤ℤ j → A ≡ k *ℤ (n *ℤ e.start.y -ℤ y) → B ≡ k *ℤ (n *ℤ e.end.y -ℤ y) → f ≡ j *ℤ side_of e.start e.end x y n → crossed e x y n ≡ meets A B f
crossed_by e x y n k j A B f some some' a b c =
    sym (
    rw (
      same_crosses (pos 0) A B f (pos 0) (n *ℤ e.start.y -ℤ y) (n *ℤ e.end.y -ℤ y) (side_of e.start e.end x y n)
          (sign_le k (n *ℤ e.start.y -ℤ y) A some a) (sign k (n *ℤ e.end.y -ℤ y) B some b) (sign j (side_of e.start e.end x y n) f some' c),
      same_crosses (pos 0) B A (neg_ℤ f) (pos 0) (n *ℤ e.end.y -ℤ y) (n *ℤ e.start.y -ℤ y) (side_of e.end e.start x y n)
          (sign_le k (n *ℤ e.end.y -ℤ y) B some b) (sign k (n *ℤ e.start.y -ℤ y) A some a) (sign j (side_of e.end e.start x y n) (neg_ℤ f) some' back),
    ) refl)
  where
    other : (ax ay bx by : ℤ) → j *ℤ ((ax -ℤ bx) *ℤ (y -ℤ n *ℤ by) +ℤ (n *ℤ bx -ℤ x) *ℤ (ay -ℤ by)) ≡ neg_ℤ (j *ℤ ((bx -ℤ ax) *ℤ (y -ℤ n *ℤ ay) +ℤ (n *ℤ ax -ℤ x) *ℤ (by -ℤ ay)))
    other ax ay bx by = simp ring (omega (arith, linear))

    back : neg_ℤ f ≡ j *ℤ side_of e.end e.start x y n
    back = omega (arith, linear, c, other e.start.x e.start.y e.end.x e.end.y)

module _ (X Y : Spot → ℤ) (dx dy x y n k j : ℤ) (some : pos 1 ≤ℤ k) (some' : pos 1 ≤ℤ j) (height : (s : Spot) → turn dx dy (X s) (Y s) ≡ k *ℤ (n *ℤ s.y -ℤ y)) (side : (a b : Spot) → turn (X a) (Y a) (X b) (Y b) ≡ j *ℤ side_of a b x y n) where
  pub odd_is_met : (a : Spot) (rest : List Spot) → odd (edges_from a rest) x y n ≡ odd_met X Y dx dy a rest
  odd_is_met a [] = refl
  odd_is_met a (b ∷ rest) =
      rw (
        crossed_by (record { start = a; end = b }) x y n k j (turn dx dy (X a) (Y a)) (turn dx dy (X b) (Y b)) (turn (X a) (Y a) (X b) (Y b)) some some' (height a) (height b) (side a b),
        odd_is_met b rest,
      ) refl

-- ---- vectors from a point

-- so many times as long
abbrev pub longer_x : ℤ → Point → Spot → ℤ
longer_x K p s = K *ℤ (p.n *ℤ s.x -ℤ p.x)

abbrev pub longer_y : ℤ → Point → Spot → ℤ
longer_y K p s = K *ℤ (p.n *ℤ s.y -ℤ p.y)

right_of : (K z w : ℤ) → pos 1 *ℤ (K *ℤ w) -ℤ pos 0 *ℤ (K *ℤ z) ≡ K *ℤ w
right_of K z w = omega (arith, linear, one-times (K *ℤ w), zero-times (K *ℤ z))

side_longer : (K n x y ax ay bx by : ℤ) → turn (K *ℤ (n *ℤ ax -ℤ x)) (K *ℤ (n *ℤ ay -ℤ y)) (K *ℤ (n *ℤ bx -ℤ x)) (K *ℤ (n *ℤ by -ℤ y)) ≡ ((K *ℤ K) *ℤ n) *ℤ ((bx -ℤ ax) *ℤ (y -ℤ n *ℤ ay) +ℤ (n *ℤ ax -ℤ x) *ℤ (by -ℤ ay))
side_longer K n x y ax ay bx by = simp ring (omega (arith, linear))

pub odd_here : (K : ℤ) → pos 1 ≤ℤ K → (p : Point) (a : Spot) (rest : List Spot) → odd (edges_from a rest) p.x p.y p.n ≡ odd_met (longer_x K p) (longer_y K p) (pos 1) (pos 0) a rest
odd_here K some p a rest =
    odd_is_met (longer_x K p) (longer_y K p) (pos 1) (pos 0) p.x p.y p.n K ((K *ℤ K) *ℤ p.n) some (over_zero (K *ℤ K) p.n (over_zero K K some some) p.positive)
    (λ s. right_of K (p.n *ℤ s.x -ℤ p.x) (p.n *ℤ s.y -ℤ p.y)) (λ s q. side_longer K p.n p.x p.y s.x s.y q.x q.y) a rest

-- turned
abbrev pub turned_x : ℤ → ℤ → Point → Spot → ℤ
turned_x cx cy q s = cx *ℤ (q.n *ℤ s.x -ℤ q.x) -ℤ cy *ℤ (q.n *ℤ s.y -ℤ q.y)

abbrev pub turned_y : ℤ → ℤ → Point → Spot → ℤ
turned_y cx cy q s = cx *ℤ (q.n *ℤ s.y -ℤ q.y) +ℤ cy *ℤ (q.n *ℤ s.x -ℤ q.x)

height_turned : (cx cy z w : ℤ) → turn cx cy (cx *ℤ z -ℤ cy *ℤ w) (cx *ℤ w +ℤ cy *ℤ z) ≡ norm cx cy *ℤ w
height_turned cx cy z w = simp ring (omega (arith, linear))

turn_turned : (cx cy ax ay bx by : ℤ) → turn (cx *ℤ ax -ℤ cy *ℤ ay) (cx *ℤ ay +ℤ cy *ℤ ax) (cx *ℤ bx -ℤ cy *ℤ by) (cx *ℤ by +ℤ cy *ℤ bx) ≡ norm cx cy *ℤ turn ax ay bx by
turn_turned cx cy ax ay bx by = simp ring (omega (arith, linear))

side_here : (n x y ax ay bx by : ℤ) → turn (n *ℤ ax -ℤ x) (n *ℤ ay -ℤ y) (n *ℤ bx -ℤ x) (n *ℤ by -ℤ y) ≡ n *ℤ ((bx -ℤ ax) *ℤ (y -ℤ n *ℤ ay) +ℤ (n *ℤ ax -ℤ x) *ℤ (by -ℤ ay))
side_here n x y ax ay bx by = simp ring (omega (arith, linear))

grouped : (c n z : ℤ) → c *ℤ (n *ℤ z) ≡ (c *ℤ n) *ℤ z
grouped c n z = simp ring

pub odd_turned : (cx cy : ℤ) → pos 1 ≤ℤ norm cx cy → (q : Point) (a : Spot) (rest : List Spot) → odd (edges_from a rest) q.x q.y q.n ≡ odd_met (turned_x cx cy q) (turned_y cx cy q) cx cy a rest
odd_turned cx cy some q a rest =
    odd_is_met (turned_x cx cy q) (turned_y cx cy q) cx cy q.x q.y q.n (norm cx cy) (norm cx cy *ℤ q.n) some (over_zero (norm cx cy) q.n some q.positive)
    (λ s. height_turned cx cy (q.n *ℤ s.x -ℤ q.x) (q.n *ℤ s.y -ℤ q.y))
    (λ s u. turn_turned cx cy (q.n *ℤ s.x -ℤ q.x) (q.n *ℤ s.y -ℤ q.y) (q.n *ℤ u.x -ℤ q.x) (q.n *ℤ u.y -ℤ q.y)
    ∙ rw (side_here q.n q.x q.y s.x s.y u.x u.y) (grouped (norm cx cy) q.n (side_of s u q.x q.y q.n))) a rest

-- ---- a turned corner stays near

-- the place of the circle
pub on_circle : (t : Turn) → norm (meet_of t t).x (meet_of t t).y ≡ square (meet_of t t).n
on_circle t = by t.x t.y
  where
    by : (x y : ℤ) → norm (x *ℤ x -ℤ y *ℤ y) (x *ℤ y +ℤ y *ℤ x) ≡ square (x *ℤ x +ℤ y *ℤ y)
    by x y = simp ring (omega (arith, linear))

-- where the corner comes to
abbrev pub come : Spot → (t : Turn) → IsTurn t → Spot → Point
come o t some a = record {
  x = (meet_of t t).n *ℤ o.x +ℤ ((meet_of t t).x *ℤ (a.x -ℤ o.x) -ℤ (meet_of t t).y *ℤ (a.y -ℤ o.y));
  y = (meet_of t t).n *ℤ o.y +ℤ ((meet_of t t).x *ℤ (a.y -ℤ o.y) +ℤ (meet_of t t).y *ℤ (a.x -ℤ o.x));
  n = (meet_of t t).n;
  positive = some;
}

back_x : (cx cy n ox oy fx fy : ℤ) → norm cx cy ≡ square n → n *ℤ (n *ℤ ox) +ℤ (cx *ℤ ((n *ℤ ox +ℤ (cx *ℤ fx -ℤ cy *ℤ fy)) -ℤ n *ℤ ox) +ℤ cy *ℤ ((n *ℤ oy +ℤ (cx *ℤ fy +ℤ cy *ℤ fx)) -ℤ n *ℤ oy)) ≡ (n *ℤ n) *ℤ (ox +ℤ fx)
back_x cx cy n ox oy fx fy h =
    let e : n *ℤ (n *ℤ ox) +ℤ (cx *ℤ ((n *ℤ ox +ℤ (cx *ℤ fx -ℤ cy *ℤ fy)) -ℤ n *ℤ ox) +ℤ cy *ℤ ((n *ℤ oy +ℤ (cx *ℤ fy +ℤ cy *ℤ fx)) -ℤ n *ℤ oy)) ≡ (n *ℤ n) *ℤ ox +ℤ norm cx cy *ℤ fx = simp ring (omega (arith, linear)) in
    let f : (n *ℤ n) *ℤ (ox +ℤ fx) ≡ (n *ℤ n) *ℤ ox +ℤ square n *ℤ fx = simp ring (omega (arith, linear)) in
    e ∙ rw h (sym f)

back_y : (cx cy n ox oy fx fy : ℤ) → norm cx cy ≡ square n → n *ℤ (n *ℤ oy) +ℤ (cx *ℤ ((n *ℤ oy +ℤ (cx *ℤ fy +ℤ cy *ℤ fx)) -ℤ n *ℤ oy) -ℤ cy *ℤ ((n *ℤ ox +ℤ (cx *ℤ fx -ℤ cy *ℤ fy)) -ℤ n *ℤ ox)) ≡ (n *ℤ n) *ℤ (oy +ℤ fy)
back_y cx cy n ox oy fx fy h =
    let e : n *ℤ (n *ℤ oy) +ℤ (cx *ℤ ((n *ℤ oy +ℤ (cx *ℤ fy +ℤ cy *ℤ fx)) -ℤ n *ℤ oy) -ℤ cy *ℤ ((n *ℤ ox +ℤ (cx *ℤ fx -ℤ cy *ℤ fy)) -ℤ n *ℤ ox)) ≡ (n *ℤ n) *ℤ oy +ℤ norm cx cy *ℤ fy = simp ring (omega (arith, linear)) in
    let f : (n *ℤ n) *ℤ (oy +ℤ fy) ≡ (n *ℤ n) *ℤ oy +ℤ square n *ℤ fy = simp ring (omega (arith, linear)) in
    e ∙ rw h (sym f)

restored : (o a : ℤ) → o +ℤ (a -ℤ o) ≡ a
restored o a = omega (arith, linear)

at_corner : (N x a : ℤ) → x ≡ N *ℤ a → pos 1 *ℤ x -ℤ N *ℤ (pos 1 *ℤ a +ℤ pos 0 *ℤ (a -ℤ a)) ≡ pos 0
at_corner N x a e =
    let f : pos 1 *ℤ a +ℤ pos 0 *ℤ (a -ℤ a) ≡ a = omega (arith, linear, one-times a, zero-times (a -ℤ a)) in
    rw (f, one-times x) (omega (arith, linear, e))

corner_in : (a : Spot) (q : Point) → q.x ≡ q.n *ℤ a.x → q.y ≡ q.n *ℤ a.y → InCapsule a a (pos 0) q
corner_in a q e f = record {
  i = pos 0;
  m = pos 1;
  from_start = record { le = tt };
  to_end = record { le = tt };
  positive = record { le = tt };
  near = rw (at_corner q.n q.x a.x e, at_corner q.n q.y a.y f) none;
}
  where
    none : (square (pos 0) +ℤ square (pos 0)) ≤ℤ square (q.n *ℤ pos 1 *ℤ pos 0)
    none = let e : square (q.n *ℤ pos 1 *ℤ pos 0) ≡ pos 0 = simp ring in rw e record { le = tt }

-- a disc about one spot
at_place : (m n i x b : ℤ) → m *ℤ x -ℤ n *ℤ (m *ℤ b +ℤ i *ℤ (b -ℤ b)) ≡ m *ℤ (x -ℤ n *ℤ b)
at_place m n i x b =
    let e : i *ℤ (b -ℤ b) ≡ pos 0 = simp ring (omega (arith, linear)) in
    rw e (simp ring (omega (arith, linear)))

in_disc : (b : Spot) (r : ℤ) (q : Point) → InCapsule b b r q → norm (q.x -ℤ q.n *ℤ b.x) (q.y -ℤ q.n *ℤ b.y) ≤ℤ square (q.n *ℤ r)
in_disc b r q h =
    let f : norm (h.m *ℤ (q.x -ℤ q.n *ℤ b.x)) (h.m *ℤ (q.y -ℤ q.n *ℤ b.y)) ≤ℤ square (q.n *ℤ h.m *ℤ r) = rw (at_place h.m q.n h.i q.x b.x, at_place h.m q.n h.i q.y b.y) at h.near in
    let e : q.n *ℤ h.m *ℤ r ≡ h.m *ℤ (q.n *ℤ r) = simp ring in
    unscaled h.m (q.x -ℤ q.n *ℤ b.x) (q.y -ℤ q.n *ℤ b.y) (q.n *ℤ r) h.positive (rw e at f)

off_x : (cx cy c n px py ox oy ax ay bx : ℤ) → norm cx cy ≡ square c
    → (cx *ℤ ((c *ℤ n) *ℤ ax -ℤ (c *ℤ (n *ℤ ox) +ℤ (cx *ℤ (px -ℤ n *ℤ ox) +ℤ cy *ℤ (py -ℤ n *ℤ oy)))) -ℤ cy *ℤ ((c *ℤ n) *ℤ ay -ℤ (c *ℤ (n *ℤ oy) +ℤ (cx *ℤ (py -ℤ n *ℤ oy) -ℤ cy *ℤ (px -ℤ n *ℤ ox))))) -ℤ (c *ℤ c) *ℤ (n *ℤ bx -ℤ px)
    ≡ (c *ℤ n) *ℤ ((c *ℤ ox +ℤ (cx *ℤ (ax -ℤ ox) -ℤ cy *ℤ (ay -ℤ oy))) -ℤ c *ℤ bx)
off_x cx cy c n px py ox oy ax ay bx h =
    let e : cx *ℤ ((c *ℤ n) *ℤ ax -ℤ (c *ℤ (n *ℤ ox) +ℤ (cx *ℤ (px -ℤ n *ℤ ox) +ℤ cy *ℤ (py -ℤ n *ℤ oy)))) -ℤ cy *ℤ ((c *ℤ n) *ℤ ay -ℤ (c *ℤ (n *ℤ oy) +ℤ (cx *ℤ (py -ℤ n *ℤ oy) -ℤ cy *ℤ (px -ℤ n *ℤ ox))))
    ≡ (c *ℤ n) *ℤ (cx *ℤ (ax -ℤ ox) -ℤ cy *ℤ (ay -ℤ oy)) -ℤ norm cx cy *ℤ (px -ℤ n *ℤ ox) = simp ring (omega (arith, linear)) in
    let f : (c *ℤ n) *ℤ (cx *ℤ (ax -ℤ ox) -ℤ cy *ℤ (ay -ℤ oy)) -ℤ square c *ℤ (px -ℤ n *ℤ ox) -ℤ (c *ℤ c) *ℤ (n *ℤ bx -ℤ px) ≡ (c *ℤ n) *ℤ ((c *ℤ ox +ℤ (cx *ℤ (ax -ℤ ox) -ℤ cy *ℤ (ay -ℤ oy))) -ℤ c *ℤ bx) = simp ring (omega (arith, linear)) in
    rw (e, h) f

off_y : (cx cy c n px py ox oy ax ay by : ℤ) → norm cx cy ≡ square c
    → (cx *ℤ ((c *ℤ n) *ℤ ay -ℤ (c *ℤ (n *ℤ oy) +ℤ (cx *ℤ (py -ℤ n *ℤ oy) -ℤ cy *ℤ (px -ℤ n *ℤ ox)))) +ℤ cy *ℤ ((c *ℤ n) *ℤ ax -ℤ (c *ℤ (n *ℤ ox) +ℤ (cx *ℤ (px -ℤ n *ℤ ox) +ℤ cy *ℤ (py -ℤ n *ℤ oy))))) -ℤ (c *ℤ c) *ℤ (n *ℤ by -ℤ py)
    ≡ (c *ℤ n) *ℤ ((c *ℤ oy +ℤ (cx *ℤ (ay -ℤ oy) +ℤ cy *ℤ (ax -ℤ ox))) -ℤ c *ℤ by)
off_y cx cy c n px py ox oy ax ay by h =
    let e : cx *ℤ ((c *ℤ n) *ℤ ay -ℤ (c *ℤ (n *ℤ oy) +ℤ (cx *ℤ (py -ℤ n *ℤ oy) -ℤ cy *ℤ (px -ℤ n *ℤ ox)))) +ℤ cy *ℤ ((c *ℤ n) *ℤ ax -ℤ (c *ℤ (n *ℤ ox) +ℤ (cx *ℤ (px -ℤ n *ℤ ox) +ℤ cy *ℤ (py -ℤ n *ℤ oy))))
    ≡ (c *ℤ n) *ℤ (cx *ℤ (ay -ℤ oy) +ℤ cy *ℤ (ax -ℤ ox)) -ℤ norm cx cy *ℤ (py -ℤ n *ℤ oy) = simp ring (omega (arith, linear)) in
    let f : (c *ℤ n) *ℤ (cx *ℤ (ay -ℤ oy) +ℤ cy *ℤ (ax -ℤ ox)) -ℤ square c *ℤ (py -ℤ n *ℤ oy) -ℤ (c *ℤ c) *ℤ (n *ℤ by -ℤ py) ≡ (c *ℤ n) *ℤ ((c *ℤ oy +ℤ (cx *ℤ (ay -ℤ oy) +ℤ cy *ℤ (ax -ℤ ox))) -ℤ c *ℤ by) = simp ring (omega (arith, linear)) in
    rw (e, h) f

module _ (law : DiscsAreBetween) (o : Spot) (angle r : ℕ) (t : Turn) (some : IsTurn t) (between : IsBetween (turns_by o angle) t) where
  -- at the turn the corner is at most r from its spot
  pub comes_near : (a b : Spot) → DiscAbove (corner_of a o angle) b r → norm ((come o t some a).x -ℤ (meet_of t t).n *ℤ b.x) ((come o t some a).y -ℤ (meet_of t t).n *ℤ b.y) ≤ℤ square ((meet_of t t).n *ℤ pos r)
  comes_near a b h =
      let q : Point = turned_back (turns_by o angle) t some (come o t some a) in
      let e : q.x ≡ q.n *ℤ a.x = back_x (meet_of t t).x (meet_of t t).y (meet_of t t).n o.x o.y (a.x -ℤ o.x) (a.y -ℤ o.y) (on_circle t) ∙ rw (restored o.x a.x) refl in
      let f : q.y ≡ q.n *ℤ a.y = back_y (meet_of t t).x (meet_of t t).y (meet_of t t).n o.x o.y (a.x -ℤ o.x) (a.y -ℤ o.y) (on_circle t) ∙ rw (restored o.y a.y) refl in
      let held : PossiblyInDisc (corner_of a o angle) (come o t some a) = (t, between, record { some = some; inside = corner_in a q e f }) in
      in_disc b (pos r) (come o t some a) ((law (corner_of a o angle) b r (come o t some a)).1 h held)

  -- and so are both vectors from a point
  pub vectors_near : (p : Point) (a b : Spot) → DiscAbove (corner_of a o angle) b r
      → norm (turned_x (meet_of t t).x (meet_of t t).y (turned_back (turns_by o angle) t some p) a -ℤ longer_x (square (meet_of t t).n) p b) (turned_y (meet_of t t).x (meet_of t t).y (turned_back (turns_by o angle) t some p) a -ℤ longer_y (square (meet_of t t).n) p b)
      ≤ℤ square (square (meet_of t t).n *ℤ (p.n *ℤ pos r))
  vectors_near p a b h =
      let e : ((meet_of t t).n *ℤ p.n) *ℤ ((meet_of t t).n *ℤ pos r) ≡ square (meet_of t t).n *ℤ (p.n *ℤ pos r) = same (meet_of t t).n p.n (pos r) in
      rw (off_x (meet_of t t).x (meet_of t t).y (meet_of t t).n p.n p.x p.y o.x o.y a.x a.y b.x (on_circle t), off_y (meet_of t t).x (meet_of t t).y (meet_of t t).n p.n p.x p.y o.x o.y a.x a.y b.y (on_circle t), ← e)
      (scaled ((meet_of t t).n *ℤ p.n) ((come o t some a).x -ℤ (meet_of t t).n *ℤ b.x) ((come o t some a).y -ℤ (meet_of t t).n *ℤ b.y) ((meet_of t t).n *ℤ pos r) (comes_near a b h))
    where
      same : (c n z : ℤ) → (c *ℤ n) *ℤ (c *ℤ z) ≡ square c *ℤ (n *ℤ z)
      same c n z = simp ring
