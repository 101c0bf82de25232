-- A regular polygon whose directions follow each other: what is under all edges is under each line that has all corners under it.
use Rattle.std.proofs.Common.{◌≡◌, ◌⊎◌, inl, inr, ℕ, zero, suc, ◌+◌, ◌-◌, ◌*◌, ◌<◌, ◌≤◌, ℤ, pos, neg_ℤ, ◌+ℤ◌, ◌-ℤ◌, ◌*ℤ◌, ◌≤ℤ◌, ◌<ℤ◌, arith, refl, subst}
use Rattle.std.proofs.lemmas.Int.{ints}
use Rattle.planar.proofs.Ring.{ring, linear, le_or_lt, over_zero, square_from_zero, square_zero, times_cancel, times_from_zero, times_mono, times-zero}
use Rattle.slants.specs.declared.turns.Heading.{Heading}

-- ---- a direction between two, of plain numbers

-- m lies between a and b: its scalar product with z is by theirs
combined : (ax ay bx by mx my zx zy : ℤ) → (ax *ℤ by -ℤ ay *ℤ bx) *ℤ (mx *ℤ zx +ℤ my *ℤ zy) ≡ neg_ℤ (bx *ℤ my -ℤ by *ℤ mx) *ℤ (ax *ℤ zx +ℤ ay *ℤ zy) +ℤ (ax *ℤ my -ℤ ay *ℤ mx) *ℤ (bx *ℤ zx +ℤ by *ℤ zy)
combined ax ay bx by mx my zx zy = simp ring (omega (arith, linear))

-- two steps to the left
joined : (ax ay ux uy bx by : ℤ) → (ux *ℤ ux +ℤ uy *ℤ uy) *ℤ (ax *ℤ by -ℤ ay *ℤ bx) ≡ (ax *ℤ uy -ℤ ay *ℤ ux) *ℤ (ux *ℤ bx +ℤ uy *ℤ by) +ℤ (ax *ℤ ux +ℤ ay *ℤ uy) *ℤ (ux *ℤ by -ℤ uy *ℤ bx)
joined ax ay ux uy bx by = simp ring (omega (arith, linear))

-- by how much the direction from m to b is more than that from m to a
sloped : (ax ay bx by mx my : ℤ) → (bx *ℤ mx +ℤ by *ℤ my) *ℤ (ax *ℤ my -ℤ ay *ℤ mx) -ℤ (ax *ℤ mx +ℤ ay *ℤ my) *ℤ (bx *ℤ my -ℤ by *ℤ mx) ≡ (mx *ℤ mx +ℤ my *ℤ my) *ℤ (ax *ℤ by -ℤ ay *ℤ bx)
sloped ax ay bx by mx my = simp ring (omega (arith, linear))

positive : (m x : ℤ) → pos 0 ≤ℤ m → pos 1 ≤ℤ (m *ℤ x) → pos 1 ≤ℤ x
positive m x hm h = elim (le_or_lt (pos 1) x) [
  | inl l ↦ l
  | inr l ↦
      let k : pos 0 ≤ℤ (m *ℤ (pos 0 -ℤ x)) = times_from_zero m (pos 0 -ℤ x) hm (omega (arith, linear, l)) in
      absurd (omega (arith, linear, h, k, turned m x))
]
  where
    turned : (m x : ℤ) → m *ℤ (pos 0 -ℤ x) ≡ neg_ℤ (m *ℤ x)
    turned m x = simp ring (omega (arith, linear))

-- the line whose way out is m: the corner u is under it, p is under both edges
under : (w i j mp ap bp mu au bu na nb nu r R n h : ℤ) → pos 1 ≤ℤ w → pos 0 ≤ℤ i → pos 0 ≤ℤ j → pos 1 ≤ℤ nu → pos 0 ≤ℤ n → pos 0 ≤ℤ R
    → w *ℤ mp ≡ i *ℤ ap +ℤ j *ℤ bp → w *ℤ mu ≡ i *ℤ au +ℤ j *ℤ bu → ap ≤ℤ (na *ℤ (n *ℤ r)) → bp ≤ℤ (nb *ℤ (n *ℤ r))
    → (r *ℤ (na *ℤ nu)) ≤ℤ (R *ℤ au) → (r *ℤ (nu *ℤ nb)) ≤ℤ (R *ℤ bu) → (R *ℤ mu) ≤ℤ (nu *ℤ h) → mp ≤ℤ (n *ℤ h)
under w i j mp ap bp mu au bu na nb nu r R n h hw hi hj hu hn hR ep eu a b c d corner =
    let a1 : (i *ℤ ap) ≤ℤ (i *ℤ (na *ℤ (n *ℤ r))) = times_mono i ap (na *ℤ (n *ℤ r)) hi a in
    let b1 : (j *ℤ bp) ≤ℤ (j *ℤ (nb *ℤ (n *ℤ r))) = times_mono j bp (nb *ℤ (n *ℤ r)) hj b in
    let c1 : (i *ℤ (r *ℤ (na *ℤ nu))) ≤ℤ (i *ℤ (R *ℤ au)) = times_mono i (r *ℤ (na *ℤ nu)) (R *ℤ au) hi c in
    let d1 : (j *ℤ (r *ℤ (nu *ℤ nb))) ≤ℤ (j *ℤ (R *ℤ bu)) = times_mono j (r *ℤ (nu *ℤ nb)) (R *ℤ bu) hj d in
    let e1 : (w *ℤ (R *ℤ mu)) ≤ℤ (w *ℤ (nu *ℤ h)) = times_mono w (R *ℤ mu) (nu *ℤ h) (omega (arith, linear, hw)) corner in
    let f : R *ℤ (w *ℤ mu) ≡ R *ℤ (i *ℤ au +ℤ j *ℤ bu) = rw eu refl in
    let l : (nu *ℤ (i *ℤ (na *ℤ r) +ℤ j *ℤ (nb *ℤ r))) ≤ℤ (nu *ℤ (w *ℤ h)) = omega (arith, linear, c1, d1, e1, f, first i j na nb nu r, second R i j au bu, third w R mu, fourth w nu h) in
    let k : (i *ℤ (na *ℤ r) +ℤ j *ℤ (nb *ℤ r)) ≤ℤ (w *ℤ h) = times_cancel nu (i *ℤ (na *ℤ r) +ℤ j *ℤ (nb *ℤ r)) (w *ℤ h) hu l in
    let kn : (n *ℤ (i *ℤ (na *ℤ r) +ℤ j *ℤ (nb *ℤ r))) ≤ℤ (n *ℤ (w *ℤ h)) = times_mono n (i *ℤ (na *ℤ r) +ℤ j *ℤ (nb *ℤ r)) (w *ℤ h) hn k in
    times_cancel w mp (n *ℤ h) hw (omega (arith, linear, ep, a1, b1, kn, fifth n i j na nb r, sixth w n h))
  where
    first : (i j na nb nu r : ℤ) → nu *ℤ (i *ℤ (na *ℤ r) +ℤ j *ℤ (nb *ℤ r)) ≡ i *ℤ (r *ℤ (na *ℤ nu)) +ℤ j *ℤ (r *ℤ (nu *ℤ nb))
    first i j na nb nu r = simp ring

    second : (R i j au bu : ℤ) → R *ℤ (i *ℤ au +ℤ j *ℤ bu) ≡ i *ℤ (R *ℤ au) +ℤ j *ℤ (R *ℤ bu)
    second R i j au bu = simp ring

    third : (w R mu : ℤ) → R *ℤ (w *ℤ mu) ≡ w *ℤ (R *ℤ mu)
    third w R mu = simp ring

    fourth : (w nu h : ℤ) → w *ℤ (nu *ℤ h) ≡ nu *ℤ (w *ℤ h)
    fourth w nu h = simp ring

    fifth : (n i j na nb r : ℤ) → n *ℤ (i *ℤ (na *ℤ r) +ℤ j *ℤ (nb *ℤ r)) ≡ i *ℤ (na *ℤ (n *ℤ r)) +ℤ j *ℤ (nb *ℤ (n *ℤ r))
    fifth n i j na nb r = simp ring

    sixth : (w n h : ℤ) → w *ℤ (n *ℤ h) ≡ n *ℤ (w *ℤ h)
    sixth w n h = simp ring

-- slopes g/f that go up from 0 to 1 and from 1 to 2 do from 0 to 2, where all f are over zero, or all below
raised : (f0 f1 f2 g0 g1 g2 : ℤ) → pos 0 ≤ℤ f0 → pos 1 ≤ℤ f1 → pos 0 ≤ℤ f2 → (g0 *ℤ f1) ≤ℤ (g1 *ℤ f0) → (g1 *ℤ f2) ≤ℤ (g2 *ℤ f1) → (g0 *ℤ f2) ≤ℤ (g2 *ℤ f0)
raised f0 f1 f2 g0 g1 g2 h0 h1 h2 a b =
    let c : pos 0 ≤ℤ (f0 *ℤ (g2 *ℤ f1 -ℤ g1 *ℤ f2)) = times_from_zero f0 (g2 *ℤ f1 -ℤ g1 *ℤ f2) h0 (omega (arith, linear, b)) in
    let d : pos 0 ≤ℤ (f2 *ℤ (g1 *ℤ f0 -ℤ g0 *ℤ f1)) = times_from_zero f2 (g1 *ℤ f0 -ℤ g0 *ℤ f1) h2 (omega (arith, linear, a)) in
    times_cancel f1 (g0 *ℤ f2) (g2 *ℤ f0) h1 (omega (arith, linear, c, d, same f0 f1 f2 g0 g1 g2))
  where
    same : (f0 f1 f2 g0 g1 g2 : ℤ) → f1 *ℤ (g2 *ℤ f0) -ℤ f1 *ℤ (g0 *ℤ f2) ≡ f0 *ℤ (g2 *ℤ f1 -ℤ g1 *ℤ f2) +ℤ f2 *ℤ (g1 *ℤ f0 -ℤ g0 *ℤ f1)
    same f0 f1 f2 g0 g1 g2 = simp ring (omega (arith, linear))

lowered : (f0 f1 f2 g0 g1 g2 : ℤ) → f0 ≤ℤ pos 0 → f1 <ℤ pos 0 → f2 ≤ℤ pos 0 → (g0 *ℤ f1) ≤ℤ (g1 *ℤ f0) → (g1 *ℤ f2) ≤ℤ (g2 *ℤ f1) → (g0 *ℤ f2) ≤ℤ (g2 *ℤ f0)
lowered f0 f1 f2 g0 g1 g2 h0 h1 h2 a b = back (raised (neg_ℤ f0) (neg_ℤ f1) (neg_ℤ f2) (neg_ℤ g0) (neg_ℤ g1) (neg_ℤ g2) (omega (arith, linear, h0)) (omega (arith, linear, h1)) (omega (arith, linear, h2)) (rw (both g0 f1, both g1 f0) a) (rw (both g1 f2, both g2 f1) b))
  where
    both : (x y : ℤ) → neg_ℤ x *ℤ neg_ℤ y ≡ x *ℤ y
    both x y = simp ring (omega (arith, linear))

    back : (neg_ℤ g0 *ℤ neg_ℤ f2) ≤ℤ (neg_ℤ g2 *ℤ neg_ℤ f0) → (g0 *ℤ f2) ≤ℤ (g2 *ℤ f0)
    back h = rw (both g0 f2, both g2 f0) at h

-- ---- directions that follow each other, a polygon, a point, and a line

-- the cross product and the scalar product of two directions
abbrev pub cross_at : Heading → Heading → ℤ
cross_at u v = u.x *ℤ v.y -ℤ u.y *ℤ v.x

abbrev pub dot_at : Heading → Heading → ℤ
dot_at u v = u.x *ℤ v.x +ℤ u.y *ℤ v.y

-- the last is on the left of the first, less than a right angle on, and the corner in one of them, so far from the middle, is not on the inner side of the edge in the other
pub record Follows (inner reach : ℕ) (u v : Heading) : Type 0 where
  pub left : pos 1 ≤ℤ cross_at u v
  pub near : pos 1 ≤ℤ dot_at u v
  pub out : (pos inner *ℤ (u.n *ℤ v.n)) ≤ℤ (pos reach *ℤ dot_at u v)

-- once round: corners are in the even ones, edges in the odd
pub record GoRound (corners inner reach : ℕ) (s : ℕ → Heading) : Type 0 where
  pub next : (h : ℕ) → h + 1 < 2 * corners → Follows inner reach (s h) (s (h + 1))
  pub last : Follows inner reach (s (2 * corners - 1)) (s 0)

-- off the middle the point lies at v/n, and is under all edges; the line lies h/m off the middle, as m leads, and has all corners under it
pub record Held (corners inner reach : ℕ) (s : ℕ → Heading) (mx my vx vy n h : ℤ) : Type 0 where
  pub from_zero : pos 0 ≤ℤ n
  pub some : (k : ℕ) → k < corners → pos 1 ≤ℤ (s (2 * k)).n
  pub edges : (k : ℕ) → k < corners → ((s (2 * k + 1)).x *ℤ vx +ℤ (s (2 * k + 1)).y *ℤ vy) ≤ℤ ((s (2 * k + 1)).n *ℤ (n *ℤ pos inner))
  pub out : (k : ℕ) → k < corners → (pos reach *ℤ (mx *ℤ (s (2 * k)).x +ℤ my *ℤ (s (2 * k)).y)) ≤ℤ ((s (2 * k)).n *ℤ h)

module _ (corners inner reach : ℕ) (s : ℕ → Heading) (mx my vx vy n h : ℤ) (held : Held corners inner reach s mx my vx vy n h) (turn : GoRound corners inner reach s) where
  abbrev edge : ℕ → Heading
  edge k = s (2 * k + 1)

  abbrev corner : ℕ → Heading
  corner k = s (2 * k)

  -- how far m is on the left of it, and along it
  abbrev off : ℕ → ℤ
  off k = (edge k).x *ℤ my -ℤ (edge k).y *ℤ mx

  abbrev along : ℕ → ℤ
  along k = (edge k).x *ℤ mx +ℤ (edge k).y *ℤ my

  abbrev Done : Type 0
  Done = (mx *ℤ vx +ℤ my *ℤ vy) ≤ℤ (n *ℤ h)

  -- the edge j, corner k and the edge i follow each other
  record Linked (j k i : ℕ) : Type 0 where
    j_below : j < corners
    k_below : k < corners
    i_below : i < corners
    before : Follows inner reach (edge j) (corner k)
    behind : Follows inner reach (corner k) (edge i)

  module _ (j k i : ℕ) (link : Linked j k i) where
    left : pos 1 ≤ℤ cross_at (edge j) (edge i)
    left = positive ((corner k).x *ℤ (corner k).x +ℤ (corner k).y *ℤ (corner k).y) (cross_at (edge j) (edge i)) (omega (arith, linear, square_from_zero (corner k).x, square_from_zero (corner k).y))
        (omega (arith, linear, joined (edge j).x (edge j).y (corner k).x (corner k).y (edge i).x (edge i).y, over_zero (cross_at (edge j) (corner k)) (dot_at (corner k) (edge i)) link.before.left link.behind.near, over_zero (dot_at (edge j) (corner k)) (cross_at (corner k) (edge i)) link.before.near link.behind.left))

    done : pos 0 ≤ℤ off j → off i ≤ℤ pos 0 → Done
    done here there =
        let bu : (pos inner *ℤ ((corner k).n *ℤ (edge i).n)) ≤ℤ (pos reach *ℤ ((edge i).x *ℤ (corner k).x +ℤ (edge i).y *ℤ (corner k).y)) = rw (swapped (corner k).x (corner k).y (edge i).x (edge i).y) at link.behind.out in
        under (cross_at (edge j) (edge i)) (neg_ℤ (off i)) (off j) (mx *ℤ vx +ℤ my *ℤ vy) ((edge j).x *ℤ vx +ℤ (edge j).y *ℤ vy) ((edge i).x *ℤ vx +ℤ (edge i).y *ℤ vy)
        (mx *ℤ (corner k).x +ℤ my *ℤ (corner k).y) ((edge j).x *ℤ (corner k).x +ℤ (edge j).y *ℤ (corner k).y) ((edge i).x *ℤ (corner k).x +ℤ (edge i).y *ℤ (corner k).y)
        (edge j).n (edge i).n (corner k).n (pos inner) (pos reach) n h left (omega (arith, linear, there)) here (held.some k link.k_below) held.from_zero (omega (arith, ints))
        (combined (edge j).x (edge j).y (edge i).x (edge i).y mx my vx vy) (combined (edge j).x (edge j).y (edge i).x (edge i).y mx my (corner k).x (corner k).y)
        (held.edges j link.j_below) (held.edges i link.i_below) link.before.out bu (held.out k link.k_below)
      where
        swapped : (ux uy bx by : ℤ) → ux *ℤ bx +ℤ uy *ℤ by ≡ bx *ℤ ux +ℤ by *ℤ uy
        swapped ux uy bx by = simp ring

    onward : pos 0 ≤ℤ off j → Done ⊎ (pos 1 ≤ℤ off i)
    onward here = elim (le_or_lt (pos 1) (off i)) [
      | inl l ↦ inr l
      | inr l ↦ inl (done here (omega (arith, linear, l)))
    ]

    sloping : (along j *ℤ off i) ≤ℤ (along i *ℤ off j)
    sloping =
        let l : pos 0 ≤ℤ ((mx *ℤ mx +ℤ my *ℤ my) *ℤ cross_at (edge j) (edge i)) = times_from_zero (mx *ℤ mx +ℤ my *ℤ my) (cross_at (edge j) (edge i)) (omega (arith, linear, square_from_zero mx, square_from_zero my)) (omega (arith, linear, left)) in
        omega (arith, linear, l, sloped (edge j).x (edge j).y (edge i).x (edge i).y mx my)

    -- and no edge is as far round, or m leads nowhere
    nowhere : (along i *ℤ off j) ≤ℤ (along j *ℤ off i) → off j ≡ pos 0
    nowhere h =
        let l : (mx *ℤ mx +ℤ my *ℤ my) ≤ℤ pos 0 = elim (le_or_lt (mx *ℤ mx +ℤ my *ℤ my) (pos 0)) [
          | inl l ↦ l
          | inr l ↦ absurd (omega (arith, linear, h, sloped (edge j).x (edge j).y (edge i).x (edge i).y mx my, over_zero (mx *ℤ mx +ℤ my *ℤ my) (cross_at (edge j) (edge i)) (omega (arith, linear, l)) left))
        ] in
        let ex : mx ≡ pos 0 = square_zero mx (omega (arith, linear, l, square_from_zero my)) in
        let ey : my ≡ pos 0 = square_zero my (omega (arith, linear, l, square_from_zero mx)) in
        flat (edge j).x (edge j).y mx my ex ey
      where
        flat : (x y mx my : ℤ) → mx ≡ pos 0 → my ≡ pos 0 → x *ℤ my -ℤ y *ℤ mx ≡ pos 0
        flat x y mx my ex ey = rw (ex, ey, times-zero x, times-zero y) (omega (arith, linear))

  -- ---- once round

  linked : (k : ℕ) → suc k < corners → Linked k (suc k) (suc k)
  linked k below = record {
    j_below = omega (arith, below);
    k_below = below;
    i_below = below;
    before = subst (λ (i : ℕ). Follows inner reach (edge k) (s i)) on (turn.next (2 * k + 1) (omega (arith, below)));
    behind = turn.next (2 * suc k) (omega (arith, below));
  }
    where
      on : 2 * k + 1 + 1 ≡ 2 * suc k
      on = omega arith

  closing : (k : ℕ) → suc k ≡ corners → Linked k 0 0
  closing k e = record {
    j_below = omega (arith, e);
    k_below = omega (arith, e);
    i_below = omega (arith, e);
    before = subst (λ (i : ℕ). Follows inner reach (s i) (s 0)) on turn.last;
    behind = turn.next 0 (omega (arith, e));
  }
    where
      on : 2 * corners - 1 ≡ 2 * k + 1
      on = omega (arith, e)

  -- from an edge with m on its left on, it stays there
  rising : pos 1 ≤ℤ off 0 → (k : ℕ) → k < corners → Done ⊎ ((pos 1 ≤ℤ off k) × ((along 0 *ℤ off k) ≤ℤ (along k *ℤ off 0)))
  rising up zero below = inr (up, omega (arith, linear))
  rising up (suc k) below = elim (rising up k (omega (arith, below))) [
    | inl d ↦ inl d
    | inr r ↦ elim (onward k (suc k) (suc k) (linked k below) (omega (arith, linear, r.0))) [
      | inl d ↦ inl d
      | inr l ↦ inr (l, raised (off 0) (off k) (off (suc k)) (along 0) (along k) (along (suc k)) (omega (arith, linear, up)) r.0 (omega (arith, linear, l)) r.1 (sloping k (suc k) (suc k) (linked k below)))
    ]
  ]

  -- on its right it stays, or comes to be on its left
  falling : off 0 ≤ℤ pos 0 → (k : ℕ) → k < corners → Done ⊎ ((pos 0 ≤ℤ off k) ⊎ ((off k <ℤ pos 0) × ((along 0 *ℤ off k) ≤ℤ (along k *ℤ off 0))))
  falling down zero below = elim (le_or_lt (pos 0) (off 0)) [
    | inl l ↦ inr (inl l)
    | inr l ↦ inr (inr (l, omega (arith, linear)))
  ]
  falling down (suc k) below = elim (falling down k (omega (arith, below))) [
    | inl d ↦ inl d
    | inr r ↦ elim r [
      | inl l ↦ elim (onward k (suc k) (suc k) (linked k below) l) [
        | inl d ↦ inl d
        | inr m ↦ inr (inl (omega (arith, linear, m)))
      ]
      | inr l ↦ elim (le_or_lt (pos 0) (off (suc k))) [
        | inl m ↦ inr (inl m)
        | inr m ↦ inr (inr (m, lowered (off 0) (off k) (off (suc k)) (along 0) (along k) (along (suc k)) down l.0 (omega (arith, linear, m)) l.1 (sloping k (suc k) (suc k) (linked k below))))
      ]
    ]
  ]

  round : (k : ℕ) → suc k ≡ corners → Done
  round k e = elim (le_or_lt (pos 1) (off 0)) [
    | inl up ↦ elim (rising up k (omega (arith, e))) [
      | inl d ↦ d
      | inr r ↦ let z : off k ≡ pos 0 = nowhere k 0 0 (closing k e) r.1 in absurd (omega (arith, linear, z, r.0))
    ]
    | inr down ↦ elim (falling (omega (arith, linear, down)) k (omega (arith, e))) [
      | inl d ↦ d
      | inr r ↦ elim r [
        | inl l ↦ elim (onward k 0 0 (closing k e) l) [
          | inl d ↦ d
          | inr m ↦ absurd (omega (arith, linear, m, down))
        ]
        | inr l ↦ let z : off k ≡ pos 0 = nowhere k 0 0 (closing k e) l.1 in absurd (omega (arith, linear, z, l.0))
      ]
    ]
  ]

  pub all_round : 3 ≤ corners → Done
  all_round h = let e : suc (corners - 1) ≡ corners = omega (arith, h) in round (corners - 1) e
