-- An area whose corners lie on one side of a line lies there.
use Rattle.std.proofs.Common.{Bool, true, false, IsTrue, ◌≡◌, inl, inr, ℤ, pos, neg_ℤ, ◌+ℤ◌, ◌-ℤ◌, ◌*ℤ◌, ◌≤ℤ◌, ◌<ℤ◌, List, [], ◌∷◌, arith, refl, sym, ◌∙◌}
use lib.Signed.{lt_z}
use Rattle.planar.specs.declared.Spot.{Spot}
use Rattle.planar.specs.Plane.{Point}
use Rattle.planar.proofs.Ring.{ring, linear, le_or_lt, times_from_zero, times_mono, times_cancel, over_zero, mul-neg}
use Rattle.planar.proofs.EdgeLaw.{xor, not_lt, not_le, is_lt, is_le, xor-same}
use Rattle.area_contact.specs.declared.Edge.{Edge}
use Rattle.area_contact.specs.Contour.{InArea, OnEdge, SomeEdge, edges_from, end_from}
use Rattle.area_contact.specs.Parity.{crossed, none_apart, odd, odd_is, passes, side_of, xor-over}
use Rattle.slants.specs.Taken.{Each}

-- the spot is not over h, where u tells how high it is
abbrev pub Under : ℤ → ℤ → ℤ → Spot → Type 0
Under ux uy h q = (ux *ℤ q.x +ℤ uy *ℤ q.y) ≤ℤ h

-- ---- a point on an edge

on_way : (ux uy m i n x y ax ay bx by : ℤ) → m *ℤ x -ℤ n *ℤ (m *ℤ ax +ℤ i *ℤ (bx -ℤ ax)) ≡ pos 0 → m *ℤ y -ℤ n *ℤ (m *ℤ ay +ℤ i *ℤ (by -ℤ ay)) ≡ pos 0 →
    m *ℤ (ux *ℤ x +ℤ uy *ℤ y) ≡ n *ℤ ((m -ℤ i) *ℤ (ux *ℤ ax +ℤ uy *ℤ ay) +ℤ i *ℤ (ux *ℤ bx +ℤ uy *ℤ by))
on_way ux uy m i n x y ax ay bx by p q =
    let e : m *ℤ x ≡ n *ℤ (m *ℤ ax +ℤ i *ℤ (bx -ℤ ax)) = omega (arith, linear) in
    let f : m *ℤ y ≡ n *ℤ (m *ℤ ay +ℤ i *ℤ (by -ℤ ay)) = omega (arith, linear) in
    let g : m *ℤ (ux *ℤ x +ℤ uy *ℤ y) ≡ ux *ℤ (m *ℤ x) +ℤ uy *ℤ (m *ℤ y) = simp ring in
    rw (g, e, f) (simp ring (omega (arith, linear)))

weighed : (m i n a b h : ℤ) → pos 0 ≤ℤ n → pos 0 ≤ℤ i → i ≤ℤ m → a ≤ℤ h → b ≤ℤ h → (n *ℤ ((m -ℤ i) *ℤ a +ℤ i *ℤ b)) ≤ℤ (m *ℤ (n *ℤ h))
weighed m i n a b h hn hi him ha hb =
    let f : ((m -ℤ i) *ℤ a) ≤ℤ ((m -ℤ i) *ℤ h) = times_mono (m -ℤ i) a h (omega (arith, linear)) ha in
    let g : (i *ℤ b) ≤ℤ (i *ℤ h) = times_mono i b h hi hb in
    let k : (n *ℤ ((m -ℤ i) *ℤ a +ℤ i *ℤ b)) ≤ℤ (n *ℤ ((m -ℤ i) *ℤ h +ℤ i *ℤ h)) = times_mono n ((m -ℤ i) *ℤ a +ℤ i *ℤ b) ((m -ℤ i) *ℤ h +ℤ i *ℤ h) hn (omega (arith, linear, f, g)) in
    let e : n *ℤ ((m -ℤ i) *ℤ h +ℤ i *ℤ h) ≡ m *ℤ (n *ℤ h) = simp ring (omega (arith, linear)) in
    omega (arith, linear, k, e)

module _ (ux uy h : ℤ) where
  edge_under : (e : Edge) (p : Point) → Under ux uy h e.start → Under ux uy h e.end → OnEdge p e → (ux *ℤ p.x +ℤ uy *ℤ p.y) ≤ℤ (p.n *ℤ h)
  edge_under e p a b c =
      let g : (c.m *ℤ p.x -ℤ p.n *ℤ (c.m *ℤ e.start.x +ℤ c.i *ℤ (e.end.x -ℤ e.start.x)) ≡ pos 0) × (c.m *ℤ p.y -ℤ p.n *ℤ (c.m *ℤ e.start.y +ℤ c.i *ℤ (e.end.y -ℤ e.start.y)) ≡ pos 0) =
      none_apart (p.n *ℤ c.m) (c.m *ℤ p.x -ℤ p.n *ℤ (c.m *ℤ e.start.x +ℤ c.i *ℤ (e.end.x -ℤ e.start.x))) (c.m *ℤ p.y -ℤ p.n *ℤ (c.m *ℤ e.start.y +ℤ c.i *ℤ (e.end.y -ℤ e.start.y))) c.near in
      times_cancel c.m (ux *ℤ p.x +ℤ uy *ℤ p.y) (p.n *ℤ h) c.positive
      (rw (on_way ux uy c.m c.i p.n p.x p.y e.start.x e.start.y e.end.x e.end.y g.0 g.1) (weighed c.m c.i p.n (ux *ℤ e.start.x +ℤ uy *ℤ e.start.y) (ux *ℤ e.end.x +ℤ uy *ℤ e.end.y) h (omega (arith, linear, p.positive)) c.from_start c.to_end a b))

  line_under : (a : Spot) (rest : List Spot) (p : Point) → Under ux uy h a → Each (Under ux uy h) rest → SomeEdge (OnEdge p) (edges_from a rest) → (ux *ℤ p.x +ℤ uy *ℤ p.y) ≤ℤ (p.n *ℤ h)
  line_under a [] p under all s = absurd s
  line_under a (b ∷ rest) p under all (inl s) = edge_under (record { start = a; end = b }) p under all.0 s
  line_under a (b ∷ rest) p under all (inr s) = line_under b rest p all.0 all.1 s

-- ---- a point over h: which edges its ray crosses

-- of an edge from a to b off the point, which is at its height: j and k are how far the ends are below and above
turned : (ux uy a b j k : ℤ) → j *ℤ (ux *ℤ b +ℤ uy *ℤ k) +ℤ k *ℤ (ux *ℤ a -ℤ uy *ℤ j) ≡ ux *ℤ (b *ℤ j +ℤ a *ℤ k)
turned ux uy a b j k = simp ring (omega (arith, linear))

turned_under : (ux uy a b j k : ℤ) → pos 0 ≤ℤ j → pos 1 ≤ℤ k → (ux *ℤ a -ℤ uy *ℤ j) <ℤ pos 0 → (ux *ℤ b +ℤ uy *ℤ k) <ℤ pos 0 → (ux *ℤ (b *ℤ j +ℤ a *ℤ k)) <ℤ pos 0
turned_under ux uy a b j k hj hk ha hb =
    let f : pos 0 ≤ℤ (j *ℤ neg_ℤ (ux *ℤ b +ℤ uy *ℤ k)) = times_from_zero j (neg_ℤ (ux *ℤ b +ℤ uy *ℤ k)) hj (omega (arith, linear)) in
    let g : pos 1 ≤ℤ (k *ℤ neg_ℤ (ux *ℤ a -ℤ uy *ℤ j)) = over_zero k (neg_ℤ (ux *ℤ a -ℤ uy *ℤ j)) hk (omega (arith, linear)) in
    omega (arith, linear, f, g, mul-neg j (ux *ℤ b +ℤ uy *ℤ k), mul-neg k (ux *ℤ a -ℤ uy *ℤ j), turned ux uy a b j k)

-- the point's side of the edge by those
sided : (n x y lx ly hx hy : ℤ) → (n *ℤ hx -ℤ x) *ℤ (y -ℤ n *ℤ ly) +ℤ (n *ℤ lx -ℤ x) *ℤ (n *ℤ hy -ℤ y) ≡ n *ℤ ((hx -ℤ lx) *ℤ (y -ℤ n *ℤ ly) +ℤ (n *ℤ lx -ℤ x) *ℤ (hy -ℤ ly))
sided n x y lx ly hx hy = simp ring (omega (arith, linear))

not_from_zero : (a b : ℤ) → pos 0 ≤ℤ a → (a *ℤ b) <ℤ pos 0 → b <ℤ pos 0
not_from_zero a b h k = elim (le_or_lt (pos 0) b) [ inl l ↦ absurd (omega (arith, linear, times_from_zero a b h l, k)) | inr l ↦ l ]

above : Spot → ℤ → ℤ → Bool
above c y n = lt_z (pos 0) (n *ℤ c.y -ℤ y)

module _ (ux uy h x y n : ℤ) (some : pos 1 ≤ℤ n) (over : (n *ℤ h) <ℤ (ux *ℤ x +ℤ uy *ℤ y)) where
  short : (q : Spot) → Under ux uy h q → (ux *ℤ (n *ℤ q.x -ℤ x) +ℤ uy *ℤ (n *ℤ q.y -ℤ y)) <ℤ pos 0
  short q k =
      let f : (n *ℤ (ux *ℤ q.x +ℤ uy *ℤ q.y)) ≤ℤ (n *ℤ h) = times_mono n (ux *ℤ q.x +ℤ uy *ℤ q.y) h (omega (arith, linear, some)) k in
      let e : ux *ℤ (n *ℤ q.x -ℤ x) +ℤ uy *ℤ (n *ℤ q.y -ℤ y) ≡ n *ℤ (ux *ℤ q.x +ℤ uy *ℤ q.y) -ℤ (ux *ℤ x +ℤ uy *ℤ y) = simp ring (omega (arith, linear)) in
      omega (arith, linear, f, e, over)

  -- u times the side is under 0 at each edge that stands at the point's height
  aside : (low high : Spot) → Under ux uy h low → Under ux uy h high → (n *ℤ low.y -ℤ y) ≤ℤ pos 0 → pos 0 <ℤ (n *ℤ high.y -ℤ y) → (ux *ℤ side_of low high x y n) <ℤ pos 0
  aside low high l k f g =
      let back : ux *ℤ (n *ℤ low.x -ℤ x) -ℤ uy *ℤ (y -ℤ n *ℤ low.y) ≡ ux *ℤ (n *ℤ low.x -ℤ x) +ℤ uy *ℤ (n *ℤ low.y -ℤ y) = simp ring (omega (arith, linear)) in
      let t : (ux *ℤ ((n *ℤ high.x -ℤ x) *ℤ (y -ℤ n *ℤ low.y) +ℤ (n *ℤ low.x -ℤ x) *ℤ (n *ℤ high.y -ℤ y))) <ℤ pos 0 =
      turned_under ux uy (n *ℤ low.x -ℤ x) (n *ℤ high.x -ℤ x) (y -ℤ n *ℤ low.y) (n *ℤ high.y -ℤ y) (omega (arith, linear)) (omega (arith, linear)) (omega (arith, linear, back, short low l)) (short high k) in
      let e : ux *ℤ (n *ℤ side_of low high x y n) ≡ n *ℤ (ux *ℤ side_of low high x y n) = swap ux n (side_of low high x y n) in
      not_from_zero n (ux *ℤ side_of low high x y n) (omega (arith, linear, some)) (omega (arith, linear, e, rw (sided n x y low.x low.y high.x high.y) at t))
    where
      swap : (a b c : ℤ) → a *ℤ (b *ℤ c) ≡ b *ℤ (a *ℤ c)
      swap a b c = simp ring

  -- where the ray goes on over h, it crosses none
  module _ (right : pos 0 ≤ℤ ux) where
    passes_none : (low high : Spot) → Under ux uy h low → Under ux uy h high → passes low high x y n ≡ false
    passes_none low high l k = elim (le_or_lt (n *ℤ low.y -ℤ y) (pos 0)) [
      | inl f ↦ elim (le_or_lt (n *ℤ high.y -ℤ y) (pos 0)) [
        | inl g ↦ rw (is_le (n *ℤ low.y -ℤ y) (pos 0) f, not_lt (pos 0) (n *ℤ high.y -ℤ y) g)
        | inr g ↦ rw (is_le (n *ℤ low.y -ℤ y) (pos 0) f, is_lt (pos 0) (n *ℤ high.y -ℤ y) g, not_lt (pos 0) (side_of low high x y n) (omega (arith, linear, not_from_zero ux (side_of low high x y n) right (aside low high l k f g))))
      ]
      | inr f ↦ rw (not_le (n *ℤ low.y -ℤ y) (pos 0) f)
    ]

    none_odd : (a : Spot) (rest : List Spot) → Under ux uy h a → Each (Under ux uy h) rest → odd (edges_from a rest) x y n ≡ false
    none_odd a [] under all = refl
    none_odd a (b ∷ rest) under all = rw (passes_none a b under all.0, passes_none b a all.0 under, none_odd b rest all.0 all.1) refl

  -- where it does not, it crosses each edge that stands at the point's height, and these come in pairs
  module _ (left : ux <ℤ pos 0) where
    passes_all : (low high : Spot) → Under ux uy h low → Under ux uy h high → (n *ℤ low.y -ℤ y) ≤ℤ pos 0 → pos 0 <ℤ (n *ℤ high.y -ℤ y) → passes low high x y n ≡ true
    passes_all low high l k f g = rw (is_le (n *ℤ low.y -ℤ y) (pos 0) f, is_lt (pos 0) (n *ℤ high.y -ℤ y) g, is_lt (pos 0) (side_of low high x y n) (elim (le_or_lt (side_of low high x y n) (pos 0)) [ inl m ↦ absurd (no m) | inr m ↦ m ])) refl
      where
        no : side_of low high x y n ≤ℤ pos 0 → ⊥
        no m =
            let w : pos 0 ≤ℤ (neg_ℤ ux *ℤ neg_ℤ (side_of low high x y n)) = times_from_zero (neg_ℤ ux) (neg_ℤ (side_of low high x y n)) (omega (arith, linear, left)) (omega (arith, linear, m)) in
            omega (arith, linear, w, both ux (side_of low high x y n), aside low high l k f g)
          where
            both : (a b : ℤ) → neg_ℤ a *ℤ neg_ℤ b ≡ a *ℤ b
            both a b = simp ring (omega (arith, linear))

    crossed_as : (a b : Spot) → Under ux uy h a → Under ux uy h b → crossed (record { start = a; end = b }) x y n ≡ xor (above a y n) (above b y n)
    unfolding above
    crossed_as a b l k = elim (le_or_lt (n *ℤ a.y -ℤ y) (pos 0)) [
      | inl f ↦ elim (le_or_lt (n *ℤ b.y -ℤ y) (pos 0)) [
        | inl g ↦ rw (is_le (n *ℤ a.y -ℤ y) (pos 0) f, not_lt (pos 0) (n *ℤ b.y -ℤ y) g, is_le (n *ℤ b.y -ℤ y) (pos 0) g, not_lt (pos 0) (n *ℤ a.y -ℤ y) f)
        | inr g ↦ rw (passes_all a b l k f g, not_lt (pos 0) (n *ℤ a.y -ℤ y) f, is_lt (pos 0) (n *ℤ b.y -ℤ y) g)
      ]
      | inr f ↦ elim (le_or_lt (n *ℤ b.y -ℤ y) (pos 0)) [
        | inl g ↦ rw (passes_all b a k l g f, not_le (n *ℤ a.y -ℤ y) (pos 0) f, is_lt (pos 0) (n *ℤ a.y -ℤ y) f, not_lt (pos 0) (n *ℤ b.y -ℤ y) g)
        | inr g ↦ rw (not_le (n *ℤ a.y -ℤ y) (pos 0) f, not_le (n *ℤ b.y -ℤ y) (pos 0) g, is_lt (pos 0) (n *ℤ a.y -ℤ y) f, is_lt (pos 0) (n *ℤ b.y -ℤ y) g)
      ]
    ]

    paired : (a : Spot) (rest : List Spot) → Under ux uy h a → Each (Under ux uy h) rest → odd (edges_from a rest) x y n ≡ xor (above a y n) (above (end_from a rest) y n)
    paired a [] under all = sym (xor-same (above a y n))
    paired a (b ∷ rest) under all = rw (crossed_as a b under all.0, paired b rest all.0 all.1) (xor-over (above a y n) (above b y n) (above (end_from b rest) y n))

  not_odd : (a : Spot) (rest : List Spot) → end_from a rest ≡ a → Under ux uy h a → Each (Under ux uy h) rest → odd (edges_from a rest) x y n ≡ false
  not_odd a rest closed under all = elim (le_or_lt (pos 0) ux) [
    | inl right ↦ none_odd right a rest under all
    | inr left ↦ paired left a rest under all ∙ rw closed (xor-same (above a y n))
  ]

-- ---- the law

pub area_under : (ux uy h : ℤ) (a : Spot) (rest : List Spot) (p : Point) → end_from a rest ≡ a → Under ux uy h a → Each (Under ux uy h) rest → InArea (edges_from a rest) p → (ux *ℤ p.x +ℤ uy *ℤ p.y) ≤ℤ (p.n *ℤ h)
area_under ux uy h a rest p closed under all (inl k) = line_under ux uy h a rest p under all k
area_under ux uy h a rest p closed under all (inr k) = elim (le_or_lt (ux *ℤ p.x +ℤ uy *ℤ p.y) (p.n *ℤ h)) [ inl l ↦ l | inr l ↦ absurd (no ((odd_is (edges_from a rest) p).1 k) (not_odd ux uy h p.x p.y p.n p.positive l a rest closed under all)) ]
  where
    no : {b : Bool} → IsTrue b → b ≡ false → ⊥
    no t e = cc
