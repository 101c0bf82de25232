-- Polygons whose corners stand for those of a turned figure bound it, with capsules along them.
use Rattle.std.proofs.Common.{ℕ, Bool, true, false, IsTrue, ◌≡◌, ◌⊎◌, ◌↔◌, inl, inr, List, [], ◌∷◌, map, ℤ, pos, neg_ℤ, ◌+ℤ◌, ◌-ℤ◌, ◌*ℤ◌, ◌≤ℤ◌, arith, refl, sym, subst, ◌∙◌}
use Rattle.planar.specs.Plane.{InCapsule, Point, square, EachFrom}
use Rattle.planar.specs.declared.Frame.{Frame}
use Rattle.planar.specs.declared.Spot.{Spot}
use Rattle.planar.proofs.EdgeLaw.{xor}
use Rattle.planar.proofs.Ring.{ring, linear, over_zero, square_from_zero, times-zero}
use Rattle.area_contact.specs.Contour.{ExactlyOne, InArea, IsContour, OddCrossed, OnEdge, SomeEdge, edges_from, edges_of, end_from, first_of}
use Rattle.area_contact.specs.Parity.{crossed, none_apart, odd, odd_is}
use Rattle.arcs.specs.Copper.{InChain, InFrom}
use Rattle.arcs.proofs.Vectors.{norm}
use Rattle.arc_regions.specs.Copper.{OddOver, OnEachCurve, SomePart, SurelyIn}
use Rattle.arc_regions.specs.Laws.{TakenLies}
use Rattle.arc_regions.specs.Taken.{AreAround, Chained, IsClear, parts_of}
use Rattle.arc_regions.specs.declared.Part.TheVariants.{Straight}
use Rattle.slants.specs.Cones.{turns_by}
use Rattle.slants.specs.Discs.{DiscAbove}
use Rattle.slants.specs.Laws.{DiscsAreBetween}
use Rattle.slants.specs.Turned.{InTurned, IsBetween, IsTurn, meet_of, turned_back}
use Rattle.slants.specs.declared.turns.Turn.{Turn}
use Rattle.turned_outlines.specs.Laws.{OutlineHolds, OutlineLies}
use Rattle.turned_outlines.specs.Taken.{EachOfBoth, OutlineAbove, OutlineBelow, corner_of}
use Rattle.turned_outlines.proofs.Cuts.{Near, near_or_cut, not_on, sided}
use Rattle.turned_outlines.proofs.Frames.{longer_x, longer_y, odd_here, odd_turned, on_circle, turned_x, turned_y, vectors_near}
use Rattle.turned_outlines.proofs.Quads.{AllSided, Sided, any_way, cleared, one_parity}

-- ---- where 0 is near an edge of the vectors from a point, the point is in a capsule

capsule_of : (a b : Spot) (r : ℤ) (p : Point) → Near (p.n *ℤ r) (p.n *ℤ a.x -ℤ p.x) (p.n *ℤ a.y -ℤ p.y) (p.n *ℤ b.x -ℤ p.x) (p.n *ℤ b.y -ℤ p.y) → InCapsule a b r p
capsule_of a b r p h = record {
  i = h.i;
  m = h.m;
  from_start = h.from_start;
  to_end = h.to_end;
  positive = h.positive;
  near =
      rw (turned h.m h.i p.n p.x a.x b.x, turned h.m h.i p.n p.y a.y b.y, far h.m p.n r)
      (rw (mirrored (h.m *ℤ (p.n *ℤ a.x -ℤ p.x) +ℤ h.i *ℤ ((p.n *ℤ b.x -ℤ p.x) -ℤ (p.n *ℤ a.x -ℤ p.x))) (h.m *ℤ (p.n *ℤ a.y -ℤ p.y) +ℤ h.i *ℤ ((p.n *ℤ b.y -ℤ p.y) -ℤ (p.n *ℤ a.y -ℤ p.y)))) h.near);
}
  where
    turned : (m i n x a b : ℤ) → m *ℤ x -ℤ n *ℤ (m *ℤ a +ℤ i *ℤ (b -ℤ a)) ≡ neg_ℤ (m *ℤ (n *ℤ a -ℤ x) +ℤ i *ℤ ((n *ℤ b -ℤ x) -ℤ (n *ℤ a -ℤ x)))
    turned m i n x a b = simp ring (omega (arith, linear))

    far : (m n r : ℤ) → n *ℤ m *ℤ r ≡ m *ℤ (n *ℤ r)
    far m n r = simp ring

    mirrored : (x y : ℤ) → norm (neg_ℤ x) (neg_ℤ y) ≡ norm x y
    mirrored x y = simp ring (omega (arith, linear))

circle_some : (t : Turn) → IsTurn t → pos 1 ≤ℤ square (meet_of t t).n
circle_some t some = over_zero (meet_of t t).n (meet_of t t).n some some

circle_way : (t : Turn) → IsTurn t → (meet_of t t).x ≡ pos 0 → (meet_of t t).y ≡ pos 0 → ⊥
circle_way t some e f =
    let g : norm (pos 0) (pos 0) ≡ square (meet_of t t).n = subst (λ (y : ℤ). norm (pos 0) y ≡ square (meet_of t t).n) f (subst (λ (x : ℤ). norm x (meet_of t t).y ≡ square (meet_of t t).n) e (on_circle t)) in
    omega (arith, linear, g, circle_some t some, times-zero (pos 0))

module _ (law : DiscsAreBetween) (o : Spot) (angle r : ℕ) (t : Turn) (some : IsTurn t) (between : IsBetween (turns_by o angle) t) (p : Point) where
  abbrev back : Point
  back = turned_back (turns_by o angle) t some p

  abbrev vx : Spot → ℤ
  vx = turned_x (meet_of t t).x (meet_of t t).y back

  abbrev vy : Spot → ℤ
  vy = turned_y (meet_of t t).x (meet_of t t).y back

  abbrev wx : Spot → ℤ
  wx = longer_x (square (meet_of t t).n) p

  abbrev wy : Spot → ℤ
  wy = longer_y (square (meet_of t t).n) p

  abbrev Stands : Spot → Spot → Type 0
  Stands a b = DiscAbove (corner_of a o angle) b r

  -- the point is in the capsule along the edge, or both edges are ahead of one line
  edge_apart : (a b c d : Spot) → Stands a c → Stands b d → InCapsule c d (pos r) p ⊎ Sided (vx a) (vy a) (vx b) (vy b) (wx c) (wy c) (wx d) (wy d)
  edge_apart a b c d first last = elim (near_or_cut (p.n *ℤ pos r) (p.n *ℤ c.x -ℤ p.x) (p.n *ℤ c.y -ℤ p.y) (p.n *ℤ d.x -ℤ p.x) (p.n *ℤ d.y -ℤ p.y)) [
    | inl h ↦ inl (capsule_of c d (pos r) p h)
    | inr h ↦ inr (sided (square (meet_of t t).n) (p.n *ℤ pos r) (vx a) (vy a) (vx b) (vy b) (p.n *ℤ c.x -ℤ p.x) (p.n *ℤ c.y -ℤ p.y) (p.n *ℤ d.x -ℤ p.x) (p.n *ℤ d.y -ℤ p.y) (circle_some t some)
        (vectors_near law o angle r t some between p a c first) (vectors_near law o angle r t some between p b d last) h)
  ]

  pub apart : (a : Spot) (xs : List Spot) (c : Spot) (ys : List Spot) → Stands a c → EachOfBoth Stands xs ys → InFrom c ys (pos r) p ⊎ AllSided vx vy wx wy a xs c ys
  apart a [] c [] first all = inr tt
  apart a [] c (d ∷ ys) first all = absurd all
  apart a (b ∷ xs) c [] first all = absurd all
  apart a (b ∷ xs) c (d ∷ ys) first all = elim (edge_apart a b c d first all.0) [
    | inl h ↦ inl (inl h)
    | inr h ↦ elim (apart b xs d ys all.0 all.1) [ inl k ↦ inl (inr k) | inr k ↦ inr (h, k) ]
  ]

  -- then one parity tells both
  pub same_parity : (a : Spot) (xs : List Spot) (c : Spot) (ys : List Spot) → end_from a xs ≡ a → end_from c ys ≡ c → AllSided vx vy wx wy a xs c ys → odd (edges_from a xs) back.x back.y back.n ≡ odd (edges_from c ys) p.x p.y p.n
  same_parity a xs c ys closed closed' all =
      odd_turned (meet_of t t).x (meet_of t t).y (subst (λ (z : ℤ). pos 1 ≤ℤ z) (sym (on_circle t)) (circle_some t some)) back a xs
      ∙ one_parity vx vy wx wy (meet_of t t).x (meet_of t t).y a xs c ys closed closed' all
      ∙ sym (any_way wx wy (meet_of t t).x (meet_of t t).y (circle_way t some) c ys closed' (cleared vx vy wx wy a xs c ys all))
      ∙ sym (odd_here (square (meet_of t t).n) (circle_some t some) p c ys)

  -- and the point is on no turned edge
  edge_off : (a b c d : Spot) → Sided (vx a) (vy a) (vx b) (vy b) (wx c) (wy c) (wx d) (wy d) → InCapsule a b (pos 0) back → ⊥
  edge_off a b c d k h =
      let none = none_apart (back.n *ℤ h.m) (h.m *ℤ back.x -ℤ back.n *ℤ (h.m *ℤ a.x +ℤ h.i *ℤ (b.x -ℤ a.x))) (h.m *ℤ back.y -ℤ back.n *ℤ (h.m *ℤ a.y +ℤ h.i *ℤ (b.y -ℤ a.y))) h.near in
      not_on h.m h.i (vx a) (vy a) (vx b) (vy b) k.gx k.gy h.from_start h.to_end h.positive k.a_is k.b_is
      (place_x (meet_of t t).x (meet_of t t).y h.m h.i back.n back.x back.y a.x a.y b.x b.y none.0 none.1) (place_y (meet_of t t).x (meet_of t t).y h.m h.i back.n back.x back.y a.x a.y b.x b.y none.0 none.1)
    where
      whole : (m i n x a b : ℤ) → m *ℤ (n *ℤ a -ℤ x) +ℤ i *ℤ ((n *ℤ b -ℤ x) -ℤ (n *ℤ a -ℤ x)) ≡ neg_ℤ (m *ℤ x -ℤ n *ℤ (m *ℤ a +ℤ i *ℤ (b -ℤ a)))
      whole m i n x a b = simp ring (omega (arith, linear))

      gone : (m i n x a b : ℤ) → m *ℤ x -ℤ n *ℤ (m *ℤ a +ℤ i *ℤ (b -ℤ a)) ≡ pos 0 → m *ℤ (n *ℤ a -ℤ x) +ℤ i *ℤ ((n *ℤ b -ℤ x) -ℤ (n *ℤ a -ℤ x)) ≡ pos 0
      gone m i n x a b e = omega (arith, linear, whole m i n x a b, e)

      apart_x : (cx cy m i z w u v : ℤ) → m *ℤ (cx *ℤ z -ℤ cy *ℤ w) +ℤ i *ℤ ((cx *ℤ u -ℤ cy *ℤ v) -ℤ (cx *ℤ z -ℤ cy *ℤ w)) ≡ cx *ℤ (m *ℤ z +ℤ i *ℤ (u -ℤ z)) -ℤ cy *ℤ (m *ℤ w +ℤ i *ℤ (v -ℤ w))
      apart_x cx cy m i z w u v = simp ring (omega (arith, linear))

      apart_y : (cx cy m i z w u v : ℤ) → m *ℤ (cx *ℤ w +ℤ cy *ℤ z) +ℤ i *ℤ ((cx *ℤ v +ℤ cy *ℤ u) -ℤ (cx *ℤ w +ℤ cy *ℤ z)) ≡ cx *ℤ (m *ℤ w +ℤ i *ℤ (v -ℤ w)) +ℤ cy *ℤ (m *ℤ z +ℤ i *ℤ (u -ℤ z))
      apart_y cx cy m i z w u v = simp ring (omega (arith, linear))

      place_x : (cx cy m i n x y ax ay bx by : ℤ) → m *ℤ x -ℤ n *ℤ (m *ℤ ax +ℤ i *ℤ (bx -ℤ ax)) ≡ pos 0 → m *ℤ y -ℤ n *ℤ (m *ℤ ay +ℤ i *ℤ (by -ℤ ay)) ≡ pos 0
          → m *ℤ (cx *ℤ (n *ℤ ax -ℤ x) -ℤ cy *ℤ (n *ℤ ay -ℤ y)) +ℤ i *ℤ ((cx *ℤ (n *ℤ bx -ℤ x) -ℤ cy *ℤ (n *ℤ by -ℤ y)) -ℤ (cx *ℤ (n *ℤ ax -ℤ x) -ℤ cy *ℤ (n *ℤ ay -ℤ y))) ≡ pos 0
      place_x cx cy m i n x y ax ay bx by e f =
          apart_x cx cy m i (n *ℤ ax -ℤ x) (n *ℤ ay -ℤ y) (n *ℤ bx -ℤ x) (n *ℤ by -ℤ y) ∙ rw (gone m i n x ax bx e, gone m i n y ay by f) (omega (arith, linear, times-zero cx, times-zero cy))

      place_y : (cx cy m i n x y ax ay bx by : ℤ) → m *ℤ x -ℤ n *ℤ (m *ℤ ax +ℤ i *ℤ (bx -ℤ ax)) ≡ pos 0 → m *ℤ y -ℤ n *ℤ (m *ℤ ay +ℤ i *ℤ (by -ℤ ay)) ≡ pos 0
          → m *ℤ (cx *ℤ (n *ℤ ay -ℤ y) +ℤ cy *ℤ (n *ℤ ax -ℤ x)) +ℤ i *ℤ ((cx *ℤ (n *ℤ by -ℤ y) +ℤ cy *ℤ (n *ℤ bx -ℤ x)) -ℤ (cx *ℤ (n *ℤ ay -ℤ y) +ℤ cy *ℤ (n *ℤ ax -ℤ x))) ≡ pos 0
      place_y cx cy m i n x y ax ay bx by e f =
          apart_y cx cy m i (n *ℤ ax -ℤ x) (n *ℤ ay -ℤ y) (n *ℤ bx -ℤ x) (n *ℤ by -ℤ y) ∙ rw (gone m i n x ax bx e, gone m i n y ay by f) (omega (arith, linear, times-zero cx, times-zero cy))

  pub off_edges : (a : Spot) (xs : List Spot) (c : Spot) (ys : List Spot) → AllSided vx vy wx wy a xs c ys → SomeEdge (OnEdge back) (edges_from a xs) → ⊥
  off_edges a [] c [] all on = absurd on
  off_edges a [] c (d ∷ ys) all on = absurd all
  off_edges a (b ∷ xs) c [] all on = absurd all
  off_edges a (b ∷ xs) c (d ∷ ys) all (inl on) = edge_off a b c d all.0 on
  off_edges a (b ∷ xs) c (d ∷ ys) all (inr on) = off_edges b xs d ys all.1 on

-- ---- above

holds_by : DiscsAreBetween → (figure : List Spot) (o : Spot) (angle : ℕ) (corners : List Spot) (r : ℕ) (p : Point) → OutlineAbove figure o angle corners r
    → (t : Turn) → IsBetween (turns_by o angle) t → (some : IsTurn t) → InArea (edges_of figure) (turned_back (turns_by o angle) t some p) → InArea (edges_of corners) p ⊎ InChain corners (pos r) p
holds_by law [] o angle corners r p h t between some (inl k) = absurd k
holds_by law [] o angle corners r p h t between some (inr k) = absurd k
holds_by law (a ∷ xs) o angle [] r p h t between some k = absurd h.near
holds_by law (a ∷ xs) o angle (c ∷ ys) r p h t between some k = elim (apart law o angle r t some between p a xs c ys h.near.0 h.near.1) [
  | inl l ↦ inr l
  | inr l ↦ elim k [
    | inl on ↦ absurd (off_edges law o angle r t some between p a xs c ys l on)
    | inr over ↦ inl (inr ((odd_is (edges_from c ys) p).0
        (sym (same_parity law o angle r t some between p a xs c ys h.figure_closed h.corners_closed l) ∙ (odd_is (edges_from a xs) (turned_back (turns_by o angle) t some p)).1 over)))
  ]
]

pub outline_holds : DiscsAreBetween → OutlineHolds
outline_holds law figure o angle corners r p h k = holds_by law figure o angle corners r p h k.0 k.1 k.2.some k.2.inside

-- ---- below

-- the corners as a region of straight parts
straight : Spot → Chained
straight b = record { part = Straight b; chain = []; radius = 0 }

narrowed : (a b : Spot) (r : ℤ) (p : Point) → InCapsule a b (pos 0) p → InCapsule a b r p
narrowed a b r p h = record {
  i = h.i;
  m = h.m;
  from_start = h.from_start;
  to_end = h.to_end;
  positive = h.positive;
  near = omega (arith, linear, h.near, none (p.n *ℤ h.m), square_from_zero (p.n *ℤ h.m *ℤ r));
}
  where
    none : (q : ℤ) → square (q *ℤ pos 0) ≡ pos 0
    none q = simp ring

clear_line : (frame : Frame) (points : List Spot) (r : ℕ) (a b : Spot) → IsClear frame points r a b → IsClear frame points 0 a b
clear_line frame points r a b h = record {
  start = h.start;
  end = h.end;
  radius = (record { le = tt }, omega (arith, linear, h.radius.0, h.radius.1));
  inside = (
    (omega (arith, linear, h.radius.0, h.inside.0.0), omega (arith, linear, h.radius.0, h.inside.0.1)),
    (omega (arith, linear, h.radius.0, h.inside.1.0), omega (arith, linear, h.radius.0, h.inside.1.1)),
  );
  apart = λ s. h.apart (record { point = s.point; in_first = s.in_first; in_second = narrowed a b (pos r) s.point s.in_second });
}

xor-shift : (o c r : Bool) → xor (xor o c) r ≡ xor o (xor c r)
xor-shift true true true = refl
xor-shift true true false = refl
xor-shift true false true = refl
xor-shift true false false = refl
xor-shift false c r = refl

module _ (frame : Frame) (points : List Spot) (r : ℕ) where
  around : (z q : Spot) (o : Bool) (a : Spot) (rest : List Spot) → end_from a rest ≡ z → EachFrom (IsClear frame points r) a rest → IsTrue (xor o (odd (edges_from a rest) q.x q.y (pos 1))) → AreAround frame points z q o a (map straight rest)
  unfolding straight
  around z q o a [] ends clear inside = (ends, plain o inside)
    where
      plain : (o : Bool) → IsTrue (xor o false) → IsTrue o
      plain true h = h
      plain false h = h
  around z q o a (b ∷ rest) ends clear inside = (
    (clear.0.end, clear_line frame points r a b clear.0),
    around z q (xor o (crossed (record { start = a; end = b }) q.x q.y (pos 1))) b rest ends clear.1 (xor-shift o (crossed (record { start = a; end = b }) q.x q.y (pos 1)) (odd (edges_from b rest) q.x q.y (pos 1)) ∙ inside),
  )

  -- a point of the area is in no capsule, and on no edge
  kept_off : (p : Point) → InArea (edges_of points) p → (a : Spot) (rest : List Spot) → EachFrom (IsClear frame points r) a rest → InFrom a rest (pos r) p → ⊥
  kept_off p held a [] clear h = h
  kept_off p held a (b ∷ rest) clear (inl h) = clear.0.apart (record { point = p; in_first = held; in_second = h })
  kept_off p held a (b ∷ rest) clear (inr h) = kept_off p held b rest clear.1 h

on_curve : (r : ℕ) (p : Point) (a : Spot) (rest : List Spot) → SomePart OnEachCurve a (parts_of (map straight rest)) p → InFrom a rest (pos r) p
unfolding straight
on_curve r p a [] h = absurd h
on_curve r p a (b ∷ rest) (inl h) = inl (narrowed a b (pos r) p h)
on_curve r p a (b ∷ rest) (inr h) = inr (on_curve r p b rest h)

one_as : {P Q R : Type 0} → Q ↔ R → ExactlyOne P Q → ExactlyOne P R
one_as e (inl h) = inl (h.0, λ k. h.1 (e.1 k))
one_as e (inr h) = inr (e.0 h.0, h.1)

over_as : (p : Point) (a : Spot) (rest : List Spot) → OddOver a (parts_of (map straight rest)) p ↔ OddCrossed (edges_from a rest) p
unfolding straight
over_as p a [] = (λ h. h, λ h. h)
over_as p a (b ∷ rest) = let e = over_as p b rest in (λ h. one_as e h, λ h. one_as (e.1, e.0) h)

lies_by : DiscsAreBetween → TakenLies → (frame : Frame) (figure : List Spot) (o : Spot) (angle : ℕ) (corners : List Spot) (r : ℕ) (points : List Spot) (p : Point) → IsContour points → OutlineBelow frame figure o angle corners r points → InArea (edges_of points) p
    → (t : Turn) → IsBetween (turns_by o angle) t → (some : IsTurn t) → InTurned figure (turns_by o angle) t p
lies_by law lies frame figure o angle [] r points p contour h held t between some = absurd (no h.inside)
  where
    no : IsTrue false → ⊥
    no k = cc
lies_by law lies frame figure o angle (c ∷ []) r points p contour h held t between some = absurd (no h.inside)
  where
    no : IsTrue false → ⊥
    no k = cc
lies_by law lies frame [] o angle (c ∷ d ∷ ys) r points p contour h held t between some = absurd h.stand.near
lies_by law lies frame (a ∷ xs) o angle (c ∷ d ∷ ys) r points p contour h held t between some = elim (apart law o angle r t some between p a xs c (d ∷ ys) h.stand.near.0 h.stand.near.1) [
  | inl l ↦ absurd (kept_off frame points r p held c (d ∷ ys) h.clear l)
  | inr l ↦ record {
    some = some;
    inside = inr ((odd_is (edges_from a xs) (turned_back (turns_by o angle) t some p)).0
        (same_parity law o angle r t some between p a xs c (d ∷ ys) h.stand.figure_closed h.stand.corners_closed l ∙ (odd_is (edges_from c (d ∷ ys)) p).1 over));
  }
]
  where
    within : SurelyIn c (parts_of (map straight (d ∷ ys))) p
    within =
        lies frame c (map straight (d ∷ ys)) points p contour
        (record { start = h.clear.0.start; inside = h.framed; parts = around frame points r c (first_of points) false c (d ∷ ys) h.stand.corners_closed h.clear h.inside }) held

    over : OddCrossed (edges_from c (d ∷ ys)) p
    over = elim within [ inl on ↦ absurd (kept_off frame points r p held c (d ∷ ys) h.clear (on_curve r p c (d ∷ ys) on)) | inr k ↦ (over_as p c (d ∷ ys)).0 k.0 ]

pub outline_lies : DiscsAreBetween → TakenLies → OutlineLies
outline_lies law lies frame figure o angle corners r points p contour h held = λ t between. lies_by law lies frame figure o angle corners r points p contour h held t between between.some
