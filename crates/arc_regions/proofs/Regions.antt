-- A whole contour, part by part.
use Rattle.std.proofs.Common.{ℕ, ◌-◌, ◌/◌, Bool, true, false, IsTrue, List, [], ◌∷◌, ◌++◌, reverse, All, ◌≡◌, ◌↔◌, ◌⊎◌, inl, inr, ℤ, pos, ◌+ℤ◌, ◌-ℤ◌, ◌*ℤ◌, ◌≤ℤ◌, arith, refl, sym, ap, ◌∙◌, subst}
use Rattle.std.proofs.lemmas.List.{reverse-append}
use Rattle.std.proofs.lemmas.List.Elements.{All-head, All-tail}
use Rattle.planar.specs.declared.Spot.{Spot}
use Rattle.planar.specs.declared.Frame.{Frame}
use Rattle.planar.specs.Plane.{InCapsule, IsPlaced, Point, at, dot_of, square, EachFrom}
use Rattle.planar.proofs.Ring.{ring, linear, square_from_zero, times_mono}
use Rattle.planar.proofs.EdgeLaw.{xor, xor-false}
use Rattle.area_contact.specs.declared.Edge.{Edge}
use Rattle.area_contact.specs.Parity.{crossed, crossed_is, odd, odd_is, one_is, passes, xor-comm}
use Rattle.area_contact.specs.Contour.{InArea, OnEdge, SomeEdge, edges_from, edges_of, end_from}
use Rattle.area_contact.proofs.Hits.{on_turned}
use Rattle.arcs.specs.Copper.{InChain, InFrom, Possibly, inmost, outmost, reach_of}
use Rattle.arcs.specs.Chains.{EndsAt, HasRoom, IsRoom}
use Rattle.arcs.specs.Laws.{TakenIsBetween}
use Rattle.arcs.specs.Taken.{TakenAbove as ChainAbove}
use Rattle.arcs.specs.declared.Arc.{Arc}
use Rattle.arcs.proofs.Radii.{end_over, end_under, start_over, start_under}
use Rattle.arc_regions.specs.Copper.{InBand, InSector, IsOver, OddOver, OnSomeCurve, PossiblyIn, SomePart, SurelyIn, arc_of, end_of}
use Rattle.arc_regions.specs.Laws.{TakenHolds, TakenLies}
use Rattle.arc_regions.specs.Taken.{AreAround, AreClear, AreStretches, Chained, InCapsules, IsClear, IsPartClear, InLinks, StandsAs, StandsFor, behind_first, corners_behind, corners_by, odd_part, odd_past, odd_round, parts_of}
use Rattle.arc_regions.specs.declared.Part.{Part}
use Rattle.arc_regions.specs.declared.Part.TheVariants.{Straight, Curved}
use Rattle.arc_regions.proofs.Edges.{end_append, some_before, some_behind}
use Rattle.arc_regions.proofs.Fans.{ArePlaced, or-swap}
use Rattle.arc_regions.proofs.Inside.{all_inside}
use Rattle.arc_regions.proofs.Margin.{margin, margin_from, narrow}
use Rattle.arc_regions.proofs.Sectors.{Told as SectorTold, arc_told, rotate, xor-assoc}

-- ---- rows of edges

odd_append : (a : Spot) (xs ys : List Spot) (x y n : ℤ) → odd (edges_from a (xs ++ ys)) x y n ≡ xor (odd (edges_from a xs) x y n) (odd (edges_from (end_from a xs) ys) x y n)
odd_append a [] ys x y n = refl
odd_append a (b ∷ xs) ys x y n =
    ap (λ (z : Bool). xor (crossed (record { start = a; end = b }) x y n) z) (odd_append b xs ys x y n)
    ∙ sym (xor-assoc (crossed (record { start = a; end = b }) x y n) (odd (edges_from b xs) x y n) (odd (edges_from (end_from b xs) ys) x y n))

some_of : (P : Edge → Type 0) (a : Spot) (xs ys : List Spot) → SomeEdge P (edges_from a (xs ++ ys)) → SomeEdge P (edges_from a xs) ⊎ SomeEdge P (edges_from (end_from a xs) ys)
some_of P a [] ys h = inr h
some_of P a (b ∷ xs) ys (inl h) = inl (inl h)
some_of P a (b ∷ xs) ys (inr h) = elim (some_of P b xs ys h) [ inl k ↦ inl (inr k) | inr k ↦ inr k ]

-- the same line, walked back
record Back (a : Spot) (rest : List Spot) (x y n : ℤ) : Type 0 where
  others : List Spot
  is : reverse (a ∷ rest) ≡ end_from a rest ∷ others
  ends : end_from (end_from a rest) others ≡ a
  same : odd (edges_from (end_from a rest) others) x y n ≡ odd (edges_from a rest) x y n
  on : (z : Point) → SomeEdge (OnEdge z) (edges_from (end_from a rest) others) → SomeEdge (OnEdge z) (edges_from a rest)

walked_back : (a : Spot) (rest : List Spot) (x y n : ℤ) → Back a rest x y n
walked_back a [] x y n = record { others = []; is = refl; ends = refl; same = refl; on = λ z h. h }
walked_back a (b ∷ rest) x y n = let w = walked_back b rest x y n in record {
  others = w.others ++ (a ∷ []);
  is = reverse-append (a ∷ []) (b ∷ rest) ∙ ap (λ (l : List Spot). l ++ (a ∷ [])) w.is;
  ends = end_append (end_from b rest) w.others (a ∷ []);
  same =
      odd_append (end_from b rest) w.others (a ∷ []) x y n
      ∙ ap (λ (z : Spot). xor (odd (edges_from (end_from b rest) w.others) x y n) (odd (edges_from z (a ∷ [])) x y n)) w.ends
      ∙ ap (λ (z : Bool). xor z (odd (edges_from b (a ∷ [])) x y n)) w.same
      ∙ xor-comm (odd (edges_from b rest) x y n) (odd (edges_from b (a ∷ [])) x y n)
      ∙ ap (λ (z : Bool). xor z (odd (edges_from b rest) x y n)) (xor-false (crossed (record { start = b; end = a }) x y n) ∙ or-swap (passes b a x y n) (passes a b x y n));
  on = λ z h. elim (some_of (OnEdge z) (end_from b rest) w.others (a ∷ []) h) [
    | inl k ↦ inr (w.on z k)
    | inr k ↦ inl (on_turned a b (pos 0) z (last z (subst (λ (s : Spot). SomeEdge (OnEdge z) (edges_from s (a ∷ []))) w.ends k)))
  ];
}
  where
    last : (z : Point) → SomeEdge (OnEdge z) (edges_from b (a ∷ [])) → InCapsule b a (pos 0) z
    last z (inl h) = h
    last z (inr h) = absurd h

each_placed : (xs : List Spot) → All IsPlaced xs → ArePlaced xs
each_placed [] h = tt
each_placed (a ∷ rest) h = (All-head IsPlaced a rest h, each_placed rest (All-tail IsPlaced a rest h))

ends_from : (e a : Spot) (rest : List Spot) → EndsAt e a rest → end_from a rest ≡ e
ends_from e a [] h = h
ends_from e a (b ∷ rest) h = ends_from e b rest h

-- ---- an arc and its chain, counterclockwise from s to e

module _ (p : Point) (between : TakenIsBetween) (c s e : Spot) (chain : List Spot) (r : ℕ) (above : ChainAbove (record { centre = c; start = s; end = e; width = 0 }) chain r) where
  abbrev arc : Arc
  arc = record { centre = c; start = s; end = e; width = 0 }

  placed : ArePlaced (s ∷ above.second ∷ above.rest)
  placed = each_placed (s ∷ above.second ∷ above.rest) (subst (λ (l : List Spot). All IsPlaced l) above.is above.judged.spots)

  last : end_from above.second above.rest ≡ e
  last = ends_from e above.second above.rest above.ends

  room : HasRoom (inmost arc) (outmost arc) above.near above.far (pos r)
  room = subst (λ (n : ℕ). HasRoom (inmost arc) (outmost arc) above.near above.far (pos n)) less above.room
    where
      less : r - (0 - 0 / 2) ≡ r
      less = omega arith

  -- so of each distance
  room_of : (f : ℤ) → inmost arc ≤ℤ f → f ≤ℤ outmost arc → IsRoom f f room.least room.most above.near above.far (pos r)
  room_of f from to = record {
    least_from = room.room.least_from;
    most_from = room.room.most_from;
    near_from = room.room.near_from;
    far_from = room.room.far_from;
    k_from = room.room.k_from;
    least_is = omega (arith, linear, room.room.least_is, from);
    most_is = omega (arith, linear, room.room.most_is, to);
    near_is = room.room.near_is;
    far_is = room.room.far_is;
  }

  in_chain : InFrom s (above.second ∷ above.rest) (pos r) p → InChain chain (pos r) p
  in_chain h = subst (λ (l : List Spot). InChain l (pos r) p) (sym above.is) h

  -- the sector of a distance as a test: where the point is in no capsule, the chain is told by it
  record ChainTold (f : ℤ) : Type 0 where
    sector : Bool
    sector_is : IsTrue sector ↔ InSector c s e f p
    same : (odd (edges_from s (above.second ∷ above.rest)) p.x p.y p.n ≡ xor (crossed (record { start = c; end = s }) p.x p.y p.n) (xor (crossed (record { start = c; end = e }) p.x p.y p.n) sector)) ⊎ InChain chain (pos r) p

  chain_told : IsTrue (odd_round c chain) ↔ (s ≡ e) → (f : ℤ) → inmost arc ≤ℤ f → f ≤ℤ outmost arc → ChainTold f
  chain_told turns f from to = by (arc_told margin margin_from narrow p c s e above.judged.placed.centre above.judged.placed.start above.judged.placed.end f room.least room.most above.near above.far (pos r) (room_of f from to) above.second above.rest placed.1.0 placed.1.1 above.links last turns')
    where
      turns' : IsTrue (odd_past c s s (above.second ∷ above.rest)) ↔ (s ≡ e)
      turns' = subst (λ (l : List Spot). IsTrue (odd_round c l) ↔ (s ≡ e)) above.is turns

      by : SectorTold margin margin_from narrow p c s e above.judged.placed.centre above.judged.placed.start above.judged.placed.end f room.least room.most above.near above.far (pos r) (room_of f from to) above.second above.rest placed.1.0 placed.1.1 above.links last → ChainTold f
      by t = record { sector = t.sector; sector_is = t.sector_is; same = elim t.same [ inl h ↦ inl h | inr h ↦ inr (in_chain h) ] }

  -- what may be on a curve lies in the capsules
  border_told : InBand (inmost arc) (outmost arc) arc p → InChain chain (pos r) p
  border_told (turn, from, to) = (between arc chain r p).1 above possible
    where
      possible : Possibly arc p
      possible meant k some = record {
        place = p;
        turn = inl turn;
        ring = (inl (longer (square k) (square p.n *ℤ outmost arc) (reach_of c p) (p.n *ℤ pos 1) (square_from_zero k) to), inl (longer (square k) (reach_of c p) (square p.n *ℤ inmost arc) (p.n *ℤ pos 1) (square_from_zero k) from));
        near = omega (arith, linear, nothing (pos 2 *ℤ k) (p.n *ℤ p.x) (p.n *ℤ p.y), square_from_zero (p.n *ℤ p.n *ℤ (k *ℤ pos 0 +ℤ pos 2)));
      }
        where
          longer : (m a b w : ℤ) → pos 0 ≤ℤ m → b ≤ℤ a → (m *ℤ b -ℤ m *ℤ a -ℤ square w) ≤ℤ pos 0
          longer m a b w from h = omega (arith, linear, times_mono m b a from h, square_from_zero w)

          nothing : (m x y : ℤ) → square m *ℤ (square (x -ℤ x) +ℤ square (y -ℤ y)) ≡ pos 0
          nothing m x y =
              let ex : x -ℤ x ≡ pos 0 = omega (arith, linear) in
              let ey : y -ℤ y ≡ pos 0 = omega (arith, linear) in
              rw (ex, ey) (simp ring)

-- ---- a part

-- what is told of a part at a place: whether the place is over it, and of its border
record Told (p : Point) (a : Spot) (part : Part) (chain : List Spot) (r : ℕ) : Type 0 where
  placed : IsPlaced (end_of part)
  ends : end_from a (corners_by part chain) ≡ end_of part
  over : Bool
  over_is : IsTrue over ↔ IsOver a part p
  same : (odd (edges_from a (corners_by part chain)) p.x p.y p.n ≡ over) ⊎ InLinks part chain r p
  border : OnSomeCurve a part p → SomeEdge (OnEdge p) (edges_from a (corners_by part chain)) ⊎ InLinks part chain r p

module _ (p : Point) (between : TakenIsBetween) where
  curved : (a c b : Spot) (w : Bool) (chain : List Spot) (r : ℕ) → StandsFor a (record { centre = c; end = b; counterclockwise = w }) chain r → Told p a (Curved (record { centre = c; end = b; counterclockwise = w })) chain r
  curved a c b true chain r h = by (chain_told p between c a b chain r h.above h.turns (dot_of c a a) (start_over (arc_of a (record { centre = c; end = b; counterclockwise = true }))) (start_under (arc_of a (record { centre = c; end = b; counterclockwise = true }))))
    where
      corners : corners_by (Curved (record { centre = c; end = b; counterclockwise = true })) chain ≡ h.above.second ∷ h.above.rest
      corners = ap (λ (l : List Spot). corners_by (Curved (record { centre = c; end = b; counterclockwise = true })) l) h.above.is

      by : ChainTold p between c a b chain r h.above (dot_of c a a) → Told p a (Curved (record { centre = c; end = b; counterclockwise = true })) chain r
      by t = record {
        placed = h.above.judged.placed.end;
        ends = ap (λ (l : List Spot). end_from a l) corners ∙ ends_from b h.above.second h.above.rest h.above.ends;
        over = xor (crossed (record { start = c; end = a }) p.x p.y p.n) (xor (crossed (record { start = c; end = b }) p.x p.y p.n) t.sector);
        over_is = one_is (crossed (record { start = c; end = a }) p.x p.y p.n) (xor (crossed (record { start = c; end = b }) p.x p.y p.n) t.sector) (crossed_is (record { start = c; end = a }) p)
            (one_is (crossed (record { start = c; end = b }) p.x p.y p.n) t.sector (crossed_is (record { start = c; end = b }) p) t.sector_is);
        same = subst (λ (l : List Spot). (odd (edges_from a l) p.x p.y p.n ≡ xor (crossed (record { start = c; end = a }) p.x p.y p.n) (xor (crossed (record { start = c; end = b }) p.x p.y p.n) t.sector)) ⊎ InChain chain (pos r) p) (sym corners) t.same;
        border = λ on. inr (border_told p between c a b chain r h.above (on (h.above.judged.meant, h.turn)));
      }
  curved a c b false chain r h = by (chain_told p between c b a chain r h.above h.turns (dot_of c a a) (end_over (arc_of a (record { centre = c; end = b; counterclockwise = false }))) (end_under (arc_of a (record { centre = c; end = b; counterclockwise = false }))))
    where
      w : Back b (h.above.second ∷ h.above.rest) p.x p.y p.n
      w = walked_back b (h.above.second ∷ h.above.rest) p.x p.y p.n

      last : end_from h.above.second h.above.rest ≡ a
      last = ends_from a h.above.second h.above.rest h.above.ends

      corners : corners_by (Curved (record { centre = c; end = b; counterclockwise = false })) chain ≡ w.others
      corners = ap (λ (l : List Spot). corners_by (Curved (record { centre = c; end = b; counterclockwise = false })) l) h.above.is ∙ ap behind_first w.is

      by : ChainTold p between c b a chain r h.above (dot_of c a a) → Told p a (Curved (record { centre = c; end = b; counterclockwise = false })) chain r
      by t = record {
        placed = h.above.judged.placed.start;
        ends = ap (λ (l : List Spot). end_from a l) corners ∙ ap (λ (z : Spot). end_from z w.others) (sym last) ∙ w.ends;
        over = xor (crossed (record { start = c; end = a }) p.x p.y p.n) (xor (crossed (record { start = c; end = b }) p.x p.y p.n) t.sector);
        over_is = one_is (crossed (record { start = c; end = a }) p.x p.y p.n) (xor (crossed (record { start = c; end = b }) p.x p.y p.n) t.sector) (crossed_is (record { start = c; end = a }) p)
            (one_is (crossed (record { start = c; end = b }) p.x p.y p.n) t.sector (crossed_is (record { start = c; end = b }) p) t.sector_is);
        same = elim t.same [
          | inr k ↦ inr k
          | inl k ↦ inl (ap (λ (l : List Spot). odd (edges_from a l) p.x p.y p.n) corners ∙ ap (λ (z : Spot). odd (edges_from z w.others) p.x p.y p.n) (sym last) ∙ w.same ∙ k
              ∙ rotate (crossed (record { start = c; end = b }) p.x p.y p.n) (crossed (record { start = c; end = a }) p.x p.y p.n) t.sector)
        ];
        border = λ on. inr (border_told p between c b a chain r h.above (on (h.above.judged.meant, h.turn)));
      }

  part_told : (a : Spot) (part : Part) (chain : List Spot) (r : ℕ) → StandsAs a part chain r → Told p a part chain r
  part_told a (Straight b) chain r h = record {
    placed = h;
    ends = refl;
    over = crossed (record { start = a; end = b }) p.x p.y p.n;
    over_is = crossed_is (record { start = a; end = b }) p;
    same = inl (xor-false (crossed (record { start = a; end = b }) p.x p.y p.n));
    border = λ on. inl (inl on);
  }
  part_told a (Curved t) chain r h = curved a t.centre t.end t.counterclockwise chain r h

  -- ---- the contour

  record AllTold (a : Spot) (xs : List Chained) : Type 0 where
    over : Bool
    over_is : IsTrue over ↔ OddOver a (parts_of xs) p
    same : (odd (edges_from a (corners_behind xs)) p.x p.y p.n ≡ over) ⊎ InCapsules xs p
    border : SomePart OnSomeCurve a (parts_of xs) p → SomeEdge (OnEdge p) (edges_from a (corners_behind xs)) ⊎ InCapsules xs p

  all_told : (z a : Spot) (xs : List Chained) → AreStretches z a xs → AllTold a xs
  all_told z a [] h = record { over = false; over_is = (none, absurd); same = inl refl; border = absurd }
    where
      none : IsTrue false → ⊥
      none h = cc
  all_told z a (x ∷ rest) h = join (part_told a x.part x.chain x.radius h.0) (all_told z (end_of x.part) rest h.1)
    where
      join : Told p a x.part x.chain x.radius → AllTold (end_of x.part) rest → AllTold a (x ∷ rest)
      join t o = record {
        over = xor t.over o.over;
        over_is = one_is t.over o.over t.over_is o.over_is;
        same = elim t.same [
          | inr k ↦ inr (inl k)
          | inl k ↦ elim o.same [
            | inr l ↦ inr (inr l)
            | inl l ↦ inl (odd_append a (corners_by x.part x.chain) (corners_behind rest) p.x p.y p.n
                ∙ ap (λ (s : Spot). xor (odd (edges_from a (corners_by x.part x.chain)) p.x p.y p.n) (odd (edges_from s (corners_behind rest)) p.x p.y p.n)) t.ends
                ∙ ap (λ (s : Bool). xor s (odd (edges_from (end_of x.part) (corners_behind rest)) p.x p.y p.n)) k ∙ ap (λ (s : Bool). xor t.over s) l)
          ]
        ];
        border = on;
      }
        where
          on : SomePart OnSomeCurve a (parts_of (x ∷ rest)) p → SomeEdge (OnEdge p) (edges_from a (corners_behind (x ∷ rest))) ⊎ InCapsules (x ∷ rest) p
          on (inl k) = elim (t.border k) [ inl l ↦ inl (some_before (OnEdge p) a (corners_by x.part x.chain) (corners_behind rest) l) | inr l ↦ inr (inl l) ]
          on (inr k) = elim (o.border k) [
            | inl l ↦ inl (some_behind (OnEdge p) a (corners_by x.part x.chain) (corners_behind rest) (subst (λ (s : Spot). SomeEdge (OnEdge p) (edges_from s (corners_behind rest))) (sym t.ends) l))
            | inr l ↦ inr (inr l)
          ]

pub taken_holds : TakenIsBetween → TakenHolds
taken_holds between a xs p taken inside = by (all_told p between a a xs taken.parts) inside
  where
    by : AllTold p between a xs → PossiblyIn a (parts_of xs) p → InArea (edges_from a (corners_behind xs)) p ⊎ InCapsules xs p
    by t (inl on) = elim (t.border on) [ inl h ↦ inl (inl h) | inr h ↦ inr h ]
    by t (inr over) = elim t.same [ inl h ↦ inl (inr ((odd_is (edges_from a (corners_behind xs)) p).0 (h ∙ t.over_is.1 over))) | inr h ↦ inr h ]

-- ---- below

-- the area has no point on the edges that stand for the part, nor in its capsules; and its corner's parity is told by the chain
record Clear (points : List Spot) (a : Spot) (part : Part) (chain : List Spot) (r : ℕ) (q : Spot) : Type 0 where
  edges : (z : Point) → InArea (edges_of points) z → SomeEdge (OnEdge z) (edges_from a (corners_by part chain)) → ⊥
  links : (z : Point) → InArea (edges_of points) z → InLinks part chain r z → ⊥
  same : odd (edges_from a (corners_by part chain)) q.x q.y (pos 1) ≡ odd_part q a part chain

-- what lies on a segment lies in the capsule
thicker : (a b : Spot) (r : ℤ) (z : Point) → InCapsule a b (pos 0) z → InCapsule a b r z
thicker a b r z h = record { i = h.i; m = h.m; from_start = h.from_start; to_end = h.to_end; positive = h.positive; near = omega (arith, linear, h.near, square_from_zero (z.n *ℤ h.m *ℤ r), none (z.n *ℤ h.m)) }
  where
    none : (w : ℤ) → square (w *ℤ pos 0) ≡ pos 0
    none w = simp ring

module _ (frame : Frame) (points : List Spot) where
  from_clear : (r : ℕ) (a : Spot) (rest : List Spot) → EachFrom (IsClear frame points r) a rest → (z : Point) → InArea (edges_of points) z → InFrom a rest (pos r) z → ⊥
  from_clear r a [] all z inside h = h
  from_clear r a (b ∷ rest) all z inside (inl h) = all.0.apart (record { point = z; in_first = inside; in_second = h })
  from_clear r a (b ∷ rest) all z inside (inr h) = from_clear r b rest all.1 z inside h

  edges_clear : (r : ℕ) (a : Spot) (rest : List Spot) → EachFrom (IsClear frame points r) a rest → (z : Point) → InArea (edges_of points) z → SomeEdge (OnEdge z) (edges_from a rest) → ⊥
  edges_clear r a [] all z inside h = h
  edges_clear r a (b ∷ rest) all z inside (inl h) = all.0.apart (record { point = z; in_first = inside; in_second = thicker a b (pos r) z h })
  edges_clear r a (b ∷ rest) all z inside (inr h) = edges_clear r b rest all.1 z inside h

  curved_clear : (a c b : Spot) (w : Bool) (chain : List Spot) (r : ℕ) (q : Spot) → StandsFor a (record { centre = c; end = b; counterclockwise = w }) chain r → AreClear frame points r chain
      → Clear points a (Curved (record { centre = c; end = b; counterclockwise = w })) chain r q
  curved_clear a c b true chain r q h clear =
      let all : EachFrom (IsClear frame points r) a (h.above.second ∷ h.above.rest) = subst (λ (l : List Spot). AreClear frame points r l) h.above.is clear in
      let corners : corners_by (Curved (record { centre = c; end = b; counterclockwise = true })) chain ≡ h.above.second ∷ h.above.rest = ap (λ (l : List Spot). corners_by (Curved (record { centre = c; end = b; counterclockwise = true })) l) h.above.is in record {
        edges = λ z inside on. edges_clear r a (h.above.second ∷ h.above.rest) all z inside (subst (λ (l : List Spot). SomeEdge (OnEdge z) (edges_from a l)) corners on);
        links = λ z inside on. from_clear r a (h.above.second ∷ h.above.rest) all z inside (subst (λ (l : List Spot). InChain l (pos r) z) h.above.is on);
        same = ap (λ (l : List Spot). odd (edges_from a l) q.x q.y (pos 1)) corners ∙ sym (ap (λ (l : List Spot). odd (edges_of l) q.x q.y (pos 1)) h.above.is);
      }
  curved_clear a c b false chain r q h clear =
      let all : EachFrom (IsClear frame points r) b (h.above.second ∷ h.above.rest) = subst (λ (l : List Spot). AreClear frame points r l) h.above.is clear in
      let w = walked_back b (h.above.second ∷ h.above.rest) q.x q.y (pos 1) in
      let last : end_from h.above.second h.above.rest ≡ a = ends_from a h.above.second h.above.rest h.above.ends in
      let corners : corners_by (Curved (record { centre = c; end = b; counterclockwise = false })) chain ≡ w.others = ap (λ (l : List Spot). corners_by (Curved (record { centre = c; end = b; counterclockwise = false })) l) h.above.is ∙ ap behind_first w.is in record {
        edges = λ z inside on. edges_clear r b (h.above.second ∷ h.above.rest) all z inside (w.on z (subst (λ (s : Spot). SomeEdge (OnEdge z) (edges_from s w.others)) (sym last) (subst (λ (l : List Spot). SomeEdge (OnEdge z) (edges_from a l)) corners on)));
        links = λ z inside on. from_clear r b (h.above.second ∷ h.above.rest) all z inside (subst (λ (l : List Spot). InChain l (pos r) z) h.above.is on);
        same = ap (λ (l : List Spot). odd (edges_from a l) q.x q.y (pos 1)) corners ∙ ap (λ (s : Spot). odd (edges_from s w.others) q.x q.y (pos 1)) (sym last) ∙ w.same ∙ sym (ap (λ (l : List Spot). odd (edges_of l) q.x q.y (pos 1)) h.above.is);
      }

  part_clear : (a : Spot) (part : Part) (chain : List Spot) (r : ℕ) (q : Spot) → StandsAs a part chain r → IsPartClear frame points a part chain r → Clear points a part chain r q
  part_clear a (Straight b) chain r q h clear = record {
    edges = λ z inside on. clear.apart (record { point = z; in_first = inside; in_second = only z on });
    links = λ z inside on. on;
    same = xor-false (crossed (record { start = a; end = b }) q.x q.y (pos 1));
  }
    where
      only : (z : Point) → SomeEdge (OnEdge z) (edges_from a (b ∷ [])) → InCapsule a b (pos 0) z
      only z (inl h) = h
      only z (inr h) = absurd h
  part_clear a (Curved t) chain r q h clear = curved_clear a t.centre t.end t.counterclockwise chain r q h clear

  -- the same of the contour from a to z, whose parity o is known before
  record AllClear (z q : Spot) (o : Bool) (a : Spot) (xs : List Chained) : Type 0 where
    stretches : AreStretches z a xs
    ends : end_from a (corners_behind xs) ≡ z
    edges : (p : Point) → InArea (edges_of points) p → SomeEdge (OnEdge p) (edges_from a (corners_behind xs)) → ⊥
    links : (p : Point) → InArea (edges_of points) p → InCapsules xs p → ⊥
    inside : IsTrue (xor o (odd (edges_from a (corners_behind xs)) q.x q.y (pos 1)))

  all_clear : (between : TakenIsBetween) (z q : Spot) (o : Bool) (a : Spot) (xs : List Chained) → AreAround frame points z q o a xs → AllClear z q o a xs
  all_clear between z q o a [] h = record { stretches = h.0; ends = h.0; edges = λ p inside on. on; links = λ p inside on. on; inside = xor-false o ∙ h.1 }
  all_clear between z q o a (x ∷ rest) h =
      join (part_told (at q) between a x.part x.chain x.radius h.0.0) (part_clear a x.part x.chain x.radius q h.0.0 h.0.1) (all_clear between z q (xor o (odd_part q a x.part x.chain)) (end_of x.part) rest h.1)
    where
      join : Told (at q) a x.part x.chain x.radius → Clear points a x.part x.chain x.radius q → AllClear z q (xor o (odd_part q a x.part x.chain)) (end_of x.part) rest → AllClear z q o a (x ∷ rest)
      join t c r = record {
        stretches = (h.0.0, r.stretches);
        ends = end_append a (corners_by x.part x.chain) (corners_behind rest) ∙ ap (λ (s : Spot). end_from s (corners_behind rest)) t.ends ∙ r.ends;
        edges = λ p inside on. elim (some_of (OnEdge p) a (corners_by x.part x.chain) (corners_behind rest) on) [
          | inl k ↦ c.edges p inside k
          | inr k ↦ r.edges p inside (subst (λ (s : Spot). SomeEdge (OnEdge p) (edges_from s (corners_behind rest))) t.ends k)
        ];
        links = λ p inside on. elim on [ inl k ↦ c.links p inside k | inr k ↦ r.links p inside k ];
        inside =
            ap (λ (b : Bool). xor o b) (odd_append a (corners_by x.part x.chain) (corners_behind rest) q.x q.y (pos 1)
            ∙ ap (λ (s : Spot). xor (odd (edges_from a (corners_by x.part x.chain)) q.x q.y (pos 1)) (odd (edges_from s (corners_behind rest)) q.x q.y (pos 1))) t.ends
            ∙ ap (λ (b : Bool). xor b (odd (edges_from (end_of x.part) (corners_behind rest)) q.x q.y (pos 1))) c.same)
            ∙ sym (xor-assoc o (odd_part q a x.part x.chain) (odd (edges_from (end_of x.part) (corners_behind rest)) q.x q.y (pos 1))) ∙ r.inside;
      }

pub taken_lies : TakenIsBetween → TakenLies
taken_lies between frame a xs [] p contour taken (inl h) = absurd h
taken_lies between frame a xs [] p contour taken (inr h) = absurd h
taken_lies between frame a xs (b ∷ rest) p contour taken inside = by (all_clear frame (b ∷ rest) between a b false a xs taken.parts)
  where
    by : AllClear frame (b ∷ rest) a b false a xs → SurelyIn a (parts_of xs) p
    by t = told (all_told p between a a xs t.stretches)
      where
        odd_here : IsTrue (odd (edges_from a (corners_behind xs)) p.x p.y p.n)
        odd_here = all_inside a (corners_behind xs) b rest t.ends contour.closed (λ z on h. t.edges z h on) t.inside p inside

        told : AllTold p between a xs → SurelyIn a (parts_of xs) p
        told o = elim o.same [
          | inl h ↦ inr (o.over_is.0 (sym h ∙ odd_here), λ on. absurd (elim (o.border on) [ inl k ↦ t.edges p inside k | inr k ↦ t.links p inside k ]))
          | inr h ↦ absurd (t.links p inside h)
        ]
