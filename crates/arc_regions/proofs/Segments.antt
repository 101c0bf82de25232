-- Circular segments: of an arc whose ends are as far from its centre the ray crosses an odd number of the lines from the centre and of the sector's border where it does of the chord and of the segment's.
use Rattle.std.proofs.Common.{Bool, true, false, IsTrue, not, ◌&&◌, ◌||◌, ◌≡◌, ◌↔◌, ◌⊎◌, inl, inr, ℤ, pos, neg_ℤ, ◌+ℤ◌, ◌-ℤ◌, ◌*ℤ◌, ◌≤ℤ◌, ◌<ℤ◌, arith, refl, sym, ap, ◌∙◌}
use lib.Signed.{lt_z, le_z}
use Rattle.planar.specs.declared.Spot.{Spot}
use Rattle.planar.specs.Plane.{IsPlaced, Point, RayCrosses, cross_of, dot_of, square}
use Rattle.planar.proofs.Ring.{ring, linear, le_or_lt, square_over, square_cancel, square-neg, times-zero, zero-times}
use Rattle.planar.proofs.EdgeLaw.{xor, not_lt, not_le, is_lt, is_le, xor-same}
use Rattle.area_contact.specs.Contour.{ExactlyOne}
use Rattle.area_contact.specs.Parity.{crossed_is, one_is, passes, xor-comm}
use Rattle.arcs.specs.Copper.{reach_of}
use Rattle.arcs.specs.Copper.{side_of as side_at}
use Rattle.arcs.proofs.Vectors.{norm, norm_from_zero, norm_none, lagrange}
use Rattle.arcs.proofs.Radii.{lt_false, lt_true}
use Rattle.arc_regions.specs.Copper.{InSector, InSweep, IsRight}
use Rattle.arc_regions.specs.Laws.{SegmentOfEven}
use Rattle.arc_regions.proofs.Chords.{at_start, under_square, within}
use Rattle.arc_regions.proofs.Fans.{both_ends, chord_side, edge_back, fan, fan_by, first_two, last_two, left_from, on_left, over_edge, right_from, shifted, shifted_back, shifted_sum, sign_of}
use Rattle.arc_regions.proofs.Hits.{Sign, over, under, is_over, is_under}
use Rattle.arc_regions.proofs.Margin.{margin, margin_from, narrow as narrow_placed}
use Rattle.arc_regions.proofs.Sectors.{both_true, in_disc, left_back, right_of, rotate, same_or, turned_is, xor-assoc}
use Rattle.arc_regions.proofs.Shifted.{IsNarrow}
use Rattle.arc_regions.proofs.Turning.{swept, turned}

-- ---- tests

-- both of two turned round
both_turned : (i w l : Bool) → xor (i && w) (i && not l) ≡ xor (i && not w) (i && l)
both_turned true true true = refl
both_turned true true false = refl
both_turned true false true = refl
both_turned true false false = refl
both_turned false w l = refl

not_swept : (s e : Bool) → (s || not e) ≡ not (swept e s)
not_swept true true = refl
not_swept true false = refl
not_swept false true = refl
not_swept false false = refl

twice : (a d : Bool) → xor a (xor a d) ≡ d
twice true true = refl
twice true false = refl
twice false d = refl

regroup : (o a b t g : Bool) → xor o (xor a b) ≡ xor t g → xor a (xor b t) ≡ xor o g
regroup o a b t g h = sym (xor-assoc a b t) ∙ ap (λ (z : Bool). xor z t) (sym (twice o (xor a b)) ∙ ap (λ (z : Bool). xor o z) h) ∙ last o t g
  where
    last : (o t g : Bool) → xor (xor o (xor t g)) t ≡ xor o g
    last true true true = refl
    last true true false = refl
    last true false true = refl
    last true false false = refl
    last false true true = refl
    last false true false = refl
    last false false true = refl
    last false false false = refl

-- ---- weights

weights : (sx sy ex ey x y : ℤ) → (sx *ℤ ey -ℤ sy *ℤ ex) *ℤ x ≡ neg_ℤ (ex *ℤ y -ℤ ey *ℤ x) *ℤ sx +ℤ (sx *ℤ y -ℤ sy *ℤ x) *ℤ ex
weights sx sy ex ey x y = simp ring (omega (arith, linear))

weights' : (sx sy ex ey x y : ℤ) → (sx *ℤ ey -ℤ sy *ℤ ex) *ℤ y ≡ neg_ℤ (ex *ℤ y -ℤ ey *ℤ x) *ℤ sy +ℤ (sx *ℤ y -ℤ sy *ℤ x) *ℤ ey
weights' sx sy ex ey x y = simp ring (omega (arith, linear))

-- the point is the spot
abbrev IsAt : Spot → Point → Type 0
IsAt a p = reach_of a p ≡ pos 0

at_spot : (a c : Spot) (p : Point) → p.x -ℤ p.n *ℤ c.x ≡ p.n *ℤ (a.x -ℤ c.x) → p.y -ℤ p.n *ℤ c.y ≡ p.n *ℤ (a.y -ℤ c.y) → IsAt a p
at_spot a c p h k = nothing (p.x -ℤ p.n *ℤ a.x) (p.y -ℤ p.n *ℤ a.y) (off p.x p.n a.x c.x h) (off p.y p.n a.y c.y k)
  where
    nothing : (z w : ℤ) → z ≡ pos 0 → w ≡ pos 0 → square z +ℤ square w ≡ pos 0
    nothing z w h k = rw (h, k) (omega (arith, linear, times-zero (pos 0)))

    off : (x n a c : ℤ) → x -ℤ n *ℤ c ≡ n *ℤ (a -ℤ c) → x -ℤ n *ℤ a ≡ pos 0
    off x n a c h = let e : n *ℤ (a -ℤ c) ≡ n *ℤ a -ℤ n *ℤ c = simp ring in omega (arith, linear, h, e)

-- an edge of no length is not crossed
self_passes : (a : Spot) (x y n : ℤ) → passes a a x y n ≡ false
self_passes a x y n = elim (le_or_lt (n *ℤ a.y -ℤ y) (pos 0)) [
  | inl l ↦ rw (is_le (n *ℤ a.y -ℤ y) (pos 0) l, not_lt (pos 0) (n *ℤ a.y -ℤ y) l) refl
  | inr g ↦ rw (not_le (n *ℤ a.y -ℤ y) (pos 0) g) refl
]

module _ (m : ℤ) (hm : pos 2 ≤ℤ m) (narrow : (a b : Spot) → IsPlaced a → IsPlaced b → IsNarrow m a b) (p : Point) (c : Spot) (hc : IsPlaced c) (r : ℤ) where
  abbrev left : Spot → Spot → Bool
  left a b = on_left m hm narrow p a b

  abbrev edge : Spot → Spot → Bool
  edge a b = over_edge m hm narrow p a b

  abbrev side : Spot → Spot → ℤ
  side a b = shifted m hm narrow p a b

  abbrev disc : Bool
  disc = le_z (reach_of c p) (square p.n *ℤ r)

  -- ---- a turn of less than a half

  module _ (a b : Spot) (ha : IsPlaced a) (hb : IsPlaced b) (turns : pos 1 ≤ℤ cross_of c a b) (ra : dot_of c a a ≡ r) (rb : dot_of c b b ≡ r) where
    less : ((a.x -ℤ c.x) *ℤ (b.x -ℤ c.x) +ℤ (a.y -ℤ c.y) *ℤ (b.y -ℤ c.y)) <ℤ r
    less = under_square (a.x -ℤ c.x) (a.y -ℤ c.y) (b.x -ℤ c.x) (b.y -ℤ c.y) r ra rb (square_over (cross_of c a b) turns)

    in_triangle : pos 0 ≤ℤ side_at c a p → side_at c b p ≤ℤ pos 0 → pos 0 ≤ℤ side_at a b p → reach_of c p ≤ℤ (square p.n *ℤ r)
    in_triangle h k l =
        within (p.x -ℤ p.n *ℤ c.x) (p.y -ℤ p.n *ℤ c.y) (a.x -ℤ c.x) (a.y -ℤ c.y) (b.x -ℤ c.x) (b.y -ℤ c.y) p.n (cross_of c a b) (neg_ℤ (side_at c b p)) (side_at c a p) r p.positive turns
        (weights (a.x -ℤ c.x) (a.y -ℤ c.y) (b.x -ℤ c.x) (b.y -ℤ c.y) (p.x -ℤ p.n *ℤ c.x) (p.y -ℤ p.n *ℤ c.y)) (weights' (a.x -ℤ c.x) (a.y -ℤ c.y) (b.x -ℤ c.x) (b.y -ℤ c.y) (p.x -ℤ p.n *ℤ c.x) (p.y -ℤ p.n *ℤ c.y)) ra rb less
        (omega (arith, linear, k)) h (omega (arith, linear, l, chord_side m hm narrow p c a b))

    at_first : side_at c a p ≤ℤ pos 0 → side_at a b p ≤ℤ pos 0 → reach_of c p ≤ℤ (square p.n *ℤ r) → IsAt a p
    at_first h l d =
        let e = at_start (p.x -ℤ p.n *ℤ c.x) (p.y -ℤ p.n *ℤ c.y) (a.x -ℤ c.x) (a.y -ℤ c.y) (b.x -ℤ c.x) (b.y -ℤ c.y) p.n (cross_of c a b) (neg_ℤ (side_at c b p)) (side_at c a p) r p.positive turns
        (weights (a.x -ℤ c.x) (a.y -ℤ c.y) (b.x -ℤ c.x) (b.y -ℤ c.y) (p.x -ℤ p.n *ℤ c.x) (p.y -ℤ p.n *ℤ c.y)) (weights' (a.x -ℤ c.x) (a.y -ℤ c.y) (b.x -ℤ c.x) (b.y -ℤ c.y) (p.x -ℤ p.n *ℤ c.x) (p.y -ℤ p.n *ℤ c.y)) ra rb less
        h (omega (arith, linear, l, chord_side m hm narrow p c a b)) d in
        at_spot a c p e.0 e.1

    swapped : (u s v e z : ℤ) → z ≡ u *ℤ s +ℤ v *ℤ e → z ≡ v *ℤ e +ℤ u *ℤ s
    swapped u s v e z h = omega (arith, linear, h)

    at_last : pos 0 ≤ℤ side_at c b p → side_at a b p ≤ℤ pos 0 → reach_of c p ≤ℤ (square p.n *ℤ r) → IsAt b p
    at_last h l d =
        let e = at_start (p.x -ℤ p.n *ℤ c.x) (p.y -ℤ p.n *ℤ c.y) (b.x -ℤ c.x) (b.y -ℤ c.y) (a.x -ℤ c.x) (a.y -ℤ c.y) p.n (cross_of c a b) (side_at c a p) (neg_ℤ (side_at c b p)) r p.positive turns
        (swapped (neg_ℤ (side_at c b p)) (a.x -ℤ c.x) (side_at c a p) (b.x -ℤ c.x) _ (weights (a.x -ℤ c.x) (a.y -ℤ c.y) (b.x -ℤ c.x) (b.y -ℤ c.y) (p.x -ℤ p.n *ℤ c.x) (p.y -ℤ p.n *ℤ c.y)))
        (swapped (neg_ℤ (side_at c b p)) (a.y -ℤ c.y) (side_at c a p) (b.y -ℤ c.y) _ (weights' (a.x -ℤ c.x) (a.y -ℤ c.y) (b.x -ℤ c.x) (b.y -ℤ c.y) (p.x -ℤ p.n *ℤ c.x) (p.y -ℤ p.n *ℤ c.y))) rb ra less'
        (omega (arith, linear, h)) (omega (arith, linear, l, chord_side m hm narrow p c a b)) d in
        at_spot b c p e.0 e.1
      where
        other : (ax ay bx by : ℤ) → bx *ℤ ax +ℤ by *ℤ ay ≡ ax *ℤ bx +ℤ ay *ℤ by
        other ax ay bx by = simp ring

        less' : ((b.x -ℤ c.x) *ℤ (a.x -ℤ c.x) +ℤ (b.y -ℤ c.y) *ℤ (a.y -ℤ c.y)) <ℤ r
        less' = omega (arith, linear, less, other (a.x -ℤ c.x) (a.y -ℤ c.y) (b.x -ℤ c.x) (b.y -ℤ c.y))

    abbrev Fits : Type 0
    Fits = (left c a && (left a b && not (left c b))) ≡ xor (disc && swept (left c a) (left c b)) (disc && not (left a b))

    fits : Sign (side c a) → Sign (side a b) → Sign (side c b) → Fits ⊎ (IsAt a p ⊎ IsAt b p)
    fits (over h h1 h2) (over f f1 f2) (under g g1 g2) =
        inl (rw (is_le (reach_of c p) (square p.n *ℤ r) (in_triangle (left_from m hm narrow p c a hc ha h) (right_from m hm narrow p c b hc hb g) (left_from m hm narrow p a b ha hb f)), g1, f1, h1) refl)
    fits (over h h1 h2) (under f f1 f2) (under g g1 g2) = inl (rw (g1, f1, h1) (sym (xor-same (disc && true))))
    fits (over h h1 h2) (over f f1 f2) (over g g1 g2) = inl (rw (g1, f1, h1) (sym (xor-same (disc && false))))
    fits (over h h1 h2) (under f f1 f2) (over g g1 g2) = elim (le_or_lt (reach_of c p) (square p.n *ℤ r)) [
      | inl d ↦ inr (inr (at_last (left_from m hm narrow p c b hc hb g) (right_from m hm narrow p a b ha hb f) d))
      | inr d ↦ inl (rw (not_le (reach_of c p) (square p.n *ℤ r) d, g1, f1, h1) refl)
    ]
    fits (under h h1 h2) (over f f1 f2) g = inl (rw (f1, h1) (sym (xor-same (disc && false))))
    fits (under h h1 h2) (under f f1 f2) g = elim (le_or_lt (reach_of c p) (square p.n *ℤ r)) [
      | inl d ↦ inr (inl (at_first (right_from m hm narrow p c a hc ha h) (right_from m hm narrow p a b ha hb f) d))
      | inr d ↦ inl (rw (not_le (reach_of c p) (square p.n *ℤ r) d, f1, h1) refl)
    ]

    pub less_than_half : (xor (edge a b) (xor (edge c a) (edge c b)) ≡ xor (disc && swept (left c a) (left c b)) (disc && not (left a b))) ⊎ (IsAt a p ⊎ IsAt b p)
    less_than_half = elim (fits (sign_of m hm narrow p c a hc ha (first_two c a b turns)) (sign_of m hm narrow p a b ha hb (last_two c a b turns)) (sign_of m hm narrow p c b hc hb (both_ends c a b turns))) [
      | inl e ↦ inl (rotate (edge a b) (edge c a) (edge c b) ∙ fan m hm narrow p c a b hc ha hb turns ∙ e)
      | inr h ↦ inr h
    ]

  -- ---- the other turns

  module _ (s e : Spot) (hs : IsPlaced s) (he : IsPlaced e) (rs : dot_of c s s ≡ r) (re : dot_of c e e ≡ r) where
    abbrev turns_by : Bool
    turns_by = turned (cross_of c s e) (left c s) (left c e)

    abbrev Chorded : Type 0
    Chorded = xor (edge s e) (xor (edge c s) (edge c e)) ≡ xor (disc && turns_by) (disc && not (left s e))

    by_less : pos 1 ≤ℤ cross_of c s e → Chorded ⊎ (IsAt s p ⊎ IsAt e p)
    by_less turns = elim (less_than_half s e hs he turns rs re) [
      | inl f ↦ inl (rw (lt_false (cross_of c s e) (omega (arith, linear, turns))) f)
      | inr h ↦ inr h
    ]

    crossed_back : cross_of c e s ≡ neg_ℤ (cross_of c s e)
    crossed_back = plain (s.x -ℤ c.x) (s.y -ℤ c.y) (e.x -ℤ c.x) (e.y -ℤ c.y)
      where
        plain : (sx sy ex ey : ℤ) → ex *ℤ sy -ℤ ey *ℤ sx ≡ neg_ℤ (sx *ℤ ey -ℤ sy *ℤ ex)
        plain sx sy ex ey = simp ring (omega (arith, linear))

    by_more : (s.x ≡ e.x → s.y ≡ e.y → ⊥) → cross_of c s e ≤ℤ neg_ℤ (pos 1) → Chorded ⊎ (IsAt s p ⊎ IsAt e p)
    by_more apart turns = elim (less_than_half e s he hs (omega (arith, linear, turns, crossed_back)) re rs) [
      | inl f ↦ inl (rw (lt_true (cross_of c s e) (omega (arith, linear, turns)), not_swept (left c s) (left c e)) (
          ap (λ (z : Bool). xor z (xor (edge c s) (edge c e))) (edge_back m hm narrow p s e) ∙ ap (λ (z : Bool). xor (edge e s) z) (xor-comm (edge c s) (edge c e)) ∙ f
          ∙ ap (λ (z : Bool). xor (disc && swept (left c e) (left c s)) (disc && not z)) (left_back m hm narrow p s e hs he apart)
          ∙ both_turned disc (swept (left c e) (left c s)) (not (left s e))))
      | inr (inl h) ↦ inr (inr h)
      | inr (inr h) ↦ inr (inl h)
    ]

    -- ends on both sides of the centre
    opposite : (s.x ≡ e.x → s.y ≡ e.y → ⊥) → cross_of c s e ≡ pos 0 → (e.x -ℤ c.x ≡ neg_ℤ (s.x -ℤ c.x)) × (e.y -ℤ c.y ≡ neg_ℤ (s.y -ℤ c.y))
    opposite apart flat = plain (s.x -ℤ c.x) (s.y -ℤ c.y) (e.x -ℤ c.x) (e.y -ℤ c.y) rs re flat (λ h k. apart (omega (arith, linear, h)) (omega (arith, linear, k)))
      where
        plain : (sx sy ex ey : ℤ) → norm sx sy ≡ r → norm ex ey ≡ r → sx *ℤ ey -ℤ sy *ℤ ex ≡ pos 0 → (sx ≡ ex → sy ≡ ey → ⊥) → (ex ≡ neg_ℤ sx) × (ey ≡ neg_ℤ sy)
        plain sx sy ex ey hs he flat two = elim (le_or_lt (pos 0) (sx *ℤ ex +ℤ sy *ℤ ey)) [ inl l ↦ absurd (same l) | inr l ↦ other l ]
          where
            r_from : pos 0 ≤ℤ r
            r_from = omega (arith, linear, hs, norm_from_zero sx sy)

            squares : square (sx *ℤ ex +ℤ sy *ℤ ey) ≡ r *ℤ r
            squares =
                let f : square (sx *ℤ ex +ℤ sy *ℤ ey) +ℤ square (pos 0) ≡ r *ℤ r = rw (hs, he, flat) at (lagrange sx sy ex ey) in
                omega (arith, linear, f, times-zero (pos 0))

            apart_by : norm (sx -ℤ ex) (sy -ℤ ey) ≡ (r +ℤ r) -ℤ ((sx *ℤ ex +ℤ sy *ℤ ey) +ℤ (sx *ℤ ex +ℤ sy *ℤ ey))
            apart_by = let f : norm (sx -ℤ ex) (sy -ℤ ey) ≡ (norm sx sy +ℤ norm ex ey) -ℤ ((sx *ℤ ex +ℤ sy *ℤ ey) +ℤ (sx *ℤ ex +ℤ sy *ℤ ey)) = simp ring (omega (arith, linear)) in omega (arith, linear, f, hs, he)

            together_by : norm (sx +ℤ ex) (sy +ℤ ey) ≡ (r +ℤ r) +ℤ ((sx *ℤ ex +ℤ sy *ℤ ey) +ℤ (sx *ℤ ex +ℤ sy *ℤ ey))
            together_by = let f : norm (sx +ℤ ex) (sy +ℤ ey) ≡ (norm sx sy +ℤ norm ex ey) +ℤ ((sx *ℤ ex +ℤ sy *ℤ ey) +ℤ (sx *ℤ ex +ℤ sy *ℤ ey)) = simp ring (omega (arith, linear)) in omega (arith, linear, f, hs, he)

            same : pos 0 ≤ℤ (sx *ℤ ex +ℤ sy *ℤ ey) → ⊥
            same l =
                let g : r ≤ℤ (sx *ℤ ex +ℤ sy *ℤ ey) = square_cancel r (sx *ℤ ex +ℤ sy *ℤ ey) l (omega (arith, linear, squares)) in
                let z = norm_none (sx -ℤ ex) (sy -ℤ ey) (omega (arith, linear, g, apart_by)) in
                two (omega (arith, linear, z.0)) (omega (arith, linear, z.1))

            other : (sx *ℤ ex +ℤ sy *ℤ ey) <ℤ pos 0 → (ex ≡ neg_ℤ sx) × (ey ≡ neg_ℤ sy)
            other l =
                let g : r ≤ℤ neg_ℤ (sx *ℤ ex +ℤ sy *ℤ ey) = square_cancel r (neg_ℤ (sx *ℤ ex +ℤ sy *ℤ ey)) (omega (arith, linear, l)) (omega (arith, linear, squares, square-neg (sx *ℤ ex +ℤ sy *ℤ ey))) in
                let z = norm_none (sx +ℤ ex) (sy +ℤ ey) (omega (arith, linear, g, together_by)) in
                (omega (arith, linear, z.0), omega (arith, linear, z.1))

    by_half : (s.x ≡ e.x → s.y ≡ e.y → ⊥) → cross_of c s e ≡ pos 0 → Chorded
    by_half apart flat = by (sign_of m hm narrow p c s hc hs two)
      where
        over_there : (e.x -ℤ c.x ≡ neg_ℤ (s.x -ℤ c.x)) × (e.y -ℤ c.y ≡ neg_ℤ (s.y -ℤ c.y))
        over_there = opposite apart flat

        two : c.x ≡ s.x → c.y ≡ s.y → ⊥
        two h k = apart (omega (arith, linear, h, over_there.0)) (omega (arith, linear, k, over_there.1))

        mirrored : side c e ≡ neg_ℤ (side c s)
        mirrored = plain (s.x -ℤ c.x) (s.y -ℤ c.y) (e.x -ℤ c.x) (e.y -ℤ c.y) ((p.y *ℤ square m +ℤ pos 1) -ℤ (p.n *ℤ square m) *ℤ c.y) ((p.n *ℤ square m) *ℤ c.x -ℤ (p.x *ℤ square m +ℤ m)) over_there.0 over_there.1
          where
            plain : (sx sy ex ey u v : ℤ) → ex ≡ neg_ℤ sx → ey ≡ neg_ℤ sy → ex *ℤ u +ℤ v *ℤ ey ≡ neg_ℤ (sx *ℤ u +ℤ v *ℤ sy)
            plain sx sy ex ey u v h k = rw (h, k) (simp ring (omega (arith, linear)))

        -- twice as far on the other side
        chord : side s e ≡ neg_ℤ (side c s +ℤ side c s)
        chord =
            let f = shifted_sum m hm narrow p c s e in
            omega (arith, linear, rw flat at f, times-zero (p.n *ℤ square m), shifted_back m hm narrow p c e, mirrored)

        back : side e c ≡ side c s
        back = omega (arith, linear, shifted_back m hm narrow p c e, mirrored)

        told : Sign (side s e) → Sign (side e c) → (side c s <ℤ pos 0 → side s e <ℤ pos 0 → side e c <ℤ pos 0 → ⊥) → xor (edge s e) (xor (edge c s) (edge c e)) ≡ (left c s && (left s e && lt_z (pos 0) (side e c)))
        told d f never = rotate (edge s e) (edge c s) (edge c e) ∙ fan_by m hm narrow p c s e hc hs he (sign_of m hm narrow p c s hc hs two) d f never

        by : Sign (side c s) → Chorded
        by (over h h1 h2) =
            let se : side s e <ℤ pos 0 = omega (arith, linear, chord, h) in
            let ec : pos 0 <ℤ side e c = omega (arith, linear, back, h) in
            let ce : side c e <ℤ pos 0 = omega (arith, linear, mirrored, h) in
            told (is_under (side s e) se) (is_over (side e c) ec) (λ a b d. omega (arith, linear, ec, d))
            ∙ rw (lt_false (cross_of c s e) (omega (arith, linear, flat)), not_lt (pos 0) (side s e) (omega (arith, linear, se)), not_lt (pos 0) (side c e) (omega (arith, linear, ce)), h1) (sym (xor-same (disc && true)))
        by (under h h1 h2) =
            let se : pos 0 <ℤ side s e = omega (arith, linear, chord, h) in
            let ec : side e c <ℤ pos 0 = omega (arith, linear, back, h) in
            let ce : pos 0 <ℤ side c e = omega (arith, linear, mirrored, h) in
            told (is_over (side s e) se) (is_under (side e c) ec) (λ a b d. omega (arith, linear, se, b))
            ∙ rw (lt_false (cross_of c s e) (omega (arith, linear, flat)), is_lt (pos 0) (side s e) se, is_lt (pos 0) (side c e) ce, h1) (sym (xor-same (disc && false)))

    pub chorded : (s.x ≡ e.x → s.y ≡ e.y → ⊥) → Chorded ⊎ (IsAt s p ⊎ IsAt e p)
    chorded apart = elim (le_or_lt (pos 1) (cross_of c s e)) [
      | inl h ↦ by_less h
      | inr h ↦ elim (le_or_lt (cross_of c s e) (neg_ℤ (pos 1))) [
        | inl k ↦ by_more apart k
        | inr k ↦ inl (by_half apart (omega (arith, linear, h, k)))
      ]
    ]

    -- ---- the segment

    abbrev pub in_segment : Bool
    in_segment = disc && not (left s e)

    self_left : (a : Spot) → left a a ≡ false
    self_left a = not_lt (pos 0) (side a a) (omega (arith, linear, plain a.x a.y ((p.y *ℤ square m +ℤ pos 1) -ℤ (p.n *ℤ square m) *ℤ a.y) ((p.n *ℤ square m) *ℤ a.x -ℤ (p.x *ℤ square m +ℤ m))))
      where
        plain : (x y u v : ℤ) → (x -ℤ x) *ℤ u +ℤ v *ℤ (y -ℤ y) ≡ pos 0
        plain x y u v =
            let ex : x -ℤ x ≡ pos 0 = omega (arith, linear) in
            let ey : y -ℤ y ≡ pos 0 = omega (arith, linear) in
            rw (ex, ey) (omega (arith, linear, zero-times u, times-zero v))

    self_edge : (a : Spot) → edge a a ≡ false
    self_edge a = rw (self_passes a p.x p.y p.n) refl

    beyond : IsTrue (not (left s e)) ↔ (IsRight s e p ⊎ (s ≡ e))
    beyond = elim (same_or s e) [
      | inl same ↦ (λ h. inr same, λ h. rw (ap (λ (z : Spot). left s z) (sym same) ∙ self_left s) refl)
      | inr apart ↦ (λ h. inl ((right_of m hm narrow p s e hs he apart).0 h), back apart)
    ]
      where
        back : (s.x ≡ e.x → s.y ≡ e.y → ⊥) → IsRight s e p ⊎ (s ≡ e) → IsTrue (not (left s e))
        back apart (inl h) = (right_of m hm narrow p s e hs he apart).1 h
        back apart (inr h) = absurd (apart (ap (λ (z : Spot). z.x) h) (ap (λ (z : Spot). z.y) h))

    segment_is : IsTrue in_segment ↔ ((reach_of c p ≤ℤ (square p.n *ℤ r)) × (IsRight s e p ⊎ (s ≡ e)))
    segment_is = both_true disc (not (left s e)) (in_disc m hm narrow p c r) beyond

    -- neither end is the centre
    off_centre : (s.x ≡ e.x → s.y ≡ e.y → ⊥) → pos 1 ≤ℤ r
    off_centre apart = elim (le_or_lt (pos 1) r) [ inl l ↦ l | inr g ↦ absurd (none g) ]
      where
        none : r <ℤ pos 1 → ⊥
        none g =
            let first = norm_none (s.x -ℤ c.x) (s.y -ℤ c.y) (omega (arith, linear, g, rs)) in
            let last = norm_none (e.x -ℤ c.x) (e.y -ℤ c.y) (omega (arith, linear, g, re)) in
            apart (omega (arith, linear, first.0, last.0)) (omega (arith, linear, first.1, last.1))

    off : (a : Spot) → dot_of c a a ≡ r → pos 1 ≤ℤ r → c.x ≡ a.x → c.y ≡ a.y → ⊥
    off a ra some h k = omega (arith, linear, ra, some, nothing (a.x -ℤ c.x) (a.y -ℤ c.y) (omega (arith, linear, h)) (omega (arith, linear, k)))
      where
        nothing : (x y : ℤ) → x ≡ pos 0 → y ≡ pos 0 → norm x y ≡ pos 0
        nothing x y h k = rw (h, k) (omega (arith, linear, times-zero (pos 0)))

    -- the sector's test is the segment's
    record Tested : Type 0 where
      turn : Bool
      turn_is : IsTrue turn ↔ InSweep c s e p
      same : xor (edge c s) (xor (edge c e) (disc && turn)) ≡ xor (edge s e) in_segment

    tested : ¬ IsAt s p → ¬ IsAt e p → Tested
    tested off_start off_end = elim (same_or s e) [
      | inl same ↦ record {
        turn = true;
        turn_is = (λ h. inr (inr same), λ h. refl);
        same =
            ap (λ (z : Spot). xor (edge c s) (xor (edge c z) (disc && true))) (sym same) ∙ twice (edge c s) (disc && true)
            ∙ sym (ap (λ (z : Spot). xor (edge s z) (disc && not (left s z))) (sym same) ∙ rw (self_edge s, self_left s) refl);
      }
      | inr apart ↦ record {
        turn = turns_by;
        turn_is = turned_is m hm narrow p c s e hc hs he (off s rs (off_centre apart)) (off e re (off_centre apart)) (λ h. apart (ap (λ (z : Spot). z.x) h) (ap (λ (z : Spot). z.y) h));
        same = elim (chorded apart) [
          | inl f ↦ regroup (edge s e) (edge c s) (edge c e) (disc && turns_by) in_segment f
          | inr (inl h) ↦ absurd (off_start h)
          | inr (inr h) ↦ absurd (off_end h)
        ];
      }
    ]

    pub segment_told : ¬ IsAt s p → ¬ IsAt e p → ExactlyOne (RayCrosses c s p) (ExactlyOne (RayCrosses c e p) (InSector c s e r p)) ↔ ExactlyOne (RayCrosses s e p) ((reach_of c p ≤ℤ (square p.n *ℤ r)) × (IsRight s e p ⊎ (s ≡ e)))
    segment_told off_start off_end = by (tested off_start off_end)
      where
        by : Tested → ExactlyOne (RayCrosses c s p) (ExactlyOne (RayCrosses c e p) (InSector c s e r p)) ↔ ExactlyOne (RayCrosses s e p) ((reach_of c p ≤ℤ (square p.n *ℤ r)) × (IsRight s e p ⊎ (s ≡ e)))
        by t = (λ h. chord_is.0 (sym t.same ∙ lines_are.1 h), λ h. lines_are.0 (t.same ∙ chord_is.1 h))
          where
            lines_are : IsTrue (xor (edge c s) (xor (edge c e) (disc && t.turn))) ↔ ExactlyOne (RayCrosses c s p) (ExactlyOne (RayCrosses c e p) (InSector c s e r p))
            lines_are =
                one_is (edge c s) (xor (edge c e) (disc && t.turn)) (crossed_is (record { start = c; end = s }) p)
                (one_is (edge c e) (disc && t.turn) (crossed_is (record { start = c; end = e }) p) (both_true disc t.turn (in_disc m hm narrow p c r) t.turn_is))

            chord_is : IsTrue (xor (edge s e) in_segment) ↔ ExactlyOne (RayCrosses s e p) ((reach_of c p ≤ℤ (square p.n *ℤ r)) × (IsRight s e p ⊎ (s ≡ e)))
            chord_is = one_is (edge s e) in_segment (crossed_is (record { start = s; end = e }) p) segment_is

pub segment_of_even : SegmentOfEven
segment_of_even c s e p hc hs he even off_start off_end = segment_told margin margin_from narrow_placed p c hc (dot_of c s s) s e hs he refl (sym even) off_start off_end
