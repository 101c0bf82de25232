-- An arc and its chain: where the place is in no capsule, the ray crosses an odd number of the chain's links where it crosses an odd number of the lines from the centre to both ends and of the sector's border.
use Rattle.std.proofs.Common.{Bool, true, false, IsTrue, not, ◌&&◌, ◌||◌, List, [], ◌∷◌, ◌≡◌, ◌↔◌, ◌⊎◌, inl, inr, ℤ, pos, ◌-ℤ◌, ◌*ℤ◌, ◌≤ℤ◌, ◌<ℤ◌, arith, refl, sym, ap, ◌∙◌, subst}
use lib.Signed.{lt_z, le_z}
use Rattle.planar.specs.declared.Spot.{Spot}
use Rattle.planar.specs.Plane.{IsPlaced, Point, cross_of, square, EachFrom}
use Rattle.planar.proofs.Ring.{linear, le_or_lt, mul_comm}
use Rattle.planar.proofs.Spots.{one_spot}
use Rattle.planar.proofs.EdgeLaw.{xor, not_lt, not_le, is_lt, is_le, xor-same, xor-false}
use Rattle.area_contact.specs.Contour.{edges_from, end_from}
use Rattle.area_contact.specs.Parity.{odd, side_of}
use Rattle.arcs.specs.Copper.{reach_of, InFrom}
use Rattle.arcs.specs.Copper.{side_of as side_at}
use Rattle.arcs.specs.Chains.{IsLink, IsRoom}
use Rattle.arcs.proofs.Radii.{lt_false, lt_true}
use Rattle.arc_regions.specs.Copper.{InSector, InSweep, IsRight}
use Rattle.arc_regions.specs.Taken.{odd_past}
use Rattle.arc_regions.proofs.Fans.{ArePlaced, both_ends, chain_crossed, chain_turned, first_two, on_left, over_edge, shifted, shifted_back, side_same, sign_not, sign_of, wedges}
use Rattle.arc_regions.proofs.Shifted.{IsNarrow, side_over, side_under, level_rising, level_falling, level_flat}
use Rattle.arc_regions.proofs.Turning.{turned}

-- ---- tests

pub rotate : (a b c : Bool) → xor a (xor b c) ≡ xor b (xor a c)
rotate true true true = refl
rotate true true false = refl
rotate true false true = refl
rotate true false false = refl
rotate false true true = refl
rotate false true false = refl
rotate false false true = refl
rotate false false false = refl

pub none_and : (b : Bool) → (b && not b) ≡ false
none_and true = refl
none_and false = refl

-- what is alone with true is no other
pub turned_true : (w : Bool) → xor w true ≡ false → w ≡ true
turned_true true h = refl
turned_true false h = sym h

pub xor-assoc : (a b c : Bool) → xor (xor a b) c ≡ xor a (xor b c)
xor-assoc true true true = refl
xor-assoc true true false = refl
xor-assoc true false true = refl
xor-assoc true false false = refl
xor-assoc false b c = refl

-- of three, by one and another
solved : (o a b d : Bool) → xor o d ≡ xor a b → o ≡ xor a (xor b d)
solved o a b d h = back o d ∙ ap (λ (z : Bool). xor z d) h ∙ xor-assoc a b d
  where
    back : (o d : Bool) → o ≡ xor (xor o d) d
    back true true = refl
    back true false = refl
    back false true = refl
    back false false = refl

-- ---- spots

equal_or : (z w : ℤ) → (z ≡ w) ⊎ (z ≡ w → ⊥)
equal_or z w = elim (le_or_lt z w) [
  | inl h ↦ elim (le_or_lt w z) [ inl k ↦ inl (omega (arith, linear, h, k)) | inr k ↦ inr (λ e. omega (arith, linear, e, k)) ]
  | inr h ↦ inr (λ e. omega (arith, linear, e, h))
]

pub same_or : (a b : Spot) → (a ≡ b) ⊎ (a.x ≡ b.x → a.y ≡ b.y → ⊥)
same_or a b = elim (equal_or a.x b.x) [
  | inl h ↦ elim (equal_or a.y b.y) [ inl k ↦ inl (one_spot a b h k) | inr k ↦ inr (λ e f. k f) ]
  | inr h ↦ inr (λ e f. h e)
]

no_true : (b : Bool) → (IsTrue b → ⊥) → b ≡ false
no_true true h = absurd (h refl)
no_true false h = refl

self_cross : (c s : Spot) → cross_of c s s ≡ pos 0
self_cross c s = omega (arith, linear, mul_comm (s.x -ℤ c.x) (s.y -ℤ c.y))

pub both_true : {P Q : Type 0} (s t : Bool) → IsTrue s ↔ P → IsTrue t ↔ Q → IsTrue (s && t) ↔ (P × Q)
both_true true t f g = (λ h. (f.0 refl, g.0 h), λ h. g.1 h.1)
both_true false t f g = (λ h. absurd (none h), λ h. f.1 h.0)
  where
    none : IsTrue false → ⊥
    none h = cc

not_is : {P : Type 0} (t : Bool) → (IsTrue t → P → ⊥) → (t ≡ false → P) → IsTrue (not t) ↔ P
not_is true f g = (λ h. absurd (none h), λ h. absurd (f refl h))
  where
    none : IsTrue false → ⊥
    none h = cc
not_is false f g = (λ h. g refl, λ h. refl)

either_true : {P Q : Type 0} (s t : Bool) → IsTrue s ↔ P → IsTrue t ↔ Q → IsTrue (s || t) ↔ (P ⊎ Q)
either_true true t f g = (λ h. inl (f.0 refl), λ h. refl)
either_true false t f g = (λ h. inr (g.0 h), λ h. elim h [ inl k ↦ absurd (none (f.1 k)) | inr k ↦ g.1 k ])
  where
    none : IsTrue false → ⊥
    none h = cc

-- the end of a chain round c is not c
last_apart : (c : Spot) (near far : ℤ) (a b : Spot) (rest : List Spot) → EachFrom (IsLink c near far) a (b ∷ rest) → c.x ≡ (end_from b rest).x → c.y ≡ (end_from b rest).y → ⊥
last_apart c near far a b [] links = both_ends c a b links.0.0.left
last_apart c near far a b (d ∷ rest) links = last_apart c near far b d rest links.1

module _ (m : ℤ) (hm : pos 2 ≤ℤ m) (narrow : (a b : Spot) → IsPlaced a → IsPlaced b → IsNarrow m a b) (p : Point) where
  abbrev left : Spot → Spot → Bool
  left a b = on_left m hm narrow p a b

  abbrev edge : Spot → Spot → Bool
  edge a b = over_edge m hm narrow p a b

  abbrev side : Spot → Spot → ℤ
  side a b = shifted m hm narrow p a b

  pub in_disc : (c : Spot) (r : ℤ) → IsTrue (le_z (reach_of c p) (square p.n *ℤ r)) ↔ (reach_of c p ≤ℤ (square p.n *ℤ r))
  in_disc c r = (there, λ h. is_le (reach_of c p) (square p.n *ℤ r) h)
    where
      there : IsTrue (le_z (reach_of c p) (square p.n *ℤ r)) → reach_of c p ≤ℤ (square p.n *ℤ r)
      there h = elim (le_or_lt (reach_of c p) (square p.n *ℤ r)) [
        | inl l ↦ l
        | inr g ↦ (let k : le_z (reach_of c p) (square p.n *ℤ r) ≡ false = not_le (reach_of c p) (square p.n *ℤ r) g in cc)
      ]

  -- ---- on the right of a line

  pub left_back : (s e : Spot) → IsPlaced s → IsPlaced e → (s.x ≡ e.x → s.y ≡ e.y → ⊥) → left e s ≡ not (left s e)
  left_back s e hs he apart = ap (λ (z : ℤ). lt_z (pos 0) z) (shifted_back m hm narrow p s e) ∙ sign_not (side s e) (sign_of m hm narrow p s e hs he apart)

  pub right_of : (s e : Spot) → IsPlaced s → IsPlaced e → (s.x ≡ e.x → s.y ≡ e.y → ⊥) → IsTrue (not (left s e)) ↔ IsRight s e p
  right_of s e hs he apart = not_is (left s e) none some
    where
      none : IsTrue (left s e) → IsRight s e p → ⊥
      none h (inl k) = let l : left s e ≡ false = not_lt (pos 0) (side s e) (omega (arith, linear, side_under m hm p.x p.y p.n p.positive s e (narrow s e hs he) (omega (arith, linear, side_same s e p, k)))) in cc
      none h (inr (flat, inl up)) = let l : left s e ≡ false = not_lt (pos 0) (side s e) (omega (arith, linear, level_rising m hm p.x p.y p.n p.positive s e (narrow s e hs he) (omega (arith, linear, side_same s e p, flat)) up)) in cc
      none h (inr (flat, inr (level, back))) =
          let l : left s e ≡ false = not_lt (pos 0) (side s e) (omega (arith, linear, back, level_flat m hm p.x p.y p.n p.positive s e (narrow s e hs he) (omega (arith, linear, side_same s e p, flat)) level)) in cc

      over_zero : pos 0 <ℤ side s e → left s e ≡ false → ⊥
      over_zero h k = let l : left s e ≡ true = is_lt (pos 0) (side s e) h in cc

      some : left s e ≡ false → IsRight s e p
      some h = elim (le_or_lt (side_at s e p) (pos 0)) [
        | inr g ↦ absurd (over_zero (side_over m hm p.x p.y p.n p.positive s e (narrow s e hs he) (omega (arith, linear, side_same s e p, g))) h)
        | inl l ↦ elim (le_or_lt (pos 0) (side_at s e p)) [
          | inr g ↦ inl g
          | inl g ↦ inr (omega (arith, linear, l, g), level (omega (arith, linear, l, g, side_same s e p)))
        ]
      ]
        where
          level : side_of s e p.x p.y p.n ≡ pos 0 → (s.y <ℤ e.y) ⊎ ((s.y ≡ e.y) × (e.x <ℤ s.x))
          level z = elim (le_or_lt e.y s.y) [
            | inr g ↦ inl g
            | inl l ↦ elim (le_or_lt s.y e.y) [
              | inr g ↦ absurd (over_zero (level_falling m hm p.x p.y p.n p.positive s e (narrow s e hs he) z g) h)
              | inl k ↦ elim (le_or_lt s.x e.x) [
                | inr g ↦ inr (omega (arith, linear, l, k), g)
                | inl q ↦ elim (le_or_lt e.x s.x) [
                  | inl o ↦ absurd (apart (omega (arith, linear, q, o)) (omega (arith, linear, l, k)))
                  | inr g ↦ absurd (over_zero (omega (arith, linear, g, level_flat m hm p.x p.y p.n p.positive s e (narrow s e hs he) z (omega (arith, linear, l, k)))) h)
                ]
              ]
            ]
          ]

  not_not : (b : Bool) → not (not b) ≡ b
  not_not true = refl
  not_not false = refl

  -- on the left of the line from c to s: on the right of that back
  left_of : (c s : Spot) → IsPlaced c → IsPlaced s → (c.x ≡ s.x → c.y ≡ s.y → ⊥) → IsTrue (left c s) ↔ IsRight s c p
  left_of c s hc hs apart = subst (λ (b : Bool). IsTrue b ↔ IsRight s c p) (ap not (left_back c s hc hs apart) ∙ not_not (left c s)) (right_of s c hs hc (λ h k. apart (sym h) (sym k)))

  -- ---- in the turn

  module _ (c s e : Spot) (hc : IsPlaced c) (hs : IsPlaced s) (he : IsPlaced e) (first : c.x ≡ s.x → c.y ≡ s.y → ⊥) (last : c.x ≡ e.x → c.y ≡ e.y → ⊥) where
    pub turned_is : (s ≡ e → ⊥) → IsTrue (turned (cross_of c s e) (left c s) (left c e)) ↔ InSweep c s e p
    turned_is apart = elim (le_or_lt (pos 0) (cross_of c s e)) [
      | inl h ↦ rw (lt_false (cross_of c s e) h) (less h (both_true (left c s) (not (left c e)) (left_of c s hc hs first) (right_of c e hc he last)))
      | inr h ↦ rw (lt_true (cross_of c s e) h) (more h (either_true (left c s) (not (left c e)) (left_of c s hc hs first) (right_of c e hc he last)))
    ]
      where
        less : pos 0 ≤ℤ cross_of c s e → IsTrue (left c s && not (left c e)) ↔ (IsRight s c p × IsRight c e p) → IsTrue (left c s && not (left c e)) ↔ InSweep c s e p
        less h told = (λ t. inl (h, told.0 t), back)
          where
            back : InSweep c s e p → IsTrue (left c s && not (left c e))
            back (inl k) = told.1 k.1
            back (inr (inl k)) = absurd (omega (arith, linear, h, k.0))
            back (inr (inr k)) = absurd (apart k)

        more : cross_of c s e <ℤ pos 0 → IsTrue (left c s || not (left c e)) ↔ (IsRight s c p ⊎ IsRight c e p) → IsTrue (left c s || not (left c e)) ↔ InSweep c s e p
        more h told = (λ t. inr (inl (h, told.0 t)), back)
          where
            back : InSweep c s e p → IsTrue (left c s || not (left c e))
            back (inl k) = absurd (omega (arith, linear, h, k.0))
            back (inr (inl k)) = told.1 k.1
            back (inr (inr k)) = absurd (apart k)

  -- ---- the arc with its chain

  module _ (c s e : Spot) (hc : IsPlaced c) (hs : IsPlaced s) (he : IsPlaced e) (r least most near far k : ℤ) (room : IsRoom r r least most near far k) (b : Spot) (rest : List Spot) (hb : IsPlaced b) (hr : ArePlaced rest) (links : EachFrom (IsLink c near far) s (b ∷ rest))
      (ends : end_from b rest ≡ e) where
    abbrev disc : Bool
    disc = le_z (reach_of c p) (square p.n *ℤ r)

    abbrev links_odd : Bool
    links_odd = odd (edges_from s (b ∷ rest)) p.x p.y p.n

    -- the sector of radius r as a test: where the place is in no capsule, the links are told by it
    pub record Told : Type 0 where
      pub sector : Bool
      pub sector_is : IsTrue sector ↔ InSector c s e r p
      pub same : (links_odd ≡ xor (edge c s) (xor (edge c e) sector)) ⊎ InFrom s (b ∷ rest) k p

    first : c.x ≡ s.x → c.y ≡ s.y → ⊥
    first = first_two c s b links.0.0.left

    last : c.x ≡ e.x → c.y ≡ e.y → ⊥
    last = subst (λ (z : Spot). c.x ≡ z.x → c.y ≡ z.y → ⊥) ends (last_apart c near far s b rest links)

    start_turn : turned (cross_of c s s) (left c s) (left c s) ≡ false
    start_turn = rw (lt_false (cross_of c s s) (omega (arith, linear, self_cross c s))) (none_and (left c s))

    turn_is : xor (wedges (left c) s (b ∷ rest)) (odd_past c s s (b ∷ rest)) ≡ xor (turned (cross_of c s s) (left c s) (left c s)) (turned (cross_of c s e) (left c s) (left c e))
    turn_is = subst (λ (z : Spot). xor (wedges (left c) s (b ∷ rest)) (odd_past c s s (b ∷ rest)) ≡ xor (turned (cross_of c s s) (left c s) (left c s)) (turned (cross_of c s z) (left c s) (left c z))) ends
        (chain_turned m hm narrow p c hc r least most near far k room s hs (sign_of m hm narrow p c s hc hs first) s (b ∷ rest) hs (hb, hr) links)

    crossed_is : (xor links_odd (disc && wedges (left c) s (b ∷ rest)) ≡ xor (edge c s) (edge c e)) ⊎ InFrom s (b ∷ rest) k p
    crossed_is = subst (λ (z : Spot). (xor links_odd (disc && wedges (left c) s (b ∷ rest)) ≡ xor (edge c s) (edge c z)) ⊎ InFrom s (b ∷ rest) k p) ends
        (chain_crossed m hm narrow p c hc r least most near far k room s (b ∷ rest) hs (hb, hr) links)

    told_by : (turn : Bool) → IsTrue turn ↔ InSweep c s e p → wedges (left c) s (b ∷ rest) ≡ turn → Told
    told_by turn is fills = record {
      sector = disc && turn;
      sector_is = both_true disc turn (in_disc c r) is;
      same = elim crossed_is [
        | inr h ↦ inr h
        | inl f ↦ inl (solved links_odd (edge c s) (edge c e) (disc && turn) (ap (λ (z : Bool). xor links_odd (disc && z)) (sym fills) ∙ f))
      ];
    }

    apart_told : (s ≡ e → ⊥) → odd_past c s s (b ∷ rest) ≡ false → Told
    apart_told apart none = told_by (turned (cross_of c s e) (left c s) (left c e)) (turned_is c s e hc hs he first last apart) fills
      where
        fills : wedges (left c) s (b ∷ rest) ≡ turned (cross_of c s e) (left c s) (left c e)
        fills = sym (xor-false (wedges (left c) s (b ∷ rest))) ∙ ap (λ (z : Bool). xor (wedges (left c) s (b ∷ rest)) z) (sym none) ∙ turn_is ∙ ap (λ (z : Bool). xor z (turned (cross_of c s e) (left c s) (left c e))) start_turn

    same_told : s ≡ e → odd_past c s s (b ∷ rest) ≡ true → Told
    same_told same round = told_by true (λ h. inr (inr same), λ h. refl) fills
      where
        fills : wedges (left c) s (b ∷ rest) ≡ true
        fills = turned_true (wedges (left c) s (b ∷ rest)) (ap (λ (z : Bool). xor (wedges (left c) s (b ∷ rest)) z) (sym round) ∙ turn_is ∙ ap (λ (z : Spot). xor (turned (cross_of c s s) (left c s) (left c s)) (turned (cross_of c s z) (left c s) (left c z))) (sym same)
            ∙ xor-same (turned (cross_of c s s) (left c s) (left c s)))

    pub arc_told : IsTrue (odd_past c s s (b ∷ rest)) ↔ (s ≡ e) → Told
    arc_told turns = elim (same_or s e) [
      | inl same ↦ same_told same (turns.1 same)
      | inr apart ↦ apart_told (λ h. apart (ap (λ (z : Spot). z.x) h) (ap (λ (z : Spot). z.y) h)) (no_true (odd_past c s s (b ∷ rest)) (λ h. (let same = turns.0 h in apart (ap (λ (z : Spot). z.x) same) (ap (λ (z : Spot). z.y) same))))
    ]
