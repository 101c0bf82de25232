-- A chain of chords round a centre: the ray crosses an odd number of its links where a fan of triangles says so, and the fan fills the turn within the disc, but for slivers.
use Rattle.std.proofs.Common.{Bool, true, false, not, ◌&&◌, ◌||◌, List, [], ◌∷◌, ◌≡◌, ◌⊎◌, inl, inr, ℤ, pos, neg_ℤ, ◌+ℤ◌, ◌-ℤ◌, ◌*ℤ◌, ◌≤ℤ◌, ◌<ℤ◌, arith, refl, sym, ap, ◌∙◌}
use Rattle.std.specs.Bool.{⊤}
use lib.Signed.{lt_z, le_z}
use Rattle.planar.specs.declared.Spot.{Spot}
use Rattle.planar.specs.Plane.{InCapsule, IsPlaced, Point, cross_of, square, EachFrom}
use Rattle.planar.proofs.Ring.{ring, linear, le_or_lt, times_cancel, times-zero, zero-times}
use Rattle.planar.proofs.EdgeLaw.{xor, not_le, is_le, xor-same}
use Rattle.area_contact.specs.Parity.{side_of, crossed, passes, odd, xor-chain}
use Rattle.area_contact.specs.Contour.{edges_from, end_from}
use Rattle.arcs.specs.Copper.{reach_of, InFrom}
use Rattle.arcs.specs.Copper.{side_of as side_at}
use Rattle.arcs.specs.Chains.{IsLink, IsRoom}
use Rattle.arc_regions.specs.Taken.{is_past, odd_past}
use Rattle.arc_regions.proofs.Hits.{Sign, over, under, more, triangle, hit}
use Rattle.arc_regions.proofs.Shifted.{IsNarrow, crossed_is_hit, from_over, from_under, height_sign, side_sign}
use Rattle.arc_regions.proofs.Slivers.{inner, outer}
use Rattle.arc_regions.proofs.Turning.{swept, turned, step}

-- ---- over plain numbers

n_side : (a b : Spot) (x y n : ℤ) → n *ℤ side_of a b x y n ≡ (n *ℤ a.x -ℤ x) *ℤ (n *ℤ b.y -ℤ y) -ℤ (n *ℤ b.x -ℤ x) *ℤ (n *ℤ a.y -ℤ y)
n_side a b x y n = simp ring (omega (arith, linear))

-- the sides of a triangle weigh the heights of its corners to nothing
weigh : (a b c : Spot) (x y n : ℤ) → pos 1 ≤ℤ n → (side_of a b x y n *ℤ (n *ℤ c.y -ℤ y) +ℤ side_of b c x y n *ℤ (n *ℤ a.y -ℤ y)) +ℤ side_of c a x y n *ℤ (n *ℤ b.y -ℤ y) ≡ pos 0
weigh a b c x y n some = cancel n _ some (spread n (side_of a b x y n) (side_of b c x y n) (side_of c a x y n) (n *ℤ a.y -ℤ y) (n *ℤ b.y -ℤ y) (n *ℤ c.y -ℤ y)
    ∙ rw (n_side a b x y n, n_side b c x y n, n_side c a x y n) (plain (n *ℤ a.x -ℤ x) (n *ℤ a.y -ℤ y) (n *ℤ b.x -ℤ x) (n *ℤ b.y -ℤ y) (n *ℤ c.x -ℤ x) (n *ℤ c.y -ℤ y)))
  where
    spread : (n r s t a b c : ℤ) → n *ℤ ((r *ℤ c +ℤ s *ℤ a) +ℤ t *ℤ b) ≡ ((n *ℤ r) *ℤ c +ℤ (n *ℤ s) *ℤ a) +ℤ (n *ℤ t) *ℤ b
    spread n r s t a b c = simp ring (omega (arith, linear))

    plain : (ax ay bx by cx cy : ℤ) → ((ax *ℤ by -ℤ bx *ℤ ay) *ℤ cy +ℤ (bx *ℤ cy -ℤ cx *ℤ by) *ℤ ay) +ℤ (cx *ℤ ay -ℤ ax *ℤ cy) *ℤ by ≡ pos 0
    plain ax ay bx by cx cy = simp ring (omega (arith, linear))

    cancel : (n w : ℤ) → pos 1 ≤ℤ n → n *ℤ w ≡ pos 0 → w ≡ pos 0
    cancel n w some h =
        let z = times-zero n in
        omega (arith, linear, times_cancel n w (pos 0) some (omega (arith, linear, h, z)), times_cancel n (pos 0) w some (omega (arith, linear, h, z)))

-- the sides of a triangle sum to n times its cross product
sides_sum : (a b c : Spot) (x y n : ℤ) → (side_of a b x y n +ℤ side_of b c x y n) +ℤ side_of c a x y n ≡ n *ℤ cross_of a b c
sides_sum a b c x y n = simp ring (omega (arith, linear))

side_back : (a b : Spot) (x y n : ℤ) → side_of b a x y n ≡ neg_ℤ (side_of a b x y n)
side_back a b x y n = simp ring (omega (arith, linear))

pub side_same : (a b : Spot) (p : Point) → side_of a b p.x p.y p.n ≡ side_at a b p
side_same a b p = simp ring (omega (arith, linear))

-- the sides of three spots from one centre
three : (c s a b : Spot) (x y n : ℤ) → cross_of c s b *ℤ side_of c a x y n ≡ cross_of c s a *ℤ side_of c b x y n +ℤ cross_of c a b *ℤ side_of c s x y n
three c s a b x y n = plain (s.x -ℤ c.x) (s.y -ℤ c.y) (a.x -ℤ c.x) (a.y -ℤ c.y) (b.x -ℤ c.x) (b.y -ℤ c.y) (y -ℤ n *ℤ c.y) (n *ℤ c.x -ℤ x)
  where
    plain : (sx sy ax ay bx by u v : ℤ) → (sx *ℤ by -ℤ sy *ℤ bx) *ℤ (ax *ℤ u +ℤ v *ℤ ay) ≡ (sx *ℤ ay -ℤ sy *ℤ ax) *ℤ (bx *ℤ u +ℤ v *ℤ by) +ℤ (ax *ℤ by -ℤ ay *ℤ bx) *ℤ (sx *ℤ u +ℤ v *ℤ sy)
    plain sx sy ax ay bx by u v = simp ring (omega (arith, linear))

-- spots that turn round c are three
first_apart : (c a b : Spot) → pos 1 ≤ℤ cross_of c a b → c.x ≡ a.x → c.y ≡ a.y → ⊥
first_apart c a b h e f = plain (a.x -ℤ c.x) (a.y -ℤ c.y) (b.x -ℤ c.x) (b.y -ℤ c.y) (omega (arith, linear, e)) (omega (arith, linear, f)) h
  where
    plain : (ax ay bx by : ℤ) → ax ≡ pos 0 → ay ≡ pos 0 → pos 1 ≤ℤ (ax *ℤ by -ℤ ay *ℤ bx) → ⊥
    plain ax ay bx by e f h = let g : pos 1 ≤ℤ (pos 0 *ℤ by -ℤ pos 0 *ℤ bx) = rw (e, f) at h in omega (arith, linear, g, zero-times by, zero-times bx)

turn_round : (c a b : Spot) → cross_of a b c ≡ cross_of c a b
turn_round c a b = simp ring (omega (arith, linear))

pub first_two : (c a b : Spot) → pos 1 ≤ℤ cross_of c a b → c.x ≡ a.x → c.y ≡ a.y → ⊥
first_two c a b h = first_apart c a b h

pub last_two : (c a b : Spot) → pos 1 ≤ℤ cross_of c a b → a.x ≡ b.x → a.y ≡ b.y → ⊥
last_two c a b h = first_apart a b c (omega (arith, linear, h, turn_round c a b))

pub both_ends : (c a b : Spot) → pos 1 ≤ℤ cross_of c a b → c.x ≡ b.x → c.y ≡ b.y → ⊥
both_ends c a b h e f = first_apart b c a (omega (arith, linear, h, turn_round c a b, turn_round a b c)) (sym e) (sym f)

-- ---- tests

pub sign_not : (t : ℤ) → Sign t → lt_z (pos 0) (neg_ℤ t) ≡ not (lt_z (pos 0) t)
sign_not t (over h a b) = rw (b, a) refl
sign_not t (under h a b) = rw (b, a) refl

pub or-swap : (a b : Bool) → (a || b) ≡ (b || a)
or-swap true true = refl
or-swap true false = refl
or-swap false true = refl
or-swap false false = refl

pub and-false : (b : Bool) → (b && false) ≡ false
and-false true = refl
and-false false = refl

and-xor : (b s t : Bool) → (b && xor s t) ≡ xor (b && s) (b && t)
and-xor true s t = refl
and-xor false s t = refl

-- from three with a known parity to two and the third
moved : (a b c t u : Bool) → xor a (xor b c) ≡ t → u ≡ t → xor b u ≡ xor a c
moved true true true t u h k = rw (k, ← h) refl
moved true true false t u h k = rw (k, ← h) refl
moved true false true t u h k = rw (k, ← h) refl
moved true false false t u h k = rw (k, ← h) refl
moved false true true t u h k = rw (k, ← h) refl
moved false true false t u h k = rw (k, ← h) refl
moved false false true t u h k = rw (k, ← h) refl
moved false false false t u h k = rw (k, ← h) refl

-- each spot of the list is within a metre
abbrev pub ArePlaced : List Spot → Type 0
ArePlaced [] = ⊤
ArePlaced (a ∷ rest) = IsPlaced a × ArePlaced rest

-- an odd number of links goes past the place
abbrev pub wedges : (Spot → Bool) → Spot → List Spot → Bool
wedges f a [] = false
wedges f a (b ∷ rest) = xor (swept (f a) (f b)) (wedges f b rest)

module _ (m : ℤ) (hm : pos 2 ≤ℤ m) (narrow : (a b : Spot) → IsPlaced a → IsPlaced b → IsNarrow m a b) (p : Point) where
  -- the side of the shifted place
  abbrev pub shifted : Spot → Spot → ℤ
  shifted a b = side_of a b (p.x *ℤ square m +ℤ m) (p.y *ℤ square m +ℤ pos 1) (p.n *ℤ square m)

  abbrev pub on_left : Spot → Spot → Bool
  on_left a b = lt_z (pos 0) (shifted a b)

  abbrev pub over_edge : Spot → Spot → Bool
  over_edge a b = crossed (record { start = a; end = b }) p.x p.y p.n

  pub sign_of : (a b : Spot) → IsPlaced a → IsPlaced b → (a.x ≡ b.x → a.y ≡ b.y → ⊥) → Sign (shifted a b)
  sign_of a b ha hb apart = side_sign m hm p.x p.y p.n p.positive a b (narrow a b ha hb) apart

  pub left_from : (a b : Spot) → IsPlaced a → IsPlaced b → pos 0 <ℤ shifted a b → pos 0 ≤ℤ side_at a b p
  left_from a b ha hb h = omega (arith, linear, side_same a b p, from_over m hm p.x p.y p.n p.positive a b (narrow a b ha hb) h)

  pub right_from : (a b : Spot) → IsPlaced a → IsPlaced b → shifted a b <ℤ pos 0 → side_at a b p ≤ℤ pos 0
  right_from a b ha hb h = omega (arith, linear, side_same a b p, from_under m hm p.x p.y p.n p.positive a b (narrow a b ha hb) h)

  n_over : pos 0 <ℤ (p.n *ℤ square m)
  n_over = more p.n (square m) (omega (arith, linear, p.positive)) (more m m (omega (arith, linear, hm)) (omega (arith, linear, hm)))

  pub edge_back : (a b : Spot) → over_edge a b ≡ over_edge b a
  edge_back a b = or-swap (passes a b p.x p.y p.n) (passes b a p.x p.y p.n)

  abbrev height : Spot → ℤ
  height a = (p.n *ℤ square m) *ℤ a.y -ℤ (p.y *ℤ square m +ℤ pos 1)

  -- of the triangle from c to a and b the ray crosses an odd number of edges where the place is inside
  pub fan_by : (c a b : Spot) → IsPlaced c → IsPlaced a → IsPlaced b → Sign (shifted c a) → Sign (shifted a b) → Sign (shifted b c) → (shifted c a <ℤ pos 0 → shifted a b <ℤ pos 0 → shifted b c <ℤ pos 0 → ⊥)
      → xor (over_edge c a) (xor (over_edge a b) (over_edge c b)) ≡ (on_left c a && (on_left a b && lt_z (pos 0) (shifted b c)))
  fan_by c a b hc ha hb ds dt du never =
      ap (λ (z : Bool). xor (over_edge c a) (xor (over_edge a b) z)) (edge_back c b)
      ∙ rw (hits c a hc ha, hits a b ha hb, hits b c hb hc)
      (triangle (height c) (height a) (height b) (shifted c a) (shifted a b) (shifted b c) (height_sign m hm p.x p.y p.n p.positive c.y) (height_sign m hm p.x p.y p.n p.positive a.y) (height_sign m hm p.x p.y p.n p.positive b.y) ds dt du
      (weigh c a b (p.x *ℤ square m +ℤ m) (p.y *ℤ square m +ℤ pos 1) (p.n *ℤ square m) (omega (arith, linear, n_over))) never)
    where
      hits : (a b : Spot) → IsPlaced a → IsPlaced b → over_edge a b ≡ hit (height a) (height b) (shifted a b)
      hits a b ha hb = crossed_is_hit m hm p.x p.y p.n p.positive a b (narrow a b ha hb)

  -- the sides of a triangle sum to a multiple of its cross product
  pub shifted_sum : (c a b : Spot) → (shifted c a +ℤ shifted a b) +ℤ shifted b c ≡ (p.n *ℤ square m) *ℤ cross_of c a b
  shifted_sum c a b = sides_sum c a b (p.x *ℤ square m +ℤ m) (p.y *ℤ square m +ℤ pos 1) (p.n *ℤ square m)

  pub shifted_back : (a b : Spot) → shifted b a ≡ neg_ℤ (shifted a b)
  shifted_back a b = side_back a b (p.x *ℤ square m +ℤ m) (p.y *ℤ square m +ℤ pos 1) (p.n *ℤ square m)

  pub fan : (c a b : Spot) → IsPlaced c → IsPlaced a → IsPlaced b → pos 1 ≤ℤ cross_of c a b → xor (over_edge c a) (xor (over_edge a b) (over_edge c b)) ≡ (on_left c a && (on_left a b && not (on_left c b)))
  fan c a b hc ha hb turns =
      fan_by c a b hc ha hb (sign_of c a hc ha (first_two c a b turns)) (sign_of a b ha hb (last_two c a b turns)) (sign_of b c hb hc (λ e f. both_ends c a b turns (sym e) (sym f))) never
      ∙ ap (λ (z : Bool). on_left c a && (on_left a b && z)) (ap (λ (z : ℤ). lt_z (pos 0) z) (shifted_back c b) ∙ sign_not (shifted c b) (sign_of c b hc hb (both_ends c a b turns)))
    where
      never : shifted c a <ℤ pos 0 → shifted a b <ℤ pos 0 → shifted b c <ℤ pos 0 → ⊥
      never h k l =
          let o : pos 0 <ℤ ((p.n *ℤ square m) *ℤ cross_of c a b) = more (p.n *ℤ square m) (cross_of c a b) n_over (omega (arith, linear, turns)) in
          omega (arith, linear, h, k, l, o, shifted_sum c a b)

  -- the side of a chord, by those of its ends
  pub chord_side : (c a b : Spot) → side_at c a p -ℤ side_at c b p ≡ p.n *ℤ cross_of c a b -ℤ side_at a b p
  chord_side c a b = simp ring (omega (arith, linear))

  module _ (c : Spot) (hc : IsPlaced c) (s least most near far k : ℤ) (room : IsRoom s s least most near far k) where
    -- the place is in the disc
    abbrev pub inside : Bool
    inside = le_z (reach_of c p) (square p.n *ℤ s)

    -- the triangle over a link holds the place where the link goes past it and the disc holds it, or the place is in the capsule of the link
    link_fits : (a b : Spot) → IsPlaced a → IsPlaced b → IsLink c near far a b → Sign (shifted c a) → Sign (shifted a b) → Sign (shifted c b) → ((inside && swept (on_left c a) (on_left c b)) ≡ (on_left c a && (on_left a b && not (on_left c b)))) ⊎ InCapsule a b k p
    link_fits a b ha hb link (under h h1 h2) l r = inl (rw h1 (and-false inside))
    link_fits a b ha hb link (over h h1 h2) l (over g g1 g2) = inl (rw (g1, h1, and-false (on_left a b)) (and-false inside))
    link_fits a b ha hb link (over h h1 h2) (over f f1 f2) (under g g1 g2) = elim (le_or_lt (reach_of c p) (square p.n *ℤ s)) [
      | inl i ↦ inl (rw (is_le (reach_of c p) (square p.n *ℤ s) i, g1, f1, h1) refl)
      | inr o ↦ inr (outer c a b s least most near far k room link.0 p (left_from c a hc ha h) (right_from c b hc hb g) o (omega (arith, linear, chord_side c a b, left_from a b ha hb f)))
    ]
    link_fits a b ha hb link (over h h1 h2) (under f f1 f2) (under g g1 g2) = elim (le_or_lt (reach_of c p) (square p.n *ℤ s)) [
      | inl i ↦ inr (inner c a b s least most near far k room link.0 p (left_from c a hc ha h) (right_from c b hc hb g) i (omega (arith, linear, chord_side c a b, right_from a b ha hb f)))
      | inr o ↦ inl (rw (not_le (reach_of c p) (square p.n *ℤ s) o, g1, f1, h1) refl)
    ]

    link_crossed : (a b : Spot) → IsPlaced a → IsPlaced b → IsLink c near far a b → (xor (over_edge a b) (inside && swept (on_left c a) (on_left c b)) ≡ xor (over_edge c a) (over_edge c b)) ⊎ InCapsule a b k p
    link_crossed a b ha hb link = elim (link_fits a b ha hb link (sign_of c a hc ha (first_two c a b link.0.left)) (sign_of a b ha hb (last_two c a b link.0.left)) (sign_of c b hc hb (both_ends c a b link.0.left))) [
      | inl e ↦ inl (moved (over_edge c a) (over_edge a b) (over_edge c b) _ _ (fan c a b hc ha hb link.0.left) e)
      | inr h ↦ inr h
    ]

    -- so of a chain
    pub chain_crossed : (a : Spot) (rest : List Spot) → IsPlaced a → ArePlaced rest → EachFrom (IsLink c near far) a rest → (xor (odd (edges_from a rest) p.x p.y p.n) (inside && wedges (on_left c) a rest) ≡ xor (over_edge c a) (over_edge c (end_from a rest))) ⊎ InFrom a rest k p
    chain_crossed a [] ha hr links = inl (rw (and-false inside) (sym (xor-same (over_edge c a))))
    chain_crossed a (b ∷ rest) ha hr links = elim (link_crossed a b ha hr.0 links.0) [
      | inr h ↦ inr (inl h)
      | inl e ↦ elim (chain_crossed b rest hr.0 hr.1 links.1) [
        | inr h ↦ inr (inr h)
        | inl f ↦ inl (ap (λ (z : Bool). xor (odd (edges_from a (b ∷ rest)) p.x p.y p.n) z) (and-xor inside (swept (on_left c a) (on_left c b)) (wedges (on_left c) b rest))
            ∙ xor-chain (over_edge a b) (inside && swept (on_left c a) (on_left c b)) (odd (edges_from b rest) p.x p.y p.n) (inside && wedges (on_left c) b rest) (over_edge c a) (over_edge c b) (over_edge c (end_from b rest)) e f)
      ]
    ]

    -- and how far it turns
    pub chain_turned : (s : Spot) → IsPlaced s → Sign (shifted c s) → (a : Spot) (rest : List Spot) → IsPlaced a → ArePlaced rest → EachFrom (IsLink c near far) a rest
        → xor (wedges (on_left c) a rest) (odd_past c s a rest) ≡ xor (turned (cross_of c s a) (on_left c s) (on_left c a)) (turned (cross_of c s (end_from a rest)) (on_left c s) (on_left c (end_from a rest)))
    chain_turned s hs ds a [] ha hr links = sym (xor-same (turned (cross_of c s a) (on_left c s) (on_left c a)))
    chain_turned s hs ds a (b ∷ rest) ha hr links =
        xor-chain (swept (on_left c a) (on_left c b)) (is_past c s a b) (wedges (on_left c) b rest) (odd_past c s b rest) (turned (cross_of c s a) (on_left c s) (on_left c a)) (turned (cross_of c s b) (on_left c s) (on_left c b)) (turned (cross_of c s (end_from b rest)) (on_left c s) (on_left c (end_from b rest)))
        (step (cross_of c s a) (cross_of c s b) (cross_of c a b) (shifted c s) (shifted c a) (shifted c b) (omega (arith, linear, links.0.0.left)) (three c s a b (p.x *ℤ square m +ℤ m) (p.y *ℤ square m +ℤ pos 1) (p.n *ℤ square m)) ds
        (sign_of c a hc ha (first_two c a b links.0.0.left)) (sign_of c b hc hr.0 (both_ends c a b links.0.0.left)))
        (chain_turned s hs ds b rest hr.0 hr.1 links.1)
