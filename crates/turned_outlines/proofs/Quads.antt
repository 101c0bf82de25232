-- Closed lines of vectors: the parity of the edges that a ray from 0 meets.
use Rattle.std.proofs.Common.{Bool, false, not, ◌&&◌, ◌≡◌, inl, inr, List, [], ◌∷◌, ℤ, pos, neg_ℤ, ◌+ℤ◌, ◌-ℤ◌, ◌*ℤ◌, ◌≤ℤ◌, ◌<ℤ◌, arith, sym, ◌∙◌}
use Rattle.std.specs.Prelude.{⊤}
use lib.Signed.{lt_z}
use Rattle.planar.specs.declared.Spot.{Spot}
use Rattle.planar.proofs.EdgeLaw.{xor, xor-same}
use Rattle.planar.proofs.Ring.{ring, linear, le_or_lt, over_zero, one-times, zero-times, times-zero, times-one}
use Rattle.area_contact.specs.Contour.{end_from}
use Rattle.area_contact.specs.Parity.{xor-chain, xor-equal}
use Rattle.turned_outlines.proofs.Rays.{by_two, crossed_over, meets, on_side}

-- how the second vector turns from the first, and how far it is ahead along it
abbrev pub turn : ℤ → ℤ → ℤ → ℤ → ℤ
turn ax ay bx by = ax *ℤ by -ℤ ay *ℤ bx

abbrev pub ahead : ℤ → ℤ → ℤ → ℤ → ℤ
ahead gx gy ax ay = gx *ℤ ax +ℤ gy *ℤ ay

weighed : (gx gy dx dy ax ay bx by : ℤ) → ahead gx gy dx dy *ℤ turn ax ay bx by ≡ ahead gx gy ax ay *ℤ turn dx dy bx by -ℤ ahead gx gy bx by *ℤ turn dx dy ax ay
weighed gx gy dx dy ax ay bx by = simp ring (omega (arith, linear))

spanned : (gx gy cx cy dx dy ax ay : ℤ) → turn cx cy ax ay *ℤ ahead gx gy dx dy -ℤ turn dx dy ax ay *ℤ ahead gx gy cx cy ≡ turn cx cy dx dy *ℤ ahead gx gy ax ay
spanned gx gy cx cy dx dy ax ay = simp ring (omega (arith, linear))

-- the ray along d meets the edge
abbrev pub met : ℤ → ℤ → ℤ → ℤ → ℤ → ℤ → Bool
met dx dy ax ay bx by = meets (turn dx dy ax ay) (turn dx dy bx by) (turn ax ay bx by)

-- two vectors are ahead of a line through 0
pub record Cleared (ax ay bx by : ℤ) : Type 0 where
  pub gx : ℤ
  pub gy : ℤ
  pub first : pos 1 ≤ℤ ahead gx gy ax ay
  pub last : pos 1 ≤ℤ ahead gx gy bx by

on_line : (gx gy dx dy ax ay bx by : ℤ) → pos 1 ≤ℤ ahead gx gy ax ay → pos 1 ≤ℤ ahead gx gy bx by → met dx dy ax ay bx by ≡ (lt_z (pos 0) (ahead gx gy dx dy) && xor (lt_z (pos 0) (turn dx dy ax ay)) (lt_z (pos 0) (turn dx dy bx by)))
on_line gx gy dx dy ax ay bx by first last =
    on_side (ahead gx gy dx dy) (ahead gx gy ax ay) (ahead gx gy bx by) (turn dx dy ax ay) (turn dx dy bx by) (turn ax ay bx by) first last (weighed gx gy dx dy ax ay bx by)

-- ---- two rays

abbrev within : ℤ → ℤ → ℤ → ℤ → ℤ → ℤ → Bool
within cx cy dx dy ax ay = lt_z (pos 0) (turn cx cy ax ay) && not (lt_z (pos 0) (turn dx dy ax ay))

edge_by_two : (cx cy dx dy ax ay bx by : ℤ) → pos 1 ≤ℤ turn cx cy dx dy → Cleared ax ay bx by → xor (met cx cy ax ay bx by) (met dx dy ax ay bx by) ≡ xor (within cx cy dx dy ax ay) (within cx cy dx dy bx by)
edge_by_two cx cy dx dy ax ay bx by some k =
    by_two (ahead k.gx k.gy cx cy) (ahead k.gx k.gy dx dy) (ahead k.gx k.gy ax ay) (ahead k.gx k.gy bx by) (turn cx cy ax ay) (turn cx cy bx by) (turn dx dy ax ay) (turn dx dy bx by) (turn ax ay bx by) k.first k.last
    (weighed k.gx k.gy cx cy ax ay bx by) (weighed k.gx k.gy dx dy ax ay bx by) (over ax ay k.first) (over bx by k.last)
  where
    over : (x y : ℤ) → pos 1 ≤ℤ ahead k.gx k.gy x y → pos 1 ≤ℤ (turn cx cy x y *ℤ ahead k.gx k.gy dx dy -ℤ turn dx dy x y *ℤ ahead k.gx k.gy cx cy)
    over x y h = rw (spanned k.gx k.gy cx cy dx dy x y) (over_zero (turn cx cy dx dy) (ahead k.gx k.gy x y) some h)

module _ (X Y : Spot → ℤ) where
  -- an odd number of the edges from a through the spots is met
  abbrev pub odd_met : ℤ → ℤ → Spot → List Spot → Bool
  odd_met dx dy a [] = false
  odd_met dx dy a (b ∷ rest) = xor (met dx dy (X a) (Y a) (X b) (Y b)) (odd_met dx dy b rest)

  abbrev pub AllCleared : Spot → List Spot → Type 0
  AllCleared a [] = ⊤
  AllCleared a (b ∷ rest) = Cleared (X a) (Y a) (X b) (Y b) × AllCleared b rest

  odd_by_two : (cx cy dx dy : ℤ) → pos 1 ≤ℤ turn cx cy dx dy → (a : Spot) (rest : List Spot) → AllCleared a rest
      → xor (odd_met cx cy a rest) (odd_met dx dy a rest) ≡ xor (within cx cy dx dy (X a) (Y a)) (within cx cy dx dy (X (end_from a rest)) (Y (end_from a rest)))
  odd_by_two cx cy dx dy some a [] all = sym (xor-same (within cx cy dx dy (X a) (Y a)))
  odd_by_two cx cy dx dy some a (b ∷ rest) all =
      xor-chain (met cx cy (X a) (Y a) (X b) (Y b)) (met dx dy (X a) (Y a) (X b) (Y b)) (odd_met cx cy b rest) (odd_met dx dy b rest) (within cx cy dx dy (X a) (Y a)) (within cx cy dx dy (X b) (Y b)) (within cx cy dx dy (X (end_from b rest)) (Y (end_from b rest)))
      (edge_by_two cx cy dx dy (X a) (Y a) (X b) (Y b) some all.0) (odd_by_two cx cy dx dy some b rest all.1)

  -- a ray on the left of another
  swung : (cx cy dx dy : ℤ) → pos 1 ≤ℤ turn cx cy dx dy → (a : Spot) (rest : List Spot) → end_from a rest ≡ a → AllCleared a rest → odd_met cx cy a rest ≡ odd_met dx dy a rest
  swung cx cy dx dy some a rest closed all = xor-equal (odd_met cx cy a rest) (odd_met dx dy a rest) (odd_by_two cx cy dx dy some a rest all ∙ rw closed (xor-same (within cx cy dx dy (X a) (Y a))))

  -- the parity does not depend on where the ray goes: that to the right, and that along d
  pub any_way : (dx dy : ℤ) → (dx ≡ pos 0 → dy ≡ pos 0 → ⊥) → (a : Spot) (rest : List Spot) → end_from a rest ≡ a → AllCleared a rest → odd_met (pos 1) (pos 0) a rest ≡ odd_met dx dy a rest
  any_way dx dy some a rest closed all = elim (le_or_lt dy (pos 0)) [
    | inl h ↦ elim (le_or_lt (pos 0) dy) [
      | inl k ↦ swung (pos 1) (pos 0) (pos 0) (pos 1) up a rest closed all ∙ level (omega (arith, linear, h, k))
      | inr k ↦ sym (swung dx dy (pos 1) (pos 0) (below k) a rest closed all)
    ]
    | inr h ↦ swung (pos 1) (pos 0) dx dy (above h) a rest closed all
  ]
    where
      up : pos 1 ≤ℤ turn (pos 1) (pos 0) (pos 0) (pos 1)
      up = record { le = tt }

      above : pos 0 <ℤ dy → pos 1 ≤ℤ turn (pos 1) (pos 0) dx dy
      above h = omega (arith, linear, h, one-times dy, zero-times dx)

      below : dy <ℤ pos 0 → pos 1 ≤ℤ turn dx dy (pos 1) (pos 0)
      below h = omega (arith, linear, h, times-one dy, times-zero dx)

      right : pos 1 ≤ℤ dx → pos 1 ≤ℤ turn dx dy (pos 0) (pos 1)
      right h = omega (arith, linear, h, times-one dx, times-zero dy)

      left : dx ≤ℤ neg_ℤ (pos 1) → pos 1 ≤ℤ turn (pos 0) (pos 1) dx dy
      left h = omega (arith, linear, h, one-times dx, zero-times dy)

      level : dy ≡ pos 0 → odd_met (pos 0) (pos 1) a rest ≡ odd_met dx dy a rest
      level e = elim (le_or_lt dx (pos 0)) [
        | inl h ↦ elim (le_or_lt (pos 0) dx) [
          | inl k ↦ absurd (some (omega (arith, linear, h, k)) e)
          | inr k ↦ swung (pos 0) (pos 1) dx dy (left (omega (arith, linear, k))) a rest closed all
        ]
        | inr h ↦ sym (swung dx dy (pos 0) (pos 1) (right (omega (arith, linear, h))) a rest closed all)
      ]

-- ---- two lines whose vectors belong to one another: v of spots a, w of spots c

-- both edges are ahead of a line through 0
pub record Sided (ax ay bx by cx cy dx dy : ℤ) : Type 0 where
  pub gx : ℤ
  pub gy : ℤ
  pub a_is : pos 1 ≤ℤ ahead gx gy ax ay
  pub b_is : pos 1 ≤ℤ ahead gx gy bx by
  pub c_is : pos 1 ≤ℤ ahead gx gy cx cy
  pub d_is : pos 1 ≤ℤ ahead gx gy dx dy

even : (ex ey ax ay bx by cx cy dx dy : ℤ) → Sided ax ay bx by cx cy dx dy → xor (met ex ey ax ay bx by) (met ex ey cx cy dx dy) ≡ xor (met ex ey ax ay cx cy) (met ex ey bx by dx dy)
even ex ey ax ay bx by cx cy dx dy k =
    rw (
      on_line k.gx k.gy ex ey ax ay bx by k.a_is k.b_is,
      on_line k.gx k.gy ex ey cx cy dx dy k.c_is k.d_is,
      on_line k.gx k.gy ex ey ax ay cx cy k.a_is k.c_is,
      on_line k.gx k.gy ex ey bx by dx dy k.b_is k.d_is,
    ) (crossed_over (lt_z (pos 0) (ahead k.gx k.gy ex ey)) (lt_z (pos 0) (turn ex ey ax ay)) (lt_z (pos 0) (turn ex ey bx by)) (lt_z (pos 0) (turn ex ey cx cy)) (lt_z (pos 0) (turn ex ey dx dy)))

module _ (vx vy wx wy : Spot → ℤ) where
  abbrev pub AllSided : Spot → List Spot → Spot → List Spot → Type 0
  AllSided a [] c [] = ⊤
  AllSided a [] c (d ∷ ys) = ⊥
  AllSided a (b ∷ xs) c [] = ⊥
  AllSided a (b ∷ xs) c (d ∷ ys) = Sided (vx a) (vy a) (vx b) (vy b) (wx c) (wy c) (wx d) (wy d) × AllSided b xs d ys

  abbrev link : ℤ → ℤ → Spot → Spot → Bool
  link ex ey a c = met ex ey (vx a) (vy a) (wx c) (wy c)

  linked : (ex ey : ℤ) (a : Spot) (xs : List Spot) (c : Spot) (ys : List Spot) → AllSided a xs c ys → xor (odd_met vx vy ex ey a xs) (odd_met wx wy ex ey c ys) ≡ xor (link ex ey a c) (link ex ey (end_from a xs) (end_from c ys))
  linked ex ey a [] c [] all = sym (xor-same (link ex ey a c))
  linked ex ey a [] c (d ∷ ys) all = absurd all
  linked ex ey a (b ∷ xs) c [] all = absurd all
  linked ex ey a (b ∷ xs) c (d ∷ ys) all =
      xor-chain (met ex ey (vx a) (vy a) (vx b) (vy b)) (met ex ey (wx c) (wy c) (wx d) (wy d)) (odd_met vx vy ex ey b xs) (odd_met wx wy ex ey d ys) (link ex ey a c) (link ex ey b d) (link ex ey (end_from b xs) (end_from d ys))
      (even ex ey (vx a) (vy a) (vx b) (vy b) (wx c) (wy c) (wx d) (wy d) all.0) (linked ex ey b xs d ys all.1)

  -- closed, they have one parity
  pub one_parity : (ex ey : ℤ) (a : Spot) (xs : List Spot) (c : Spot) (ys : List Spot) → end_from a xs ≡ a → end_from c ys ≡ c → AllSided a xs c ys → odd_met vx vy ex ey a xs ≡ odd_met wx wy ex ey c ys
  one_parity ex ey a xs c ys closed closed' all = xor-equal (odd_met vx vy ex ey a xs) (odd_met wx wy ex ey c ys) (linked ex ey a xs c ys all ∙ rw (closed, closed') (xor-same (link ex ey a c)))

  pub cleared : (a : Spot) (xs : List Spot) (c : Spot) (ys : List Spot) → AllSided a xs c ys → AllCleared wx wy c ys
  cleared a [] c [] all = tt
  cleared a [] c (d ∷ ys) all = absurd all
  cleared a (b ∷ xs) c [] all = absurd all
  cleared a (b ∷ xs) c (d ∷ ys) all = (record { gx = all.0.gx; gy = all.0.gy; first = all.0.c_is; last = all.0.d_is }, cleared b xs d ys all.1)
