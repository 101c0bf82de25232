-- The rule of the ray with tests. A place is (x/n, y/n).
use Rattle.std.proofs.Common.{Bool, arith, false, inl, inr, pos, refl, sym, true, ℤ, List, [], ◌∷◌, ◌||◌, ◌*ℤ◌, ◌+ℤ◌, ◌-ℤ◌, ◌<ℤ◌, ◌↔◌, ◌∙◌, ◌≡◌, ◌≤ℤ◌, ◌⊎◌, IsTrue}
use lib.Signed.{lt_z, le_z}
use Rattle.planar.specs.declared.Spot.{Spot}
use Rattle.planar.specs.Plane.{Point, square, RayCrosses, PassesRight}
use Rattle.planar.proofs.Ring.{ring, linear, times_mono, times_cancel, times-zero, square_from_zero, square_zero, le_or_lt}
use Rattle.planar.proofs.EdgeLaw.{xor, crosses, not_lt, not_le, is_lt, is_le}
use Rattle.area_contact.specs.declared.Edge.{Edge}
use Rattle.area_contact.specs.Contour.{OddCrossed, ExactlyOne}

-- ---- the tests

-- which hand of the edge from low to high the place is on
abbrev pub side_of : Spot → Spot → ℤ → ℤ → ℤ → ℤ
side_of low high x y n = (high.x -ℤ low.x) *ℤ (y -ℤ n *ℤ low.y) +ℤ (n *ℤ low.x -ℤ x) *ℤ (high.y -ℤ low.y)

-- the edge goes up past the height of the place, to the right of it
abbrev pub passes : Spot → Spot → ℤ → ℤ → ℤ → Bool
passes low high x y n = crosses (pos 0) (n *ℤ low.y -ℤ y) (n *ℤ high.y -ℤ y) (side_of low high x y n)

-- the ray from the place to the right crosses the edge, and an odd number of the edges
abbrev pub crossed : Edge → ℤ → ℤ → ℤ → Bool
crossed e x y n = passes e.start e.end x y n || passes e.end e.start x y n

abbrev pub odd : List Edge → ℤ → ℤ → ℤ → Bool
odd [] x y n = false
odd (e ∷ es) x y n = xor (crossed e x y n) (odd es x y n)

-- ---- Bool

-- laws of exclusive or, and of or
pub xor-comm : (a b : Bool) → xor a b ≡ xor b a
xor-comm true true = refl
xor-comm true false = refl
xor-comm false true = refl
xor-comm false false = refl

pub or-false : (b : Bool) → (b || false) ≡ b
or-false true = refl
or-false false = refl

xor-middle : (a b c d : Bool) → xor (xor a c) (xor b d) ≡ xor (xor a b) (xor c d)
xor-middle true true true true = refl
xor-middle true true true false = refl
xor-middle true true false true = refl
xor-middle true true false false = refl
xor-middle true false true true = refl
xor-middle true false true false = refl
xor-middle true false false true = refl
xor-middle true false false false = refl
xor-middle false true true true = refl
xor-middle false true true false = refl
xor-middle false true false true = refl
xor-middle false true false false = refl
xor-middle false false true true = refl
xor-middle false false true false = refl
xor-middle false false false true = refl
xor-middle false false false false = refl

pub xor-over : (s t u : Bool) → xor (xor s t) (xor t u) ≡ xor s u
xor-over true true true = refl
xor-over true true false = refl
xor-over true false true = refl
xor-over true false false = refl
xor-over false true true = refl
xor-over false true false = refl
xor-over false false true = refl
xor-over false false false = refl

-- a and b have the sum of s and t, and c and d that of t and u
pub xor-chain : (a b c d s t u : Bool) → xor a b ≡ xor s t → xor c d ≡ xor t u → xor (xor a c) (xor b d) ≡ xor s u
xor-chain a b c d s t u h k = xor-middle a b c d ∙ rw (h, k) (xor-over s t u)

-- where neither of two holds alone they are the same
pub xor-equal : (a b : Bool) → xor a b ≡ false → a ≡ b
xor-equal true true h = refl
xor-equal true false h = cc
xor-equal false true h = cc
xor-equal false false h = refl

-- ---- tests of places that are told in two ways

-- comparisons that agree both ways have one test
pub same_lt : (a b c d : ℤ) → (a <ℤ b → c <ℤ d) → (b ≤ℤ a → d ≤ℤ c) → lt_z a b ≡ lt_z c d
same_lt a b c d f g = elim (le_or_lt b a) [ inl k ↦ not_lt a b k ∙ sym (not_lt c d (g k)) | inr k ↦ is_lt a b k ∙ sym (is_lt c d (f k)) ]

pub same_le : (a b c d : ℤ) → (a ≤ℤ b → c ≤ℤ d) → (b <ℤ a → d <ℤ c) → le_z a b ≡ le_z c d
same_le a b c d f g = elim (le_or_lt a b) [ inl k ↦ is_le a b k ∙ sym (is_le c d (f k)) | inr k ↦ not_le a b k ∙ sym (not_le c d (g k)) ]

-- a number and what is a over 0 times as much are over 0 together
pub sign : (k z w : ℤ) → pos 1 ≤ℤ k → w ≡ k *ℤ z → lt_z (pos 0) w ≡ lt_z (pos 0) z
sign k z w h e = same_lt (pos 0) w (pos 0) z up down
  where
    up : pos 0 <ℤ w → pos 0 <ℤ z
    up l = elim (le_or_lt z (pos 0)) [ inl m ↦ absurd (no m) | inr m ↦ m ]
      where
        no : z ≤ℤ pos 0 → ⊥
        no m = let f : (k *ℤ z) ≤ℤ (k *ℤ pos 0) = times_mono k z (pos 0) (omega (arith, linear)) m in omega (arith, linear, times-zero k, e)

    down : w ≤ℤ pos 0 → z ≤ℤ pos 0
    down l = times_cancel k z (pos 0) h (omega (arith, linear, times-zero k, e))

-- so do crossings whose comparisons do
pub same_crosses : (h low high f h' low' high' f' : ℤ) → le_z low h ≡ le_z low' h' → lt_z h high ≡ lt_z h' high' → lt_z (pos 0) f ≡ lt_z (pos 0) f' → crosses h low high f ≡ crosses h' low' high' f'
same_crosses h low high f h' low' high' f' p q r = rw (p, q, r)

-- ---- what the tests say

crosses_is : (h low high f : ℤ) → IsTrue (crosses h low high f) ↔ ((low ≤ℤ h) × (h <ℤ high) × (pos 0 <ℤ f))
crosses_is h low high f = (there, λ k. back k.0 k.1 k.2)
  where
    there : IsTrue (crosses h low high f) → (low ≤ℤ h) × (h <ℤ high) × (pos 0 <ℤ f)
    there t = elim (le_or_lt low h) [
      | inl k ↦ elim (le_or_lt high h) [
        | inl l ↦ (let e : crosses h low high f ≡ false = rw (is_le low h k, not_lt h high l) in cc)
        | inr l ↦ elim (le_or_lt f (pos 0)) [
          | inl m ↦ (let e : crosses h low high f ≡ false = rw (is_le low h k, is_lt h high l, not_lt (pos 0) f m) in cc)
          | inr m ↦ (k, l, m)
        ]
      ]
      | inr k ↦ (let e : crosses h low high f ≡ false = rw (not_le low h k) in cc)
    ]

    back : low ≤ℤ h → h <ℤ high → pos 0 <ℤ f → IsTrue (crosses h low high f)
    back k l m = rw (is_le low h k, is_lt h high l, is_lt (pos 0) f m) refl

-- the tests hold exactly where the relations do
pub passes_is : (low high : Spot) (p : Point) → IsTrue (passes low high p.x p.y p.n) ↔ PassesRight low high p
passes_is low high p =
    let d : IsTrue (passes low high p.x p.y p.n) ↔ (((p.n *ℤ low.y -ℤ p.y) ≤ℤ pos 0) × (pos 0 <ℤ (p.n *ℤ high.y -ℤ p.y)) × (pos 0 <ℤ (side_of low high p.x p.y p.n))) =
    crosses_is (pos 0) (p.n *ℤ low.y -ℤ p.y) (p.n *ℤ high.y -ℤ p.y) (side_of low high p.x p.y p.n) in
    (λ t. (omega (arith, linear, (d.0 t).0), omega (arith, linear, (d.0 t).1), (d.0 t).2), λ k. d.1 (omega (arith, linear, k.0), omega (arith, linear, k.1), k.2))

either_is : {P Q : Type 0} (s t : Bool) → IsTrue s ↔ P → IsTrue t ↔ Q → IsTrue (s || t) ↔ (P ⊎ Q)
either_is true t f g = (λ h. inl (f.0 refl), λ k. refl)
either_is {P} {Q} false t f g = (λ h. inr (g.0 h), back)
  where
    back : P ⊎ Q → IsTrue t
    back (inl k) = let l : false ≡ true = f.1 k in cc
    back (inr k) = g.1 k

-- of the ray and an edge
pub crossed_is : (e : Edge) (p : Point) → IsTrue (crossed e p.x p.y p.n) ↔ RayCrosses e.start e.end p
crossed_is e p = either_is (passes e.start e.end p.x p.y p.n) (passes e.end e.start p.x p.y p.n) (passes_is e.start e.end p) (passes_is e.end e.start p)

-- what has a test that fails does not hold
pub no_true : {P : Type 0} → IsTrue false ↔ P → P → ⊥
no_true f k = let l : false ≡ true = f.1 k in cc

-- exactly one of two holds where exactly one of their tests does
pub one_is : {P Q : Type 0} (s t : Bool) → IsTrue s ↔ P → IsTrue t ↔ Q → IsTrue (xor s t) ↔ ExactlyOne P Q
one_is {P} {Q} true true f g = (λ h. absurd (no h), back)
  where
    no : IsTrue false → ⊥
    no h = cc

    back : ExactlyOne P Q → IsTrue false
    back (inl k) = absurd (k.1 (g.0 refl))
    back (inr k) = absurd (k.1 (f.0 refl))
one_is true false f g = (λ h. inl (f.0 refl, no_true g), λ k. refl)
one_is false true f g = (λ h. inr (g.0 refl, no_true f), λ k. refl)
one_is {P} {Q} false false f g = (λ h. absurd (no h), back)
  where
    no : IsTrue false → ⊥
    no h = cc

    back : ExactlyOne P Q → IsTrue false
    back (inl k) = f.1 k.0
    back (inr k) = g.1 k.0

-- and so of an odd number of crossed edges
pub odd_is : (es : List Edge) (p : Point) → IsTrue (odd es p.x p.y p.n) ↔ OddCrossed es p
odd_is [] p = (no, absurd)
  where
    no : IsTrue false → ⊥
    no h = cc
odd_is (e ∷ es) p = one_is (crossed e p.x p.y p.n) (odd es p.x p.y p.n) (crossed_is e p) (odd_is es p)

-- ---- a length of nothing

-- places at most nothing apart are one
pub none_apart : (m gx gy : ℤ) → (square gx +ℤ square gy) ≤ℤ square (m *ℤ pos 0) → (gx ≡ pos 0) × (gy ≡ pos 0)
none_apart m gx gy h =
    let none : square (m *ℤ pos 0) ≡ pos 0 = simp ring in
    let x : pos 0 ≤ℤ square gx = square_from_zero gx in
    let y : pos 0 ≤ℤ square gy = square_from_zero gy in
    (square_zero gx (omega (arith, linear, none, x, y, h)), square_zero gy (omega (arith, linear, none, x, y, h)))
