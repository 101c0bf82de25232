-- Rays from 0 and edges between vectors. An edge goes from a to b. A and B tell how a and b turn from the ray's direction, f how b turns from a.
use Rattle.std.proofs.Common.{Bool, true, false, not, ◌&&◌, ◌||◌, ◌≡◌, inl, inr, ℤ, pos, neg_ℤ, ◌-ℤ◌, ◌*ℤ◌, ◌≤ℤ◌, ◌<ℤ◌, arith, refl, sym, ◌∙◌}
use lib.Signed.{lt_z}
use Rattle.planar.proofs.EdgeLaw.{crosses, xor, not_lt, not_le, is_lt, is_le}
use Rattle.planar.proofs.Ring.{ring, linear, le_or_lt, times_from_zero, over_zero, mul-neg}
use Rattle.area_contact.specs.Parity.{or-false, same_lt, xor-chain}
use Rattle.arc_regions.proofs.Fans.{and-false}

-- the ray meets the edge
abbrev pub meets : ℤ → ℤ → ℤ → Bool
meets A B f = crosses (pos 0) A B f || crosses (pos 0) B A (neg_ℤ f)

-- ---- by the signs of both ends

none_up : (A B f : ℤ) → A ≤ℤ pos 0 → B ≤ℤ pos 0 → meets A B f ≡ false
none_up A B f h k = rw (is_le A (pos 0) h, not_lt (pos 0) B k, is_le B (pos 0) k, not_lt (pos 0) A h) refl

both_up : (A B f : ℤ) → pos 0 <ℤ A → pos 0 <ℤ B → meets A B f ≡ false
both_up A B f h k = rw (not_le A (pos 0) h, not_le B (pos 0) k) refl

comes_up : (A B f : ℤ) → A ≤ℤ pos 0 → pos 0 <ℤ B → meets A B f ≡ lt_z (pos 0) f
comes_up A B f h k = rw (is_le A (pos 0) h, is_lt (pos 0) B k, not_le B (pos 0) k) (or-false (lt_z (pos 0) f))

comes_down : (A B f : ℤ) → pos 0 <ℤ A → B ≤ℤ pos 0 → meets A B f ≡ lt_z (pos 0) (neg_ℤ f)
comes_down A B f h k = rw (not_le A (pos 0) h, is_le B (pos 0) k, is_lt (pos 0) A h) refl

-- ---- the signs of products

-- two numbers whose product is over 0 are over 0 together
together : (G f : ℤ) → pos 1 ≤ℤ (G *ℤ f) → lt_z (pos 0) f ≡ lt_z (pos 0) G
together G f some = same_lt (pos 0) f (pos 0) G up down
  where
    up : pos 0 <ℤ f → pos 0 <ℤ G
    up h = elim (le_or_lt G (pos 0)) [
      | inl l ↦ (let k : pos 0 ≤ℤ (neg_ℤ G *ℤ f) = times_from_zero (neg_ℤ G) f (omega (arith, linear, l)) (omega (arith, linear, h)) in absurd (omega (arith, linear, some, simp ring at k)))
      | inr l ↦ l
    ]

    down : f ≤ℤ pos 0 → G ≤ℤ pos 0
    down h = elim (le_or_lt G (pos 0)) [
      | inl l ↦ l
      | inr l ↦ (let k : pos 0 ≤ℤ (G *ℤ neg_ℤ f) = times_from_zero G (neg_ℤ f) (omega (arith, linear, l)) (omega (arith, linear, h)) in absurd (omega (arith, linear, some, mul-neg G f, k)))
    ]

unlike : (a g : ℤ) → xor (lt_z (pos 0) a) (lt_z (pos 0) g) ≡ true → (a *ℤ g) ≤ℤ pos 0
unlike a g h = elim (le_or_lt a (pos 0)) [
  | inl l ↦ elim (le_or_lt g (pos 0)) [
    | inl m ↦ (let e : xor (lt_z (pos 0) a) (lt_z (pos 0) g) ≡ false = rw (not_lt (pos 0) a l, not_lt (pos 0) g m) refl in absurd cc)
    | inr m ↦ (let k : pos 0 ≤ℤ (neg_ℤ a *ℤ g) = times_from_zero (neg_ℤ a) g (omega (arith, linear, l)) (omega (arith, linear, m)) in omega (arith, linear, simp ring at k))
  ]
  | inr l ↦ elim (le_or_lt g (pos 0)) [
    | inl m ↦ (let k : pos 0 ≤ℤ (a *ℤ neg_ℤ g) = times_from_zero a (neg_ℤ g) (omega (arith, linear, l)) (omega (arith, linear, m)) in omega (arith, linear, mul-neg a g, k))
    | inr m ↦ (let e : xor (lt_z (pos 0) a) (lt_z (pos 0) g) ≡ false = rw (is_lt (pos 0) a l, is_lt (pos 0) g m) refl in absurd cc)
  ]
]

alike : (a g : ℤ) → xor (lt_z (pos 0) a) (lt_z (pos 0) g) ≡ false → pos 0 ≤ℤ (a *ℤ g)
alike a g h = elim (le_or_lt a (pos 0)) [
  | inl l ↦ elim (le_or_lt g (pos 0)) [
    | inl m ↦ (let k : pos 0 ≤ℤ (neg_ℤ a *ℤ neg_ℤ g) = times_from_zero (neg_ℤ a) (neg_ℤ g) (omega (arith, linear, l)) (omega (arith, linear, m)) in both k)
    | inr m ↦ (let e : xor (lt_z (pos 0) a) (lt_z (pos 0) g) ≡ true = rw (not_lt (pos 0) a l, is_lt (pos 0) g m) refl in absurd cc)
  ]
  | inr l ↦ elim (le_or_lt g (pos 0)) [
    | inl m ↦ (let e : xor (lt_z (pos 0) a) (lt_z (pos 0) g) ≡ true = rw (is_lt (pos 0) a l, not_lt (pos 0) g m) refl in absurd cc)
    | inr m ↦ times_from_zero a g (omega (arith, linear, l)) (omega (arith, linear, m))
  ]
]
  where
    both : pos 0 ≤ℤ (neg_ℤ a *ℤ neg_ℤ g) → pos 0 ≤ℤ (a *ℤ g)
    both k = let e : neg_ℤ a *ℤ neg_ℤ g ≡ a *ℤ g = simp ring (omega (arith, linear)) in omega (arith, linear, k, e)

-- ---- an edge on one side of a line through 0: s and t tell how far a and b are ahead of it, G whether the ray goes ahead too

and-true : (b : Bool) → (b && true) ≡ b
and-true true = refl
and-true false = refl

pub on_side : (G s t A B f : ℤ) → pos 1 ≤ℤ s → pos 1 ≤ℤ t → G *ℤ f ≡ s *ℤ B -ℤ t *ℤ A → meets A B f ≡ (lt_z (pos 0) G && xor (lt_z (pos 0) A) (lt_z (pos 0) B))
on_side G s t A B f hs ht e = elim (le_or_lt A (pos 0)) [
  | inl h ↦ elim (le_or_lt B (pos 0)) [
    | inl k ↦ none_up A B f h k ∙ sym (rw (not_lt (pos 0) A h, not_lt (pos 0) B k) (and-false (lt_z (pos 0) G)))
    | inr k ↦ comes_up A B f h k ∙ together G f (up h k) ∙ sym (rw (not_lt (pos 0) A h, is_lt (pos 0) B k) (and-true (lt_z (pos 0) G)))
  ]
  | inr h ↦ elim (le_or_lt B (pos 0)) [
    | inl k ↦ comes_down A B f h k ∙ together G (neg_ℤ f) (down h k) ∙ sym (rw (is_lt (pos 0) A h, not_lt (pos 0) B k) (and-true (lt_z (pos 0) G)))
    | inr k ↦ both_up A B f h k ∙ sym (rw (is_lt (pos 0) A h, is_lt (pos 0) B k) (and-false (lt_z (pos 0) G)))
  ]
]
  where
    up : A ≤ℤ pos 0 → pos 0 <ℤ B → pos 1 ≤ℤ (G *ℤ f)
    up h k = omega (arith, linear, e, over_zero s B hs (omega (arith, linear, k)), times_from_zero t (neg_ℤ A) (omega (arith, linear, ht)) (omega (arith, linear, h)), mul-neg t A)

    down : pos 0 <ℤ A → B ≤ℤ pos 0 → pos 1 ≤ℤ (G *ℤ neg_ℤ f)
    down h k = omega (arith, linear, e, mul-neg G f, over_zero t A ht (omega (arith, linear, h)), times_from_zero s (neg_ℤ B) (omega (arith, linear, hs)) (omega (arith, linear, k)), mul-neg s B)

-- ---- two rays: a vector ahead of the line lies between them, or not, as the signs tell

between : (g h a b : Bool) → (xor a h ≡ true → xor b g ≡ false → ⊥) → xor (g && a) (xor (h && b) (a && not b)) ≡ (not g && h)
between true true true true none = refl
between true true true false none = refl
between true true false true none = absurd (none refl refl)
between true true false false none = refl
between true false true true none = absurd (none refl refl)
between true false true false none = refl
between true false false true none = refl
between true false false false none = refl
between false true true true none = refl
between false true true false none = refl
between false true false true none = refl
between false true false false none = absurd (none refl refl)
between false false true true none = refl
between false false true false none = absurd (none refl refl)
between false false false true none = refl
between false false false false none = refl

-- G and H tell whether the rays go ahead, A and B how the vector turns from them
vector_between : (G H A B : ℤ) → pos 1 ≤ℤ (A *ℤ H -ℤ B *ℤ G) → xor (lt_z (pos 0) G && lt_z (pos 0) A) (xor (lt_z (pos 0) H && lt_z (pos 0) B) (lt_z (pos 0) A && not (lt_z (pos 0) B))) ≡ (not (lt_z (pos 0) G) && lt_z (pos 0) H)
vector_between G H A B some = between (lt_z (pos 0) G) (lt_z (pos 0) H) (lt_z (pos 0) A) (lt_z (pos 0) B) (λ h k. omega (arith, linear, some, unlike A H h, alike B G k))

and-xor : (g a b : Bool) → (g && xor a b) ≡ xor (g && a) (g && b)
and-xor true a b = refl
and-xor false a b = refl

taken_over : (x y w : Bool) → xor x y ≡ xor w (xor x (xor y w))
taken_over true true true = refl
taken_over true true false = refl
taken_over true false true = refl
taken_over true false false = refl
taken_over false true true = refl
taken_over false true false = refl
taken_over false false true = refl
taken_over false false false = refl

taken_back : (x y w : Bool) → xor x y ≡ xor (xor x (xor y w)) w
taken_back true true true = refl
taken_back true true false = refl
taken_back true false true = refl
taken_back true false false = refl
taken_back false true true = refl
taken_back false true false = refl
taken_back false false true = refl
taken_back false false false = refl

-- both rays meet the edge, or none, where both or none of its ends lie between them
edge_between : (g h a b c d v w e : Bool) → xor (g && a) (xor (h && c) v) ≡ e → xor (g && b) (xor (h && d) w) ≡ e → xor (g && xor a b) (h && xor c d) ≡ xor v w
edge_between g h a b c d v w e p q =
    rw (and-xor g a b, and-xor h c d)
    (xor-chain (g && a) (h && c) (g && b) (h && d) v e w (taken_over (g && a) (h && c) v ∙ rw p refl) (taken_back (g && b) (h && d) w ∙ rw q refl))

-- A and B of the one ray, C and D of the other
pub by_two : (G H s t A B C D f : ℤ) → pos 1 ≤ℤ s → pos 1 ≤ℤ t → G *ℤ f ≡ s *ℤ B -ℤ t *ℤ A → H *ℤ f ≡ s *ℤ D -ℤ t *ℤ C → pos 1 ≤ℤ (A *ℤ H -ℤ C *ℤ G) → pos 1 ≤ℤ (B *ℤ H -ℤ D *ℤ G)
    → xor (meets A B f) (meets C D f) ≡ xor (lt_z (pos 0) A && not (lt_z (pos 0) C)) (lt_z (pos 0) B && not (lt_z (pos 0) D))
by_two G H s t A B C D f hs ht e k first last =
    rw (on_side G s t A B f hs ht e, on_side H s t C D f hs ht k)
    (edge_between (lt_z (pos 0) G) (lt_z (pos 0) H) (lt_z (pos 0) A) (lt_z (pos 0) B) (lt_z (pos 0) C) (lt_z (pos 0) D) (lt_z (pos 0) A && not (lt_z (pos 0) C)) (lt_z (pos 0) B && not (lt_z (pos 0) D)) (not (lt_z (pos 0) G) && lt_z (pos 0) H)
    (vector_between G H A C first) (vector_between G H B D last))

-- ---- four vectors ahead of one line: of the edges a b, c d, a c and b d the ray meets an even number

pub crossed_over : (g a b c d : Bool) → xor (g && xor a b) (g && xor c d) ≡ xor (g && xor a c) (g && xor b d)
crossed_over false a b c d = refl
crossed_over true true true true true = refl
crossed_over true true true true false = refl
crossed_over true true true false true = refl
crossed_over true true true false false = refl
crossed_over true true false true true = refl
crossed_over true true false true false = refl
crossed_over true true false false true = refl
crossed_over true true false false false = refl
crossed_over true false true true true = refl
crossed_over true false true true false = refl
crossed_over true false true false true = refl
crossed_over true false true false false = refl
crossed_over true false false true true = refl
crossed_over true false false true false = refl
crossed_over true false false false true = refl
crossed_over true false false false false = refl
