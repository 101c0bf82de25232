-- A triangle and the ray, told by heights and turns alone.
use Rattle.std.proofs.Common.{Bool, true, false, ◌&&◌, ◌||◌, ◌≡◌, ℤ, pos, neg_ℤ, ◌+ℤ◌, ◌*ℤ◌, ◌≤ℤ◌, ◌<ℤ◌, arith, refl, sym, ◌∙◌}
use lib.Signed.{lt_z}
use Rattle.planar.proofs.Ring.{linear, times_from_zero, over_zero, neg-mul, mul-neg}
use Rattle.planar.proofs.EdgeLaw.{xor, crosses, not_lt, not_le, is_lt, is_le}
use Rattle.area_contact.specs.Parity.{xor-comm}

-- the ray crosses an edge from the height a to the height b, on whose left the place is where t is over 0
abbrev pub hit : ℤ → ℤ → ℤ → Bool
hit a b t = crosses (pos 0) a b t || crosses (pos 0) b a (neg_ℤ t)

low : (a b t : ℤ) → a ≤ℤ pos 0 → b ≤ℤ pos 0 → hit a b t ≡ false
low a b t h k = rw (is_le a (pos 0) h, not_lt (pos 0) b k, is_le b (pos 0) k, not_lt (pos 0) a h) refl

high : (a b t : ℤ) → pos 0 <ℤ a → pos 0 <ℤ b → hit a b t ≡ false
high a b t h k = rw (not_le a (pos 0) h, not_le b (pos 0) k) refl

or-false : (b : Bool) → (b || false) ≡ b
or-false true = refl
or-false false = refl

up : (a b t : ℤ) → a ≤ℤ pos 0 → pos 0 <ℤ b → hit a b t ≡ lt_z (pos 0) t
up a b t h k = rw (is_le a (pos 0) h, is_lt (pos 0) b k, not_le b (pos 0) k) (or-false (lt_z (pos 0) t))

down : (a b t : ℤ) → pos 0 <ℤ a → b ≤ℤ pos 0 → hit a b t ≡ lt_z (pos 0) (neg_ℤ t)
down a b t h k = rw (not_le a (pos 0) h, is_le b (pos 0) k, is_lt (pos 0) a h) refl

-- ---- signs of a number that is not 0

-- it is over 0 or under 0, and its test says which
pub data Sign (t : ℤ) : Type 0 where
  over : pos 0 <ℤ t → lt_z (pos 0) t ≡ true → lt_z (pos 0) (neg_ℤ t) ≡ false → Sign t
  under : t <ℤ pos 0 → lt_z (pos 0) t ≡ false → lt_z (pos 0) (neg_ℤ t) ≡ true → Sign t

pub is_over : (t : ℤ) → pos 0 <ℤ t → Sign t
is_over t h = over h (is_lt (pos 0) t h) (not_lt (pos 0) (neg_ℤ t) (omega (arith, linear, h)))

pub is_under : (t : ℤ) → t <ℤ pos 0 → Sign t
is_under t h = under h (not_lt (pos 0) t (omega (arith, linear, h))) (is_lt (pos 0) (neg_ℤ t) (omega (arith, linear, h)))

-- products of signs
pub more : (w y : ℤ) → pos 0 <ℤ w → pos 0 <ℤ y → pos 0 <ℤ (w *ℤ y)
more w y h k = omega (arith, linear, over_zero w y (omega (arith, linear, h)) (omega (arith, linear, k)))

pub less : (w y : ℤ) → w <ℤ pos 0 → pos 0 <ℤ y → (w *ℤ y) <ℤ pos 0
less w y h k = omega (arith, linear, over_zero (neg_ℤ w) y (omega (arith, linear, h)) (omega (arith, linear, k)), neg-mul w y)

pub most : (w y : ℤ) → pos 0 <ℤ w → y ≤ℤ pos 0 → (w *ℤ y) ≤ℤ pos 0
most w y h k = omega (arith, linear, times_from_zero w (neg_ℤ y) (omega (arith, linear, h)) (omega (arith, linear, k)), mul-neg w y)

pub least : (w y : ℤ) → w <ℤ pos 0 → y ≤ℤ pos 0 → pos 0 ≤ℤ (w *ℤ y)
least w y h k = omega (arith, linear, times_from_zero (neg_ℤ w) (neg_ℤ y) (omega (arith, linear, h)) (omega (arith, linear, k)), mul-neg (neg_ℤ w) y, neg-mul w y)

-- ---- three corners at the heights a, b and c; r, s and t tell how the edges ab, bc and ca turn round the place. Two corners low, the last one high

-- how the edges turn, where r is not over 0 with the others under it, nor under it with them over it, nor all are under it
by_turns : (r s t : ℤ) → Sign r → Sign s → Sign t → (pos 0 <ℤ r → s <ℤ pos 0 → t <ℤ pos 0 → ⊥) → (r <ℤ pos 0 → pos 0 <ℤ s → pos 0 <ℤ t → ⊥) → (r <ℤ pos 0 → s <ℤ pos 0 → t <ℤ pos 0 → ⊥)
    → (xor (lt_z (pos 0) s) (lt_z (pos 0) (neg_ℤ t)) ≡ (lt_z (pos 0) r && (lt_z (pos 0) s && lt_z (pos 0) t))) × (xor (lt_z (pos 0) (neg_ℤ s)) (lt_z (pos 0) t) ≡ (lt_z (pos 0) r && (lt_z (pos 0) s && lt_z (pos 0) t)))
by_turns r s t (over hr r1 r2) (over hs s1 s2) (over ht t1 t2) f g never = rw (t1, t2, s1, s2, r1) (refl, refl)
by_turns r s t (over hr r1 r2) (over hs s1 s2) (under ht t1 t2) f g never = rw (t1, t2, s1, s2, r1) (refl, refl)
by_turns r s t (over hr r1 r2) (under hs s1 s2) (over ht t1 t2) f g never = rw (t1, t2, s1, s2, r1) (refl, refl)
by_turns r s t (over hr r1 r2) (under hs s1 s2) (under ht t1 t2) f g never = absurd (f hr hs ht)
by_turns r s t (under hr r1 r2) (over hs s1 s2) (over ht t1 t2) f g never = absurd (g hr hs ht)
by_turns r s t (under hr r1 r2) (over hs s1 s2) (under ht t1 t2) f g never = rw (t1, t2, s1, s2, r1) (refl, refl)
by_turns r s t (under hr r1 r2) (under hs s1 s2) (over ht t1 t2) f g never = rw (t1, t2, s1, s2, r1) (refl, refl)
by_turns r s t (under hr r1 r2) (under hs s1 s2) (under ht t1 t2) f g never = absurd (never hr hs ht)

one_high : (a b c r s t : ℤ) → a ≤ℤ pos 0 → b ≤ℤ pos 0 → pos 0 <ℤ c → Sign r → Sign s → Sign t → (r *ℤ c +ℤ s *ℤ a) +ℤ t *ℤ b ≡ pos 0 → (r <ℤ pos 0 → s <ℤ pos 0 → t <ℤ pos 0 → ⊥)
    → xor (lt_z (pos 0) s) (lt_z (pos 0) (neg_ℤ t)) ≡ (lt_z (pos 0) r && (lt_z (pos 0) s && lt_z (pos 0) t))
one_high a b c r s t ha hb hc dr ds dt e never =
    (by_turns r s t dr ds dt (λ hr hs ht. omega (arith, linear, e, more r c hr hc, least s a hs ha, least t b ht hb)) (λ hr hs ht. omega (arith, linear, e, less r c hr hc, most s a hs ha, most t b ht hb)) never).0

-- two corners high, the last one low
one_low : (a b c r s t : ℤ) → pos 0 <ℤ a → pos 0 <ℤ b → c ≤ℤ pos 0 → Sign r → Sign s → Sign t → (r *ℤ c +ℤ s *ℤ a) +ℤ t *ℤ b ≡ pos 0 → (r <ℤ pos 0 → s <ℤ pos 0 → t <ℤ pos 0 → ⊥)
    → xor (lt_z (pos 0) (neg_ℤ s)) (lt_z (pos 0) t) ≡ (lt_z (pos 0) r && (lt_z (pos 0) s && lt_z (pos 0) t))
one_low a b c r s t ha hb hc dr ds dt e never =
    (by_turns r s t dr ds dt (λ hr hs ht. omega (arith, linear, e, most r c hr hc, less s a hs ha, less t b ht hb)) (λ hr hs ht. omega (arith, linear, e, least r c hr hc, more s a hs ha, more t b ht hb)) never).1

-- none high, or all: weights over 0 would not sum to nothing
none_within : (a b c r s t : ℤ) → (Sign r) → Sign s → Sign t → (pos 0 <ℤ r → pos 0 <ℤ s → pos 0 <ℤ t → ⊥) → (lt_z (pos 0) r && (lt_z (pos 0) s && lt_z (pos 0) t)) ≡ false
none_within a b c r s t (under hr r1 r2) ds dt never = rw r1 refl
none_within a b c r s t (over hr r1 r2) (under hs s1 s2) dt never = rw (s1, r1) refl
none_within a b c r s t (over hr r1 r2) (over hs s1 s2) (under ht t1 t2) never = rw (t1, s1, r1) refl
none_within a b c r s t (over hr r1 r2) (over hs s1 s2) (over ht t1 t2) never = absurd (never hr hs ht)

turn : (a b c : Bool) → (a && (b && c)) ≡ (b && (c && a))
turn true true true = refl
turn true true false = refl
turn true false true = refl
turn true false false = refl
turn false true true = refl
turn false true false = refl
turn false false true = refl
turn false false false = refl

back : (a : Bool) → xor a false ≡ a
back true = refl
back false = refl

-- An odd number of the edges is crossed exactly where all turn counterclockwise round the place, if not all turn the other way
pub triangle : (a b c r s t : ℤ) → Sign a → Sign b → Sign c → Sign r → Sign s → Sign t → (r *ℤ c +ℤ s *ℤ a) +ℤ t *ℤ b ≡ pos 0 → (r <ℤ pos 0 → s <ℤ pos 0 → t <ℤ pos 0 → ⊥)
    → xor (hit a b r) (xor (hit b c s) (hit c a t)) ≡ (lt_z (pos 0) r && (lt_z (pos 0) s && lt_z (pos 0) t))
triangle a b c r s t (under ha a1 a2) (under hb b1 b2) (under hc c1 c2) dr ds dt e never =
    rw (low a b r (omega (arith, linear, ha)) (omega (arith, linear, hb)), low b c s (omega (arith, linear, hb)) (omega (arith, linear, hc)), low c a t (omega (arith, linear, hc)) (omega (arith, linear, ha)))
    (sym (none_within a b c r s t dr ds dt (λ hr hs ht. omega (arith, linear, e, beneath r c hr hc, beneath s a hs ha, beneath t b ht hb))))
  where
    beneath : (w y : ℤ) → pos 0 <ℤ w → y <ℤ pos 0 → (w *ℤ y) <ℤ pos 0
    beneath w y h k = omega (arith, linear, more w (neg_ℤ y) h (omega (arith, linear, k)), mul-neg w y)
triangle a b c r s t (under ha a1 a2) (under hb b1 b2) (over hc c1 c2) dr ds dt e never =
    rw (low a b r (omega (arith, linear, ha)) (omega (arith, linear, hb)), up b c s (omega (arith, linear, hb)) hc, down c a t hc (omega (arith, linear, ha)))
    (one_high a b c r s t (omega (arith, linear, ha)) (omega (arith, linear, hb)) hc dr ds dt e never)
triangle a b c r s t (under ha a1 a2) (over hb b1 b2) (under hc c1 c2) dr ds dt e never =
    rw (up a b r (omega (arith, linear, ha)) hb, down b c s hb (omega (arith, linear, hc)), low c a t (omega (arith, linear, hc)) (omega (arith, linear, ha)), back (lt_z (pos 0) (neg_ℤ s)))
    (one_high c a b t r s (omega (arith, linear, hc)) (omega (arith, linear, ha)) hb dt dr ds (omega (arith, linear, e)) (λ ht hr hs. never hr hs ht) ∙ turn (lt_z (pos 0) t) (lt_z (pos 0) r) (lt_z (pos 0) s))
triangle a b c r s t (over ha a1 a2) (under hb b1 b2) (under hc c1 c2) dr ds dt e never =
    rw (down a b r ha (omega (arith, linear, hb)), low b c s (omega (arith, linear, hb)) (omega (arith, linear, hc)), up c a t (omega (arith, linear, hc)) ha)
    (xor-comm (lt_z (pos 0) (neg_ℤ r)) (lt_z (pos 0) t) ∙ one_high b c a s t r (omega (arith, linear, hb)) (omega (arith, linear, hc)) ha ds dt dr (omega (arith, linear, e)) (λ hs ht hr. never hr hs ht) ∙ sym (turn (lt_z (pos 0) r) (lt_z (pos 0) s) (lt_z (pos 0) t)))
triangle a b c r s t (under ha a1 a2) (over hb b1 b2) (over hc c1 c2) dr ds dt e never =
    rw (up a b r (omega (arith, linear, ha)) hb, high b c s hb hc, down c a t hc (omega (arith, linear, ha)))
    (xor-comm (lt_z (pos 0) r) (lt_z (pos 0) (neg_ℤ t)) ∙ one_low b c a s t r hb hc (omega (arith, linear, ha)) ds dt dr (omega (arith, linear, e)) (λ hs ht hr. never hr hs ht) ∙ sym (turn (lt_z (pos 0) r) (lt_z (pos 0) s) (lt_z (pos 0) t)))
triangle a b c r s t (over ha a1 a2) (under hb b1 b2) (over hc c1 c2) dr ds dt e never =
    rw (down a b r ha (omega (arith, linear, hb)), up b c s (omega (arith, linear, hb)) hc, high c a t hc ha, back (lt_z (pos 0) s))
    (one_low c a b t r s hc ha (omega (arith, linear, hb)) dt dr ds (omega (arith, linear, e)) (λ ht hr hs. never hr hs ht) ∙ turn (lt_z (pos 0) t) (lt_z (pos 0) r) (lt_z (pos 0) s))
triangle a b c r s t (over ha a1 a2) (over hb b1 b2) (under hc c1 c2) dr ds dt e never =
    rw (high a b r ha hb, down b c s hb (omega (arith, linear, hc)), up c a t (omega (arith, linear, hc)) ha)
    (one_low a b c r s t ha hb (omega (arith, linear, hc)) dr ds dt e never)
triangle a b c r s t (over ha a1 a2) (over hb b1 b2) (over hc c1 c2) dr ds dt e never =
    rw (high a b r ha hb, high b c s hb hc, high c a t hc ha)
    (sym (none_within a b c r s t dr ds dt (λ hr hs ht. omega (arith, linear, e, more r c hr hc, more s a hs ha, more t b ht hb))))
