-- The ways of angles, to more places than the code's: each is in the cone of its angle.
use Rattle.std.proofs.Common.{◌≡◌, ℕ, zero, suc, ◌+◌, ◌-◌, ◌*◌, ◌/◌, ◌<◌, ◌≤◌, ◌∙◌, ap, pos, neg_ℤ, ◌+ℤ◌, ◌-ℤ◌, ◌*ℤ◌, ◌≤ℤ◌, arith, refl}
use Rattle.std.proofs.lemmas.Int.{ints}
use Rattle.std.proofs.lemmas.Nat.{mul-le}
use Rattle.planar.specs.declared.Spot.{Spot}
use Rattle.planar.proofs.Ring.{mul-add_right, mul-neg, times-one}
use Rattle.slants.specs.Cones.{cosine, cosine_by, half_of, scaled, sine, sine_by, square_of, turns_by}
use Rattle.slants.specs.Laws.{IsNear}
use Rattle.slants.specs.Turned.{IsBetween}
use Rattle.slants.specs.declared.cones.TheConstants.{ONE, RADIUS, RIGHT_ANGLE}
use Rattle.slants.specs.declared.turns.Turn.{Turn}
use Rattle.slants.proofs.Added.{EIGHTH, cosine_less, cosine_more, sine_less, sine_more}
use Rattle.slants.proofs.Horner.{cosine_about, sine_over, sine_under}
use Rattle.slants.proofs.Near.{near_between}
use Rattle.slants.proofs.Series.{AreTerms}

-- ---- the terms

pub power : ℕ → ℕ → ℕ
power x zero = 1
power x (suc j) = x * power x j

-- ONE to the power n, times 13, 12 and so on, n factors
unfoldable pub part : ℕ → ℕ
part zero = 1
part (suc n) = (13 - n) * (ONE * part n)

unfoldable pub terms : ℕ → ℕ → ℕ
terms x j = part (13 - j) * power x j

unfoldable pub WHOLE : ℕ
WHOLE = part 13

part_some : (n : ℕ) → n ≤ 13 → 1 ≤ part n
unfolding part
part_some zero h = omega arith
part_some (suc n) h = let l : 1 ≤ part n = part_some n (omega (arith, h)) in let k : 1 * 1 ≤ (13 - n) * (ONE * part n) = mul-le 1 1 (13 - n) (ONE * part n) (omega (arith, h)) (omega (arith, l)) in omega (arith, k)

pub whole_some : 1 ≤ WHOLE
unfolding WHOLE
whole_some = part_some 13 (omega arith)

pub terms_first : (x : ℕ) → terms x 0 ≡ WHOLE
unfolding terms WHOLE power
terms_first x =
    let d : terms x 0 ≡ part 13 * 1 = refl in
    let e : WHOLE ≡ part 13 = refl in
    omega (arith, d, e)

part_next : (j : ℕ) → j < 13 → part (13 - j) ≡ suc j * (ONE * part (13 - suc j))
unfolding part
part_next j h = let e : 13 - j ≡ suc (13 - suc j) = omega (arith, h) in let f : 13 - (13 - suc j) ≡ suc j = omega (arith, h) in rw (e, f) refl

pub terms_are : (x : ℕ) → AreTerms 13 ONE x (terms x)
unfolding terms power
terms_are x j h =
    let d : terms x (suc j) ≡ part (13 - suc j) * (x * power x j) = refl in
    let e : terms x j ≡ part (13 - j) * power x j = refl in
    rw (d, e, part_next j h) (omega arith)

-- ---- cosine and sine, times WHOLE

abbrev pub wide : ℕ → ℕ
wide x = cosine_more (terms x) - cosine_less (terms x)

abbrev pub high : ℕ → ℕ
high x = sine_more (terms x) - sine_less (terms x)

-- off by so many parts of ONE, times k, they are as near as half of one that is scaled
module _ (k z u : ℕ) (over : k * z ≤ ONE * u + 5 * k) (under : ONE * u ≤ k * z + 5 * k) where
  k_scaled : k * (ONE * scaled z) ≤ k * (z * RADIUS + ONE / 2)
  k_scaled = mul-le k (ONE * scaled z) k (z * RADIUS + ONE / 2) (omega arith) (omega arith)

  scaled_k : k * (z * RADIUS + ONE / 2) ≤ k * (ONE * scaled z + ONE)
  scaled_k = mul-le k (z * RADIUS + ONE / 2) k (ONE * scaled z + ONE) (omega arith) (omega arith)

  near_over : k * scaled z ≤ RADIUS * u + k
  near_over = omega (arith, k_scaled, over)

  near_under : RADIUS * u ≤ k * scaled z + k
  near_under = omega (arith, scaled_k, under)

times_less : (k c r : ℕ) → k * c ≤ r + k → (pos k *ℤ (pos c -ℤ pos 1)) ≤ℤ pos r
times_less k c r h =
    let e : pos k *ℤ (pos c -ℤ pos 1) ≡ pos (k * c) -ℤ pos k = mul-add_right (pos k) (pos c) (neg_ℤ (pos 1)) ∙ ap (λ z. pos (k * c) +ℤ z) (mul-neg (pos k) (pos 1) ∙ ap neg_ℤ (times-one (pos k))) in
    rw e (omega (arith, ints, h))

times_more : (k c r : ℕ) → r ≤ k * c + k → pos r ≤ℤ (pos k *ℤ (pos c +ℤ pos 1))
times_more k c r h =
    let e : pos k *ℤ (pos c +ℤ pos 1) ≡ pos (k * c) +ℤ pos k = mul-add_right (pos k) (pos c) (pos 1) ∙ ap (λ z. pos (k * c) +ℤ z) (times-one (pos k)) in
    rw e (omega (arith, ints, h))

-- ---- the way

unfoldable pub way : ℕ → Turn
way angle = record { x = pos (RADIUS * wide (half_of angle)); y = pos (RADIUS * high (half_of angle)) }

pub half_small : (angle : ℕ) → angle < RIGHT_ANGLE → half_of angle ≤ EIGHTH
half_small angle h = omega (arith, h)

pub cosine_near : (x : ℕ) → x ≤ EIGHTH → WHOLE * cosine_by (square_of x) ≤ ONE * wide x + 5 * WHOLE
cosine_near x h = let a = cosine_about x (terms x) (terms_are x) h in let e = terms_first x in let l = rw e at a.over in omega (arith, l)

pub cosine_far : (x : ℕ) → x ≤ EIGHTH → ONE * wide x ≤ WHOLE * cosine_by (square_of x) + 5 * WHOLE
cosine_far x h = let a = cosine_about x (terms x) (terms_are x) h in let e = terms_first x in let l = rw e at a.under in omega (arith, l)

pub sine_near : (x : ℕ) → x ≤ EIGHTH → WHOLE * (x * sine_by (square_of x) / ONE) ≤ ONE * high x + 5 * WHOLE
sine_near x h = rw (terms_first x) at (sine_over x (terms x) (terms_are x) h)

pub sine_far : (x : ℕ) → x ≤ EIGHTH → ONE * high x ≤ WHOLE * (x * sine_by (square_of x) / ONE) + 5 * WHOLE
sine_far x h = rw (terms_first x) at (sine_under x (terms x) (terms_are x) h)

near : (angle : ℕ) → angle < RIGHT_ANGLE → IsNear angle (pos WHOLE) (way angle)
unfolding cosine sine way
near angle h =
    let small : half_of angle ≤ EIGHTH = half_small angle h in
    record {
      some = let l : 1 ≤ WHOLE = whole_some in omega (arith, ints, l);
      up = omega (arith, ints);
      x_from = times_less WHOLE (scaled (cosine_by (square_of (half_of angle)))) (RADIUS * wide (half_of angle)) (near_over WHOLE (cosine_by (square_of (half_of angle))) (wide (half_of angle)) (cosine_near (half_of angle) small) (cosine_far (half_of angle) small));
      x_to = times_more WHOLE (scaled (cosine_by (square_of (half_of angle)))) (RADIUS * wide (half_of angle)) (near_under WHOLE (cosine_by (square_of (half_of angle))) (wide (half_of angle)) (cosine_near (half_of angle) small) (cosine_far (half_of angle) small));
      y_from = times_less WHOLE (scaled (half_of angle * sine_by (square_of (half_of angle)) / ONE)) (RADIUS * high (half_of angle)) (near_over WHOLE (half_of angle * sine_by (square_of (half_of angle)) / ONE) (high (half_of angle)) (sine_near (half_of angle) small) (sine_far (half_of angle) small));
      y_to = times_more WHOLE (scaled (half_of angle * sine_by (square_of (half_of angle)) / ONE)) (RADIUS * high (half_of angle)) (near_under WHOLE (half_of angle * sine_by (square_of (half_of angle)) / ONE) (high (half_of angle)) (sine_near (half_of angle) small) (sine_far (half_of angle) small));
    }

pub way_between : (about : Spot) (angle : ℕ) → angle < RIGHT_ANGLE → IsBetween (turns_by about angle) (way angle)
way_between about angle h = near_between about angle (pos WHOLE) (way angle) h (near angle h)
