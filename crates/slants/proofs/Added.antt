-- The theorems of addition: the series of cosine and sine, up to the power 13, of the sum of two parts.
use Rattle.std.proofs.Common.{◌≡◌, ℕ, suc, ◌+◌, ◌*◌, ◌<◌, ◌≤◌, arith}
use Rattle.std.proofs.lemmas.Nat.{mul-le}
use Rattle.slants.specs.declared.cones.TheConstants.{ONE}
use Rattle.slants.proofs.Series.{AreTerms, binomial, convolved}

-- an eighth of a turn, and a twelfth, rounded up
abbrev pub EIGHTH : ℕ
EIGHTH = 785398163397448311

abbrev pub TWELFTH : ℕ
TWELFTH = 523598775598298876

-- terms are compared in parts of a million, and what is left off in parts of 10^15
abbrev pub MILLION : ℕ
MILLION = 1000 * 1000

abbrev pub PLACES : ℕ
PLACES = MILLION * MILLION * 1000

-- so much are products of terms beyond the power 13, at most: of even powers, and of odd ones
abbrev pub EVEN_REST : ℕ
EVEN_REST = 500544

abbrev pub ODD_REST : ℕ
ODD_REST = 43446

-- ---- the series, in terms: what is added, and what is taken away

abbrev pub cosine_more : (ℕ → ℕ) → ℕ
cosine_more e = e 0 + e 4 + e 8 + e 12

abbrev pub cosine_less : (ℕ → ℕ) → ℕ
cosine_less e = e 2 + e 6 + e 10

abbrev pub sine_more : (ℕ → ℕ) → ℕ
sine_more e = e 1 + e 5 + e 9 + e 13

abbrev pub sine_less : (ℕ → ℕ) → ℕ
sine_less e = e 3 + e 7 + e 11

-- ---- how small the terms are

pub falls : (x bound : ℕ) (e : ℕ → ℕ) → x ≤ bound → AreTerms 13 ONE x e → (j : ℕ) → j < 13 → suc j * (ONE * e (suc j)) ≤ bound * e j
falls x bound e h terms j below = let l : x * e j ≤ bound * e j = mul-le x (e j) bound (e j) h (omega arith) in omega (arith, l, terms j below)

-- up to an eighth
pub record UpToEighth (k : ℕ) (e : ℕ → ℕ) : Type 0 where
  pub t0 : MILLION * e 0 ≤ MILLION * k
  pub t1 : 1273239 * e 1 ≤ MILLION * k
  pub t2 : 3242276 * e 2 ≤ MILLION * k
  pub t3 : 12384582 * e 3 ≤ MILLION * k
  pub t4 : 63074158 * e 4 ≤ MILLION * k
  pub t5 : 401542561 * e 5 ≤ MILLION * k
  pub t6 : 3067559205 * e 6 ≤ MILLION * k
  pub t7 : 27340163799 * e 7 ≤ MILLION * k
  pub t8 : 278484621667 * e 8 ≤ MILLION * k
  pub t9 : 3191198696163 * e 9 ≤ MILLION * k
  pub t10 : 40631603750620 * e 10 ≤ MILLION * k
  pub t11 : 569071411274288 * e 11 ≤ MILLION * k
  pub t12 : 8694770695352051 * e 12 ≤ MILLION * k
  pub t13 : 143916836462446830 * e 13 ≤ MILLION * k

pub to_eighth : (k x : ℕ) (e : ℕ → ℕ) → e 0 ≡ k → x ≤ EIGHTH → AreTerms 13 ONE x e → UpToEighth k e
to_eighth k x e first h terms =
    let t0 : MILLION * e 0 ≤ MILLION * k = omega (arith, first) in
    let t1 : 1273239 * e 1 ≤ MILLION * k = let f : 1 * (ONE * e 1) ≤ EIGHTH * e 0 = falls x EIGHTH e h terms 0 (omega arith) in omega (arith, t0, f) in
    let t2 : 3242276 * e 2 ≤ MILLION * k = let f : 2 * (ONE * e 2) ≤ EIGHTH * e 1 = falls x EIGHTH e h terms 1 (omega arith) in omega (arith, t1, f) in
    let t3 : 12384582 * e 3 ≤ MILLION * k = let f : 3 * (ONE * e 3) ≤ EIGHTH * e 2 = falls x EIGHTH e h terms 2 (omega arith) in omega (arith, t2, f) in
    let t4 : 63074158 * e 4 ≤ MILLION * k = let f : 4 * (ONE * e 4) ≤ EIGHTH * e 3 = falls x EIGHTH e h terms 3 (omega arith) in omega (arith, t3, f) in
    let t5 : 401542561 * e 5 ≤ MILLION * k = let f : 5 * (ONE * e 5) ≤ EIGHTH * e 4 = falls x EIGHTH e h terms 4 (omega arith) in omega (arith, t4, f) in
    let t6 : 3067559205 * e 6 ≤ MILLION * k = let f : 6 * (ONE * e 6) ≤ EIGHTH * e 5 = falls x EIGHTH e h terms 5 (omega arith) in omega (arith, t5, f) in
    let t7 : 27340163799 * e 7 ≤ MILLION * k = let f : 7 * (ONE * e 7) ≤ EIGHTH * e 6 = falls x EIGHTH e h terms 6 (omega arith) in omega (arith, t6, f) in
    let t8 : 278484621667 * e 8 ≤ MILLION * k = let f : 8 * (ONE * e 8) ≤ EIGHTH * e 7 = falls x EIGHTH e h terms 7 (omega arith) in omega (arith, t7, f) in
    let t9 : 3191198696163 * e 9 ≤ MILLION * k = let f : 9 * (ONE * e 9) ≤ EIGHTH * e 8 = falls x EIGHTH e h terms 8 (omega arith) in omega (arith, t8, f) in
    let t10 : 40631603750620 * e 10 ≤ MILLION * k = let f : 10 * (ONE * e 10) ≤ EIGHTH * e 9 = falls x EIGHTH e h terms 9 (omega arith) in omega (arith, t9, f) in
    let t11 : 569071411274288 * e 11 ≤ MILLION * k = let f : 11 * (ONE * e 11) ≤ EIGHTH * e 10 = falls x EIGHTH e h terms 10 (omega arith) in omega (arith, t10, f) in
    let t12 : 8694770695352051 * e 12 ≤ MILLION * k = let f : 12 * (ONE * e 12) ≤ EIGHTH * e 11 = falls x EIGHTH e h terms 11 (omega arith) in omega (arith, t11, f) in
    let t13 : 143916836462446830 * e 13 ≤ MILLION * k = let f : 13 * (ONE * e 13) ≤ EIGHTH * e 12 = falls x EIGHTH e h terms 12 (omega arith) in omega (arith, t12, f) in
    record { t0 = t0; t1 = t1; t2 = t2; t3 = t3; t4 = t4; t5 = t5; t6 = t6; t7 = t7; t8 = t8; t9 = t9; t10 = t10; t11 = t11; t12 = t12; t13 = t13 }

-- up to a twelfth
pub record UpToTwelfth (k : ℕ) (e : ℕ → ℕ) : Type 0 where
  pub t0 : MILLION * e 0 ≤ MILLION * k
  pub t1 : 1909859 * e 1 ≤ MILLION * k
  pub t2 : 7295124 * e 2 ≤ MILLION * k
  pub t3 : 41797981 * e 3 ≤ MILLION * k
  pub t4 : 319313053 * e 4 ≤ MILLION * k
  pub t5 : 3049215046 * e 5 ≤ MILLION * k
  pub t6 : 34941430592 * e 6 ≤ MILLION * k
  pub t7 : 467132517383 * e 7 ≤ MILLION * k
  pub t8 : 7137259125164 * e 8 ≤ MILLION * k
  pub t9 : 122680447548939 * e 9 ≤ MILLION * k
  pub t10 : 2343023957776756 * e 10 ≤ MILLION * k
  pub t11 : 49223307495503721 * e 11 ≤ MILLION * k
  pub t12 : 1128115109266813410 * e 12 ≤ MILLION * k
  pub t13 : 28009034978568848226 * e 13 ≤ MILLION * k

pub to_twelfth : (k x : ℕ) (e : ℕ → ℕ) → e 0 ≡ k → x ≤ TWELFTH → AreTerms 13 ONE x e → UpToTwelfth k e
to_twelfth k x e first h terms =
    let t0 : MILLION * e 0 ≤ MILLION * k = omega (arith, first) in
    let t1 : 1909859 * e 1 ≤ MILLION * k = let f : 1 * (ONE * e 1) ≤ TWELFTH * e 0 = falls x TWELFTH e h terms 0 (omega arith) in omega (arith, t0, f) in
    let t2 : 7295124 * e 2 ≤ MILLION * k = let f : 2 * (ONE * e 2) ≤ TWELFTH * e 1 = falls x TWELFTH e h terms 1 (omega arith) in omega (arith, t1, f) in
    let t3 : 41797981 * e 3 ≤ MILLION * k = let f : 3 * (ONE * e 3) ≤ TWELFTH * e 2 = falls x TWELFTH e h terms 2 (omega arith) in omega (arith, t2, f) in
    let t4 : 319313053 * e 4 ≤ MILLION * k = let f : 4 * (ONE * e 4) ≤ TWELFTH * e 3 = falls x TWELFTH e h terms 3 (omega arith) in omega (arith, t3, f) in
    let t5 : 3049215046 * e 5 ≤ MILLION * k = let f : 5 * (ONE * e 5) ≤ TWELFTH * e 4 = falls x TWELFTH e h terms 4 (omega arith) in omega (arith, t4, f) in
    let t6 : 34941430592 * e 6 ≤ MILLION * k = let f : 6 * (ONE * e 6) ≤ TWELFTH * e 5 = falls x TWELFTH e h terms 5 (omega arith) in omega (arith, t5, f) in
    let t7 : 467132517383 * e 7 ≤ MILLION * k = let f : 7 * (ONE * e 7) ≤ TWELFTH * e 6 = falls x TWELFTH e h terms 6 (omega arith) in omega (arith, t6, f) in
    let t8 : 7137259125164 * e 8 ≤ MILLION * k = let f : 8 * (ONE * e 8) ≤ TWELFTH * e 7 = falls x TWELFTH e h terms 7 (omega arith) in omega (arith, t7, f) in
    let t9 : 122680447548939 * e 9 ≤ MILLION * k = let f : 9 * (ONE * e 9) ≤ TWELFTH * e 8 = falls x TWELFTH e h terms 8 (omega arith) in omega (arith, t8, f) in
    let t10 : 2343023957776756 * e 10 ≤ MILLION * k = let f : 10 * (ONE * e 10) ≤ TWELFTH * e 9 = falls x TWELFTH e h terms 9 (omega arith) in omega (arith, t9, f) in
    let t11 : 49223307495503721 * e 11 ≤ MILLION * k = let f : 11 * (ONE * e 11) ≤ TWELFTH * e 10 = falls x TWELFTH e h terms 10 (omega arith) in omega (arith, t10, f) in
    let t12 : 1128115109266813410 * e 12 ≤ MILLION * k = let f : 12 * (ONE * e 12) ≤ TWELFTH * e 11 = falls x TWELFTH e h terms 11 (omega arith) in omega (arith, t11, f) in
    let t13 : 28009034978568848226 * e 13 ≤ MILLION * k = let f : 13 * (ONE * e 13) ≤ TWELFTH * e 12 = falls x TWELFTH e h terms 12 (omega arith) in omega (arith, t12, f) in
    record { t0 = t0; t1 = t1; t2 = t2; t3 = t3; t4 = t4; t5 = t5; t6 = t6; t7 = t7; t8 = t8; t9 = t9; t10 = t10; t11 = t11; t12 = t12; t13 = t13 }

-- ---- products of terms beyond the power 13

abbrev even_rest : (ℕ → ℕ) → (ℕ → ℕ) → ℕ
even_rest a b = a 1 * (b 13) + a 2 * (b 12) + a 3 * (b 11 + b 13) + a 4 * (b 10 + b 12) + a 5 * (b 9 + b 11 + b 13) + a 6 * (b 8 + b 10 + b 12) + a 7 * (b 7 + b 9 + b 11 + b 13) + a 8 * (b 6 + b 8 + b 10 + b 12) + a 9 * (b 5 + b 7 + b 9 + b 11 + b 13) + a 10 * (b 4 + b 6 + b 8 + b 10 + b 12) + a 11 * (b 3 + b 5 + b 7 + b 9 + b 11 + b 13) + a 12 * (b 2 + b 4 + b 6 + b 8 + b 10 + b 12) + a 13 * (b 1 + b 3 + b 5 + b 7 + b 9 + b 11 + b 13)

even_rest_small : (k : ℕ) (a b : ℕ → ℕ) → UpToEighth k a → UpToTwelfth k b → PLACES * even_rest a b ≤ EVEN_REST * (k * k)
even_rest_small k a b ha hb =
    let s13 : 28009034978568848226 * (b 13) ≤ MILLION * k = omega (arith, hb.t13) in
    let p1 : (1273239 * a 1) * (28009034978568848226 * (b 13)) ≤ (MILLION * k) * (MILLION * k) = mul-le (1273239 * a 1) (28009034978568848226 * (b 13)) (MILLION * k) (MILLION * k) ha.t1 s13 in
    let s12 : 1128115109266813410 * (b 12) ≤ MILLION * k = omega (arith, hb.t12) in
    let p2 : (3242276 * a 2) * (1128115109266813410 * (b 12)) ≤ (MILLION * k) * (MILLION * k) = mul-le (3242276 * a 2) (1128115109266813410 * (b 12)) (MILLION * k) (MILLION * k) ha.t2 s12 in
    let s11 : 49136953810392756 * (b 11 + b 13) ≤ MILLION * k = omega (arith, hb.t11, hb.t13) in
    let p3 : (12384582 * a 3) * (49136953810392756 * (b 11 + b 13)) ≤ (MILLION * k) * (MILLION * k) = mul-le (12384582 * a 3) (49136953810392756 * (b 11 + b 13)) (MILLION * k) (MILLION * k) ha.t3 s11 in
    let s10 : 2338167730814102 * (b 10 + b 12) ≤ MILLION * k = omega (arith, hb.t10, hb.t12) in
    let p4 : (63074158 * a 4) * (2338167730814102 * (b 10 + b 12)) ≤ (MILLION * k) * (MILLION * k) = mul-le (63074158 * a 4) (2338167730814102 * (b 10 + b 12)) (MILLION * k) (MILLION * k) ha.t4 s10 in
    let s9 : 122374913566855 * (b 9 + b 11 + b 13) ≤ MILLION * k = omega (arith, hb.t9, hb.t11, hb.t13) in
    let p5 : (401542561 * a 5) * (122374913566855 * (b 9 + b 11 + b 13)) ≤ (MILLION * k) * (MILLION * k) = mul-le (401542561 * a 5) (122374913566855 * (b 9 + b 11 + b 13)) (MILLION * k) (MILLION * k) ha.t5 s9 in
    let s8 : 7115538936089 * (b 8 + b 10 + b 12) ≤ MILLION * k = omega (arith, hb.t8, hb.t10, hb.t12) in
    let p6 : (3067559205 * a 6) * (7115538936089 * (b 8 + b 10 + b 12)) ≤ (MILLION * k) * (MILLION * k) = mul-le (3067559205 * a 6) (7115538936089 * (b 8 + b 10 + b 12)) (MILLION * k) (MILLION * k) ha.t6 s8 in
    let s7 : 465356148495 * (b 7 + b 9 + b 11 + b 13) ≤ MILLION * k = omega (arith, hb.t7, hb.t9, hb.t11, hb.t13) in
    let p7 : (27340163799 * a 7) * (465356148495 * (b 7 + b 9 + b 11 + b 13)) ≤ (MILLION * k) * (MILLION * k) = mul-le (27340163799 * a 7) (465356148495 * (b 7 + b 9 + b 11 + b 13)) (MILLION * k) (MILLION * k) ha.t7 s7 in
    let s6 : 34770686318 * (b 6 + b 8 + b 10 + b 12) ≤ MILLION * k = omega (arith, hb.t6, hb.t8, hb.t10, hb.t12) in
    let p8 : (278484621667 * a 8) * (34770686318 * (b 6 + b 8 + b 10 + b 12)) ≤ (MILLION * k) * (MILLION * k) = mul-le (278484621667 * a 8) (34770686318 * (b 6 + b 8 + b 10 + b 12)) (MILLION * k) (MILLION * k) ha.t8 s6 in
    let s5 : 3029365332 * (b 5 + b 7 + b 9 + b 11 + b 13) ≤ MILLION * k = omega (arith, hb.t5, hb.t7, hb.t9, hb.t11, hb.t13) in
    let p9 : (3191198696163 * a 9) * (3029365332 * (b 5 + b 7 + b 9 + b 11 + b 13)) ≤ (MILLION * k) * (MILLION * k) = mul-le (3191198696163 * a 9) (3029365332 * (b 5 + b 7 + b 9 + b 11 + b 13)) (MILLION * k) (MILLION * k) ha.t9 s5 in
    let s4 : 316407358 * (b 4 + b 6 + b 8 + b 10 + b 12) ≤ MILLION * k = omega (arith, hb.t4, hb.t6, hb.t8, hb.t10, hb.t12) in
    let p10 : (40631603750620 * a 10) * (316407358 * (b 4 + b 6 + b 8 + b 10 + b 12)) ≤ (MILLION * k) * (MILLION * k) = mul-le (40631603750620 * a 10) (316407358 * (b 4 + b 6 + b 8 + b 10 + b 12)) (MILLION * k) (MILLION * k) ha.t10 s4 in
    let s3 : 41229117 * (b 3 + b 5 + b 7 + b 9 + b 11 + b 13) ≤ MILLION * k = omega (arith, hb.t3, hb.t5, hb.t7, hb.t9, hb.t11, hb.t13) in
    let p11 : (569071411274288 * a 11) * (41229117 * (b 3 + b 5 + b 7 + b 9 + b 11 + b 13)) ≤ (MILLION * k) * (MILLION * k) = mul-le (569071411274288 * a 11) (41229117 * (b 3 + b 5 + b 7 + b 9 + b 11 + b 13)) (MILLION * k) (MILLION * k) ha.t11 s3 in
    let s2 : 7130717 * (b 2 + b 4 + b 6 + b 8 + b 10 + b 12) ≤ MILLION * k = omega (arith, hb.t2, hb.t4, hb.t6, hb.t8, hb.t10, hb.t12) in
    let p12 : (8694770695352051 * a 12) * (7130717 * (b 2 + b 4 + b 6 + b 8 + b 10 + b 12)) ≤ (MILLION * k) * (MILLION * k) = mul-le (8694770695352051 * a 12) (7130717 * (b 2 + b 4 + b 6 + b 8 + b 10 + b 12)) (MILLION * k) (MILLION * k) ha.t12 s2 in
    let s1 : 1825305 * (b 1 + b 3 + b 5 + b 7 + b 9 + b 11 + b 13) ≤ MILLION * k = omega (arith, hb.t1, hb.t3, hb.t5, hb.t7, hb.t9, hb.t11, hb.t13) in
    let p13 : (143916836462446830 * a 13) * (1825305 * (b 1 + b 3 + b 5 + b 7 + b 9 + b 11 + b 13)) ≤ (MILLION * k) * (MILLION * k) = mul-le (143916836462446830 * a 13) (1825305 * (b 1 + b 3 + b 5 + b 7 + b 9 + b 11 + b 13)) (MILLION * k) (MILLION * k) ha.t13 s1 in
    omega (arith, p1, p2, p3, p4, p5, p6, p7, p8, p9, p10, p11, p12, p13)

abbrev odd_rest : (ℕ → ℕ) → (ℕ → ℕ) → ℕ
odd_rest a b = a 2 * (b 13) + a 3 * (b 12) + a 4 * (b 11 + b 13) + a 5 * (b 10 + b 12) + a 6 * (b 9 + b 11 + b 13) + a 7 * (b 8 + b 10 + b 12) + a 8 * (b 7 + b 9 + b 11 + b 13) + a 9 * (b 6 + b 8 + b 10 + b 12) + a 10 * (b 5 + b 7 + b 9 + b 11 + b 13) + a 11 * (b 4 + b 6 + b 8 + b 10 + b 12) + a 12 * (b 3 + b 5 + b 7 + b 9 + b 11 + b 13) + a 13 * (b 2 + b 4 + b 6 + b 8 + b 10 + b 12)

odd_rest_small : (k : ℕ) (a b : ℕ → ℕ) → UpToEighth k a → UpToTwelfth k b → PLACES * odd_rest a b ≤ ODD_REST * (k * k)
odd_rest_small k a b ha hb =
    let s13 : 28009034978568848226 * (b 13) ≤ MILLION * k = omega (arith, hb.t13) in
    let p2 : (3242276 * a 2) * (28009034978568848226 * (b 13)) ≤ (MILLION * k) * (MILLION * k) = mul-le (3242276 * a 2) (28009034978568848226 * (b 13)) (MILLION * k) (MILLION * k) ha.t2 s13 in
    let s12 : 1128115109266813410 * (b 12) ≤ MILLION * k = omega (arith, hb.t12) in
    let p3 : (12384582 * a 3) * (1128115109266813410 * (b 12)) ≤ (MILLION * k) * (MILLION * k) = mul-le (12384582 * a 3) (1128115109266813410 * (b 12)) (MILLION * k) (MILLION * k) ha.t3 s12 in
    let s11 : 49136953810392756 * (b 11 + b 13) ≤ MILLION * k = omega (arith, hb.t11, hb.t13) in
    let p4 : (63074158 * a 4) * (49136953810392756 * (b 11 + b 13)) ≤ (MILLION * k) * (MILLION * k) = mul-le (63074158 * a 4) (49136953810392756 * (b 11 + b 13)) (MILLION * k) (MILLION * k) ha.t4 s11 in
    let s10 : 2338167730814102 * (b 10 + b 12) ≤ MILLION * k = omega (arith, hb.t10, hb.t12) in
    let p5 : (401542561 * a 5) * (2338167730814102 * (b 10 + b 12)) ≤ (MILLION * k) * (MILLION * k) = mul-le (401542561 * a 5) (2338167730814102 * (b 10 + b 12)) (MILLION * k) (MILLION * k) ha.t5 s10 in
    let s9 : 122374913566855 * (b 9 + b 11 + b 13) ≤ MILLION * k = omega (arith, hb.t9, hb.t11, hb.t13) in
    let p6 : (3067559205 * a 6) * (122374913566855 * (b 9 + b 11 + b 13)) ≤ (MILLION * k) * (MILLION * k) = mul-le (3067559205 * a 6) (122374913566855 * (b 9 + b 11 + b 13)) (MILLION * k) (MILLION * k) ha.t6 s9 in
    let s8 : 7115538936089 * (b 8 + b 10 + b 12) ≤ MILLION * k = omega (arith, hb.t8, hb.t10, hb.t12) in
    let p7 : (27340163799 * a 7) * (7115538936089 * (b 8 + b 10 + b 12)) ≤ (MILLION * k) * (MILLION * k) = mul-le (27340163799 * a 7) (7115538936089 * (b 8 + b 10 + b 12)) (MILLION * k) (MILLION * k) ha.t7 s8 in
    let s7 : 465356148495 * (b 7 + b 9 + b 11 + b 13) ≤ MILLION * k = omega (arith, hb.t7, hb.t9, hb.t11, hb.t13) in
    let p8 : (278484621667 * a 8) * (465356148495 * (b 7 + b 9 + b 11 + b 13)) ≤ (MILLION * k) * (MILLION * k) = mul-le (278484621667 * a 8) (465356148495 * (b 7 + b 9 + b 11 + b 13)) (MILLION * k) (MILLION * k) ha.t8 s7 in
    let s6 : 34770686318 * (b 6 + b 8 + b 10 + b 12) ≤ MILLION * k = omega (arith, hb.t6, hb.t8, hb.t10, hb.t12) in
    let p9 : (3191198696163 * a 9) * (34770686318 * (b 6 + b 8 + b 10 + b 12)) ≤ (MILLION * k) * (MILLION * k) = mul-le (3191198696163 * a 9) (34770686318 * (b 6 + b 8 + b 10 + b 12)) (MILLION * k) (MILLION * k) ha.t9 s6 in
    let s5 : 3029365332 * (b 5 + b 7 + b 9 + b 11 + b 13) ≤ MILLION * k = omega (arith, hb.t5, hb.t7, hb.t9, hb.t11, hb.t13) in
    let p10 : (40631603750620 * a 10) * (3029365332 * (b 5 + b 7 + b 9 + b 11 + b 13)) ≤ (MILLION * k) * (MILLION * k) = mul-le (40631603750620 * a 10) (3029365332 * (b 5 + b 7 + b 9 + b 11 + b 13)) (MILLION * k) (MILLION * k) ha.t10 s5 in
    let s4 : 316407358 * (b 4 + b 6 + b 8 + b 10 + b 12) ≤ MILLION * k = omega (arith, hb.t4, hb.t6, hb.t8, hb.t10, hb.t12) in
    let p11 : (569071411274288 * a 11) * (316407358 * (b 4 + b 6 + b 8 + b 10 + b 12)) ≤ (MILLION * k) * (MILLION * k) = mul-le (569071411274288 * a 11) (316407358 * (b 4 + b 6 + b 8 + b 10 + b 12)) (MILLION * k) (MILLION * k) ha.t11 s4 in
    let s3 : 41229117 * (b 3 + b 5 + b 7 + b 9 + b 11 + b 13) ≤ MILLION * k = omega (arith, hb.t3, hb.t5, hb.t7, hb.t9, hb.t11, hb.t13) in
    let p12 : (8694770695352051 * a 12) * (41229117 * (b 3 + b 5 + b 7 + b 9 + b 11 + b 13)) ≤ (MILLION * k) * (MILLION * k) = mul-le (8694770695352051 * a 12) (41229117 * (b 3 + b 5 + b 7 + b 9 + b 11 + b 13)) (MILLION * k) (MILLION * k) ha.t12 s3 in
    let s2 : 7130717 * (b 2 + b 4 + b 6 + b 8 + b 10 + b 12) ≤ MILLION * k = omega (arith, hb.t2, hb.t4, hb.t6, hb.t8, hb.t10, hb.t12) in
    let p13 : (143916836462446830 * a 13) * (7130717 * (b 2 + b 4 + b 6 + b 8 + b 10 + b 12)) ≤ (MILLION * k) * (MILLION * k) = mul-le (143916836462446830 * a 13) (7130717 * (b 2 + b 4 + b 6 + b 8 + b 10 + b 12)) (MILLION * k) (MILLION * k) ha.t13 s2 in
    omega (arith, p2, p3, p4, p5, p6, p7, p8, p9, p10, p11, p12, p13)

-- ---- the sums

module _ (k x y : ℕ) (a b f : ℕ → ℕ) (ea : a 0 ≡ k) (eb : b 0 ≡ k) (ef : f 0 ≡ k) (ha : AreTerms 13 ONE x a) (hb : AreTerms 13 ONE y b) (hf : AreTerms 13 ONE (x + y) f) (x_small : x ≤ EIGHTH) (y_small : y ≤ TWELFTH) where
  pub cosine_over : PLACES * (cosine_more a * cosine_more b + cosine_less a * cosine_less b + sine_more a * sine_less b + sine_less a * sine_more b + k * cosine_less f) ≤ PLACES * (cosine_more a * cosine_less b + cosine_less a * cosine_more b + sine_more a * sine_more b + sine_less a * sine_less b + k * cosine_more f) + EVEN_REST * (k * k)
  unfolding convolved
  cosine_over =
      let e0 : k * f 0 ≡ a 0 * b 0 = binomial 13 ONE k x y a b f (omega arith) ea eb ef ha hb hf 0 (omega arith) in
      let e2 : k * f 2 ≡ a 0 * b 2 + (a 1 * b 1 + a 2 * b 0) = binomial 13 ONE k x y a b f (omega arith) ea eb ef ha hb hf 2 (omega arith) in
      let e4 : k * f 4 ≡ a 0 * b 4 + (a 1 * b 3 + (a 2 * b 2 + (a 3 * b 1 + a 4 * b 0))) = binomial 13 ONE k x y a b f (omega arith) ea eb ef ha hb hf 4 (omega arith) in
      let e6 : k * f 6 ≡ a 0 * b 6 + (a 1 * b 5 + (a 2 * b 4 + (a 3 * b 3 + (a 4 * b 2 + (a 5 * b 1 + a 6 * b 0))))) = binomial 13 ONE k x y a b f (omega arith) ea eb ef ha hb hf 6 (omega arith) in
      let e8 : k * f 8 ≡ a 0 * b 8 + (a 1 * b 7 + (a 2 * b 6 + (a 3 * b 5 + (a 4 * b 4 + (a 5 * b 3 + (a 6 * b 2 + (a 7 * b 1 + a 8 * b 0))))))) = binomial 13 ONE k x y a b f (omega arith) ea eb ef ha hb hf 8 (omega arith) in
      let e10 : k * f 10 ≡ a 0 * b 10 + (a 1 * b 9 + (a 2 * b 8 + (a 3 * b 7 + (a 4 * b 6 + (a 5 * b 5 + (a 6 * b 4 + (a 7 * b 3 + (a 8 * b 2 + (a 9 * b 1 + a 10 * b 0))))))))) = binomial 13 ONE k x y a b f (omega arith) ea eb ef ha hb hf 10 (omega arith) in
      let e12 : k * f 12 ≡ a 0 * b 12 + (a 1 * b 11 + (a 2 * b 10 + (a 3 * b 9 + (a 4 * b 8 + (a 5 * b 7 + (a 6 * b 6 + (a 7 * b 5 + (a 8 * b 4 + (a 9 * b 3 + (a 10 * b 2 + (a 11 * b 1 + a 12 * b 0))))))))))) = binomial 13 ONE k x y a b f (omega arith) ea eb ef ha hb hf 12 (omega arith) in
      let s = even_rest_small k a b (to_eighth k x a ea x_small ha) (to_twelfth k y b eb y_small hb) in
      omega (arith, s, e0, e2, e4, e6, e8, e10, e12)

  pub cosine_under : PLACES * (cosine_more a * cosine_less b + cosine_less a * cosine_more b + sine_more a * sine_more b + sine_less a * sine_less b + k * cosine_more f) ≤ PLACES * (cosine_more a * cosine_more b + cosine_less a * cosine_less b + sine_more a * sine_less b + sine_less a * sine_more b + k * cosine_less f) + EVEN_REST * (k * k)
  unfolding convolved
  cosine_under =
      let e0 : k * f 0 ≡ a 0 * b 0 = binomial 13 ONE k x y a b f (omega arith) ea eb ef ha hb hf 0 (omega arith) in
      let e2 : k * f 2 ≡ a 0 * b 2 + (a 1 * b 1 + a 2 * b 0) = binomial 13 ONE k x y a b f (omega arith) ea eb ef ha hb hf 2 (omega arith) in
      let e4 : k * f 4 ≡ a 0 * b 4 + (a 1 * b 3 + (a 2 * b 2 + (a 3 * b 1 + a 4 * b 0))) = binomial 13 ONE k x y a b f (omega arith) ea eb ef ha hb hf 4 (omega arith) in
      let e6 : k * f 6 ≡ a 0 * b 6 + (a 1 * b 5 + (a 2 * b 4 + (a 3 * b 3 + (a 4 * b 2 + (a 5 * b 1 + a 6 * b 0))))) = binomial 13 ONE k x y a b f (omega arith) ea eb ef ha hb hf 6 (omega arith) in
      let e8 : k * f 8 ≡ a 0 * b 8 + (a 1 * b 7 + (a 2 * b 6 + (a 3 * b 5 + (a 4 * b 4 + (a 5 * b 3 + (a 6 * b 2 + (a 7 * b 1 + a 8 * b 0))))))) = binomial 13 ONE k x y a b f (omega arith) ea eb ef ha hb hf 8 (omega arith) in
      let e10 : k * f 10 ≡ a 0 * b 10 + (a 1 * b 9 + (a 2 * b 8 + (a 3 * b 7 + (a 4 * b 6 + (a 5 * b 5 + (a 6 * b 4 + (a 7 * b 3 + (a 8 * b 2 + (a 9 * b 1 + a 10 * b 0))))))))) = binomial 13 ONE k x y a b f (omega arith) ea eb ef ha hb hf 10 (omega arith) in
      let e12 : k * f 12 ≡ a 0 * b 12 + (a 1 * b 11 + (a 2 * b 10 + (a 3 * b 9 + (a 4 * b 8 + (a 5 * b 7 + (a 6 * b 6 + (a 7 * b 5 + (a 8 * b 4 + (a 9 * b 3 + (a 10 * b 2 + (a 11 * b 1 + a 12 * b 0))))))))))) = binomial 13 ONE k x y a b f (omega arith) ea eb ef ha hb hf 12 (omega arith) in
      let s = even_rest_small k a b (to_eighth k x a ea x_small ha) (to_twelfth k y b eb y_small hb) in
      omega (arith, s, e0, e2, e4, e6, e8, e10, e12)

  pub sine_over : PLACES * (sine_more a * cosine_more b + sine_less a * cosine_less b + cosine_more a * sine_more b + cosine_less a * sine_less b + k * sine_less f) ≤ PLACES * (sine_more a * cosine_less b + sine_less a * cosine_more b + cosine_more a * sine_less b + cosine_less a * sine_more b + k * sine_more f) + ODD_REST * (k * k)
  unfolding convolved
  sine_over =
      let e1 : k * f 1 ≡ a 0 * b 1 + a 1 * b 0 = binomial 13 ONE k x y a b f (omega arith) ea eb ef ha hb hf 1 (omega arith) in
      let e3 : k * f 3 ≡ a 0 * b 3 + (a 1 * b 2 + (a 2 * b 1 + a 3 * b 0)) = binomial 13 ONE k x y a b f (omega arith) ea eb ef ha hb hf 3 (omega arith) in
      let e5 : k * f 5 ≡ a 0 * b 5 + (a 1 * b 4 + (a 2 * b 3 + (a 3 * b 2 + (a 4 * b 1 + a 5 * b 0)))) = binomial 13 ONE k x y a b f (omega arith) ea eb ef ha hb hf 5 (omega arith) in
      let e7 : k * f 7 ≡ a 0 * b 7 + (a 1 * b 6 + (a 2 * b 5 + (a 3 * b 4 + (a 4 * b 3 + (a 5 * b 2 + (a 6 * b 1 + a 7 * b 0)))))) = binomial 13 ONE k x y a b f (omega arith) ea eb ef ha hb hf 7 (omega arith) in
      let e9 : k * f 9 ≡ a 0 * b 9 + (a 1 * b 8 + (a 2 * b 7 + (a 3 * b 6 + (a 4 * b 5 + (a 5 * b 4 + (a 6 * b 3 + (a 7 * b 2 + (a 8 * b 1 + a 9 * b 0)))))))) = binomial 13 ONE k x y a b f (omega arith) ea eb ef ha hb hf 9 (omega arith) in
      let e11 : k * f 11 ≡ a 0 * b 11 + (a 1 * b 10 + (a 2 * b 9 + (a 3 * b 8 + (a 4 * b 7 + (a 5 * b 6 + (a 6 * b 5 + (a 7 * b 4 + (a 8 * b 3 + (a 9 * b 2 + (a 10 * b 1 + a 11 * b 0)))))))))) = binomial 13 ONE k x y a b f (omega arith) ea eb ef ha hb hf 11 (omega arith) in
      let e13 : k * f 13 ≡ a 0 * b 13 + (a 1 * b 12 + (a 2 * b 11 + (a 3 * b 10 + (a 4 * b 9 + (a 5 * b 8 + (a 6 * b 7 + (a 7 * b 6 + (a 8 * b 5 + (a 9 * b 4 + (a 10 * b 3 + (a 11 * b 2 + (a 12 * b 1 + a 13 * b 0)))))))))))) = binomial 13 ONE k x y a b f (omega arith) ea eb ef ha hb hf 13 (omega arith) in
      let s = odd_rest_small k a b (to_eighth k x a ea x_small ha) (to_twelfth k y b eb y_small hb) in
      omega (arith, s, e1, e3, e5, e7, e9, e11, e13)

  pub sine_under : PLACES * (sine_more a * cosine_less b + sine_less a * cosine_more b + cosine_more a * sine_less b + cosine_less a * sine_more b + k * sine_more f) ≤ PLACES * (sine_more a * cosine_more b + sine_less a * cosine_less b + cosine_more a * sine_more b + cosine_less a * sine_less b + k * sine_less f) + ODD_REST * (k * k)
  unfolding convolved
  sine_under =
      let e1 : k * f 1 ≡ a 0 * b 1 + a 1 * b 0 = binomial 13 ONE k x y a b f (omega arith) ea eb ef ha hb hf 1 (omega arith) in
      let e3 : k * f 3 ≡ a 0 * b 3 + (a 1 * b 2 + (a 2 * b 1 + a 3 * b 0)) = binomial 13 ONE k x y a b f (omega arith) ea eb ef ha hb hf 3 (omega arith) in
      let e5 : k * f 5 ≡ a 0 * b 5 + (a 1 * b 4 + (a 2 * b 3 + (a 3 * b 2 + (a 4 * b 1 + a 5 * b 0)))) = binomial 13 ONE k x y a b f (omega arith) ea eb ef ha hb hf 5 (omega arith) in
      let e7 : k * f 7 ≡ a 0 * b 7 + (a 1 * b 6 + (a 2 * b 5 + (a 3 * b 4 + (a 4 * b 3 + (a 5 * b 2 + (a 6 * b 1 + a 7 * b 0)))))) = binomial 13 ONE k x y a b f (omega arith) ea eb ef ha hb hf 7 (omega arith) in
      let e9 : k * f 9 ≡ a 0 * b 9 + (a 1 * b 8 + (a 2 * b 7 + (a 3 * b 6 + (a 4 * b 5 + (a 5 * b 4 + (a 6 * b 3 + (a 7 * b 2 + (a 8 * b 1 + a 9 * b 0)))))))) = binomial 13 ONE k x y a b f (omega arith) ea eb ef ha hb hf 9 (omega arith) in
      let e11 : k * f 11 ≡ a 0 * b 11 + (a 1 * b 10 + (a 2 * b 9 + (a 3 * b 8 + (a 4 * b 7 + (a 5 * b 6 + (a 6 * b 5 + (a 7 * b 4 + (a 8 * b 3 + (a 9 * b 2 + (a 10 * b 1 + a 11 * b 0)))))))))) = binomial 13 ONE k x y a b f (omega arith) ea eb ef ha hb hf 11 (omega arith) in
      let e13 : k * f 13 ≡ a 0 * b 13 + (a 1 * b 12 + (a 2 * b 11 + (a 3 * b 10 + (a 4 * b 9 + (a 5 * b 8 + (a 6 * b 7 + (a 7 * b 6 + (a 8 * b 5 + (a 9 * b 4 + (a 10 * b 3 + (a 11 * b 2 + (a 12 * b 1 + a 13 * b 0)))))))))))) = binomial 13 ONE k x y a b f (omega arith) ea eb ef ha hb hf 13 (omega arith) in
      let s = odd_rest_small k a b (to_eighth k x a ea x_small ha) (to_twelfth k y b eb y_small hb) in
      omega (arith, s, e1, e3, e5, e7, e9, e11, e13)
