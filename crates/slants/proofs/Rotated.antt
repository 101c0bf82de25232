-- The way of a sum of two parts is that of the one, turned by that of the other.
use Rattle.std.proofs.Common.{◌≡◌, ℕ, ◌+◌, ◌*◌, ◌≤◌, arith}
use Rattle.std.proofs.lemmas.Nat.{mul-le}
use Rattle.slants.proofs.Added.{EIGHTH, EVEN_REST, MILLION, ODD_REST, PLACES, TWELFTH, cosine_less, cosine_more, cosine_over, cosine_under, sine_less, sine_more, sine_over, sine_under, to_eighth}
use Rattle.slants.proofs.Horner.{cosine_some, less_2, less_4, less_6, less_8, less_10, sine_some}
use Rattle.slants.proofs.Ways.{WHOLE, high, terms, terms_are, terms_first, wide}

-- what both rests leave off, for a way that is long enough
abbrev pub BOTH_RESTS : ℕ
BOTH_RESTS = 1138055

-- ---- by differences, of plain numbers

-- a product of differences is under two sums, where what is added and what is taken away is
module _ (k e a al ac b bl bc c cl cc d dl dc f fl fc : ℕ) (ea : a ≡ ac + al) (eb : b ≡ bc + bl) (ec : c ≡ cc + cl) (ed : d ≡ dc + dl) (ef : f ≡ fc + fl) where
  -- a b + c d
  plus_over : PLACES * (a * b + al * bl + c * d + cl * dl + k * fl) ≤ PLACES * (a * bl + al * b + c * dl + cl * d + k * f) + e → PLACES * (ac * bc + cc * dc) ≤ PLACES * (k * fc) + e
  plus_over h = let l = rw (ea, eb, ec, ed, ef) at h in omega (arith, l)

  plus_under : PLACES * (a * bl + al * b + c * dl + cl * d + k * f) ≤ PLACES * (a * b + al * bl + c * d + cl * dl + k * fl) + e → PLACES * (k * fc) ≤ PLACES * (ac * bc + cc * dc) + e
  plus_under h = let l = rw (ea, eb, ec, ed, ef) at h in omega (arith, l)

  -- a b - c d
  minus_over : PLACES * (a * b + al * bl + c * dl + cl * d + k * fl) ≤ PLACES * (a * bl + al * b + c * d + cl * dl + k * f) + e → PLACES * (ac * bc) ≤ PLACES * (k * fc + cc * dc) + e
  minus_over h = let l = rw (ea, eb, ec, ed, ef) at h in omega (arith, l)

  minus_under : PLACES * (a * bl + al * b + c * d + cl * dl + k * f) ≤ PLACES * (a * b + al * bl + c * dl + cl * d + k * fl) + e → PLACES * (k * fc + cc * dc) ≤ PLACES * (ac * bc) + e
  minus_under h = let l = rw (ea, eb, ec, ed, ef) at h in omega (arith, l)

-- ---- the sum of two parts

wide_is : (x : ℕ) → x ≤ EIGHTH → cosine_more (terms x) ≡ wide x + cosine_less (terms x)
wide_is x h = let l = cosine_some x (terms x) (terms_are x) h in omega (arith, l)

high_is : (x : ℕ) → x ≤ EIGHTH → sine_more (terms x) ≡ high x + sine_less (terms x)
high_is x h = let l = sine_some x (terms x) (terms_are x) h in omega (arith, l)

module _ (x y : ℕ) (x_small : x ≤ EIGHTH) (y_small : y ≤ TWELFTH) (small : x + y ≤ EIGHTH) where
  y_eighth : y ≤ EIGHTH
  y_eighth = omega (arith, y_small)

  pub wide_over : PLACES * (wide x * wide y) ≤ PLACES * (WHOLE * wide (x + y) + high x * high y) + EVEN_REST * (WHOLE * WHOLE)
  wide_over = minus_over WHOLE (EVEN_REST * (WHOLE * WHOLE)) (cosine_more (terms x)) (cosine_less (terms x)) (wide x) (cosine_more (terms y)) (cosine_less (terms y)) (wide y) (sine_more (terms x)) (sine_less (terms x)) (high x) (sine_more (terms y)) (sine_less (terms y)) (high y) (cosine_more (terms (x + y))) (cosine_less (terms (x + y))) (wide (x + y))
      (wide_is x x_small) (wide_is y y_eighth) (high_is x x_small) (high_is y y_eighth) (wide_is (x + y) small)
      (cosine_over WHOLE x y (terms x) (terms y) (terms (x + y)) (terms_first x) (terms_first y) (terms_first (x + y)) (terms_are x) (terms_are y) (terms_are (x + y)) x_small y_small)

  pub wide_under : PLACES * (WHOLE * wide (x + y) + high x * high y) ≤ PLACES * (wide x * wide y) + EVEN_REST * (WHOLE * WHOLE)
  wide_under = minus_under WHOLE (EVEN_REST * (WHOLE * WHOLE)) (cosine_more (terms x)) (cosine_less (terms x)) (wide x) (cosine_more (terms y)) (cosine_less (terms y)) (wide y) (sine_more (terms x)) (sine_less (terms x)) (high x) (sine_more (terms y)) (sine_less (terms y)) (high y) (cosine_more (terms (x + y))) (cosine_less (terms (x + y))) (wide (x + y))
      (wide_is x x_small) (wide_is y y_eighth) (high_is x x_small) (high_is y y_eighth) (wide_is (x + y) small)
      (cosine_under WHOLE x y (terms x) (terms y) (terms (x + y)) (terms_first x) (terms_first y) (terms_first (x + y)) (terms_are x) (terms_are y) (terms_are (x + y)) x_small y_small)

  pub high_over : PLACES * (high x * wide y + wide x * high y) ≤ PLACES * (WHOLE * high (x + y)) + ODD_REST * (WHOLE * WHOLE)
  high_over = plus_over WHOLE (ODD_REST * (WHOLE * WHOLE)) (sine_more (terms x)) (sine_less (terms x)) (high x) (cosine_more (terms y)) (cosine_less (terms y)) (wide y) (cosine_more (terms x)) (cosine_less (terms x)) (wide x) (sine_more (terms y)) (sine_less (terms y)) (high y) (sine_more (terms (x + y))) (sine_less (terms (x + y))) (high (x + y))
      (high_is x x_small) (wide_is y y_eighth) (wide_is x x_small) (high_is y y_eighth) (high_is (x + y) small)
      (sine_over WHOLE x y (terms x) (terms y) (terms (x + y)) (terms_first x) (terms_first y) (terms_first (x + y)) (terms_are x) (terms_are y) (terms_are (x + y)) x_small y_small)

  pub high_under : PLACES * (WHOLE * high (x + y)) ≤ PLACES * (high x * wide y + wide x * high y) + ODD_REST * (WHOLE * WHOLE)
  high_under = plus_under WHOLE (ODD_REST * (WHOLE * WHOLE)) (sine_more (terms x)) (sine_less (terms x)) (high x) (cosine_more (terms y)) (cosine_less (terms y)) (wide y) (cosine_more (terms x)) (cosine_less (terms x)) (wide x) (sine_more (terms y)) (sine_less (terms y)) (high y) (sine_more (terms (x + y))) (sine_less (terms (x + y))) (high (x + y))
      (high_is x x_small) (wide_is y y_eighth) (wide_is x x_small) (high_is y y_eighth) (high_is (x + y) small)
      (sine_under WHOLE x y (terms x) (terms y) (terms (x + y)) (terms_first x) (terms_first y) (terms_first (x + y)) (terms_are x) (terms_are y) (terms_are (x + y)) x_small y_small)

-- ---- how long a way is

pub wide_from : (x : ℕ) → x ≤ EIGHTH → 691570 * WHOLE ≤ MILLION * wide x
wide_from x h =
    let b = to_eighth WHOLE x (terms x) (terms_first x) h (terms_are x) in
    let f = less_4 x (terms x) (terms_are x) h in
    let g = less_8 x (terms x) (terms_are x) h in
    let e = terms_first x in
    let l = wide_is x h in
    omega (arith, b.t2, f, g, e, l)

pub wide_to : (x : ℕ) → x ≤ EIGHTH → wide x ≤ WHOLE
wide_to x h =
    let f = less_2 x (terms x) (terms_are x) h in
    let g = less_6 x (terms x) (terms_are x) h in
    let i = less_10 x (terms x) (terms_are x) h in
    let e = terms_first x in
    let l = wide_is x h in
    omega (arith, f, g, i, e, l)

pub high_to : (x : ℕ) → x ≤ EIGHTH → high x ≤ WHOLE
high_to x h =
    let b = to_eighth WHOLE x (terms x) (terms_first x) h (terms_are x) in
    let l = high_is x h in
    omega (arith, b.t1, b.t5, b.t9, b.t13, l)

abbrev pub norm : ℕ → ℕ
norm x = wide x * wide x + high x * high x

pub norm_from : (x : ℕ) → x ≤ EIGHTH → 478 * (WHOLE * WHOLE) ≤ 1000 * norm x
norm_from x h = let l : 691570 * WHOLE * (691570 * WHOLE) ≤ MILLION * wide x * (MILLION * wide x) = mul-le (691570 * WHOLE) (691570 * WHOLE) (MILLION * wide x) (MILLION * wide x) (wide_from x h) (wide_from x h) in omega (arith, l)

-- ---- the scalar product and the cross product of the ways, of plain numbers: (c, s) to the part x, (p, q) to y, (u, v) to the sum

module _ (k c s p q u v : ℕ) (some : 1 ≤ k) (c_small : c ≤ k) (s_small : s ≤ k) (long : 478 * (k * k) ≤ 1000 * (c * c + s * s))
    (c_over : PLACES * (c * p) ≤ PLACES * (k * u + s * q) + EVEN_REST * (k * k)) (c_under : PLACES * (k * u + s * q) ≤ PLACES * (c * p) + EVEN_REST * (k * k))
    (s_over : PLACES * (s * p + c * q) ≤ PLACES * (k * v) + ODD_REST * (k * k)) (s_under : PLACES * (k * v) ≤ PLACES * (s * p + c * q) + ODD_REST * (k * k)) where
  -- what is off, at most
  off : EVEN_REST * (k * k) * c + ODD_REST * (k * k) * s ≤ BOTH_RESTS * ((c * c + s * s) * k)
  off =
      let f : EVEN_REST * (k * k) * c ≤ EVEN_REST * (k * k) * k = mul-le (EVEN_REST * (k * k)) c (EVEN_REST * (k * k)) k (omega arith) c_small in
      let g : ODD_REST * (k * k) * s ≤ ODD_REST * (k * k) * k = mul-le (ODD_REST * (k * k)) s (ODD_REST * (k * k)) k (omega arith) s_small in
      let h : 478 * (k * k) * k ≤ 1000 * (c * c + s * s) * k = mul-le (478 * (k * k)) k (1000 * (c * c + s * s)) k long (omega arith) in
      omega (arith, f, g, h)

  off_turned : ODD_REST * (k * k) * c + EVEN_REST * (k * k) * s ≤ BOTH_RESTS * ((c * c + s * s) * k)
  off_turned =
      let f : ODD_REST * (k * k) * c ≤ ODD_REST * (k * k) * k = mul-le (ODD_REST * (k * k)) c (ODD_REST * (k * k)) k (omega arith) c_small in
      let g : EVEN_REST * (k * k) * s ≤ EVEN_REST * (k * k) * k = mul-le (EVEN_REST * (k * k)) s (EVEN_REST * (k * k)) k (omega arith) s_small in
      let h : 478 * (k * k) * k ≤ 1000 * (c * c + s * s) * k = mul-le (478 * (k * k)) k (1000 * (c * c + s * s)) k long (omega arith) in
      omega (arith, f, g, h)

  pub along_from : PLACES * ((c * c + s * s) * p) ≤ PLACES * (k * (c * u + s * v)) + BOTH_RESTS * ((c * c + s * s) * k)
  along_from =
      let f : c * (PLACES * (c * p)) ≤ c * (PLACES * (k * u + s * q) + EVEN_REST * (k * k)) = mul-le c (PLACES * (c * p)) c (PLACES * (k * u + s * q) + EVEN_REST * (k * k)) (omega arith) c_over in
      let g : s * (PLACES * (s * p + c * q)) ≤ s * (PLACES * (k * v) + ODD_REST * (k * k)) = mul-le s (PLACES * (s * p + c * q)) s (PLACES * (k * v) + ODD_REST * (k * k)) (omega arith) s_over in
      omega (arith, f, g, off)

  pub along_to : PLACES * (k * (c * u + s * v)) ≤ PLACES * ((c * c + s * s) * p) + BOTH_RESTS * ((c * c + s * s) * k)
  along_to =
      let f : c * (PLACES * (k * u + s * q)) ≤ c * (PLACES * (c * p) + EVEN_REST * (k * k)) = mul-le c (PLACES * (k * u + s * q)) c (PLACES * (c * p) + EVEN_REST * (k * k)) (omega arith) c_under in
      let g : s * (PLACES * (k * v)) ≤ s * (PLACES * (s * p + c * q) + ODD_REST * (k * k)) = mul-le s (PLACES * (k * v)) s (PLACES * (s * p + c * q) + ODD_REST * (k * k)) (omega arith) s_under in
      omega (arith, f, g, off)

  pub across_to : PLACES * (k * (c * v)) ≤ PLACES * (k * (s * u)) + PLACES * ((c * c + s * s) * q) + BOTH_RESTS * ((c * c + s * s) * k)
  across_to =
      let f : c * (PLACES * (k * v)) ≤ c * (PLACES * (s * p + c * q) + ODD_REST * (k * k)) = mul-le c (PLACES * (k * v)) c (PLACES * (s * p + c * q) + ODD_REST * (k * k)) (omega arith) s_under in
      let g : s * (PLACES * (c * p)) ≤ s * (PLACES * (k * u + s * q) + EVEN_REST * (k * k)) = mul-le s (PLACES * (c * p)) s (PLACES * (k * u + s * q) + EVEN_REST * (k * k)) (omega arith) c_over in
      omega (arith, f, g, off_turned)

  pub across_from : PLACES * ((c * c + s * s) * q) + PLACES * (k * (s * u)) ≤ PLACES * (k * (c * v)) + BOTH_RESTS * ((c * c + s * s) * k)
  across_from =
      let f : c * (PLACES * (s * p + c * q)) ≤ c * (PLACES * (k * v) + ODD_REST * (k * k)) = mul-le c (PLACES * (s * p + c * q)) c (PLACES * (k * v) + ODD_REST * (k * k)) (omega arith) s_over in
      let g : s * (PLACES * (k * u + s * q)) ≤ s * (PLACES * (c * p) + EVEN_REST * (k * k)) = mul-le s (PLACES * (k * u + s * q)) s (PLACES * (c * p) + EVEN_REST * (k * k)) (omega arith) c_under in
      omega (arith, f, g, off_turned)
