-- The directions of a regular polygon follow each other: its edges and corners, and how far they are from the middle.
use Rattle.std.proofs.Common.{◌≡◌, ℕ, ◌+◌, ◌-◌, ◌*◌, ◌/◌, ◌≤◌, ap, arith}
use Rattle.std.proofs.lemmas.Nat.{mul-le}
use Rattle.slants.specs.Cones.{cosine_by, sine_by, square_of}
use Rattle.slants.specs.declared.cones.TheConstants.{ONE, RADIUS}
use Rattle.slants.proofs.Added.{EIGHTH, EVEN_REST, ODD_REST, PLACES, TWELFTH}
use Rattle.slants.proofs.Horner.{le_cancel}
use Rattle.slants.proofs.Rotated.{BOTH_RESTS, across_from, across_to, along_from, along_to, high_over, high_to, high_under, norm_from, wide_over, wide_to, wide_under}
use Rattle.slants.proofs.Ways.{WHOLE, cosine_far, cosine_near, high, sine_far, sine_near, whole_some, wide}

-- ---- tangents, of plain numbers: b/a is at most q/p

within : (r w d a b p q : ℕ) → r ≡ w + d → 1 ≤ p → p * b ≤ q * a → (r + w) * (q * q) ≤ d * (p * p) → w * (a * a + b * b) + r * (b * b) ≤ r * (a * a)
within r w d a b p q e some h check =
    let s : p * b * (p * b) ≤ q * a * (q * a) = mul-le (p * b) (p * b) (q * a) (q * a) h h in
    let f : (r + w) * (p * b * (p * b)) ≤ (r + w) * (q * a * (q * a)) = mul-le (r + w) (p * b * (p * b)) (r + w) (q * a * (q * a)) (omega arith) s in
    let g : a * a * ((r + w) * (q * q)) ≤ a * a * (d * (p * p)) = mul-le (a * a) ((r + w) * (q * q)) (a * a) (d * (p * p)) (omega arith) check in
    let one : 1 * 1 ≤ p * p = mul-le 1 1 p p some some in
    let l : (r + w) * (b * b) ≤ d * (a * a) = le_cancel (p * p) ((r + w) * (b * b)) (d * (a * a)) (omega (arith, one)) (omega (arith, f, g)) in
    let k : r * (a * a) ≡ (w + d) * (a * a) = ap (λ z. z * (a * a)) e in
    omega (arith, l, k)

-- so the double of the angle whose tangent it is has a cosine over w/r
pub record IsLow (w a b : ℕ) : Type 0 where
  pub some : 1 ≤ b
  pub less : b + 1 ≤ a
  pub low : w * (a * a + b * b) + RADIUS * (b * b) ≤ RADIUS * (a * a)

-- and a sine, where it is at least q/p
pub record IsHigh (w a b : ℕ) : Type 0 where
  pub some : 1 ≤ b
  pub less : b + 1 ≤ a
  pub high : w * (a * a + b * b) ≤ RADIUS * (a * b + a * b)

module _ (w a b d p q e : ℕ) (small : w ≤ RADIUS) (a_is : a ≡ b + d) (p_is : p ≡ q + e) (one : 1 ≤ p) (steep : q * a ≤ p * b) (check : (RADIUS + w) * (e * e) ≤ (RADIUS - w) * ((p + q) * (p + q))) where
  flat : (p + q) * d ≤ e * (a + b)
  flat =
      let f : p * a ≡ (q + e) * a = ap (λ z. z * a) p_is in
      let g : p * b ≡ (q + e) * b = ap (λ z. z * b) p_is in
      let i : p * a ≡ p * (b + d) = ap (λ z. p * z) a_is in
      let j : q * a ≡ q * (b + d) = ap (λ z. q * z) a_is in
      omega (arith, steep, f, g, i, j)

  turned : w * (a * a + b * b) ≤ RADIUS * (a * b + a * b)
  turned =
      let l = within RADIUS w (RADIUS - w) (a + b) d (p + q) e (omega (arith, small)) (omega (arith, one)) flat check in
      let f : a * a ≡ (b + d) * (b + d) = ap (λ z. z * z) a_is in
      let g : a * b ≡ (b + d) * b = ap (λ z. z * b) a_is in
      let i : d * a ≡ d * (b + d) = ap (λ z. d * z) a_is in
      let k : w * (a * a) ≡ w * ((b + d) * (b + d)) = ap (λ z. w * (z * z)) a_is in
      let m : w * (a * b) ≡ w * ((b + d) * b) = ap (λ z. w * (z * b)) a_is in
      omega (arith, l, f, g, i, k, m)

over : (w a b p q : ℕ) → w ≤ RADIUS → 1 ≤ b → b + 1 ≤ a → q ≤ p → q * a ≤ p * b → 1 ≤ p → (RADIUS + w) * ((p - q) * (p - q)) ≤ (RADIUS - w) * ((p + q) * (p + q)) → IsHigh w a b
over w a b p q small some less order h one check = record { some = some; less = less; high = turned w a b (a - b) p q (p - q) small (omega (arith, less)) (omega (arith, order)) one h check }

-- ---- the tangent of a part, in numbers, for ways that are 10^-9 off

-- how much is left off for the terms, and for the code's own cosine and sine
abbrev pub OFF : ℕ
OFF = BOTH_RESTS * ONE + 5 * PLACES

abbrev pub cosine_at : ℕ → ℕ
cosine_at y = PLACES * cosine_by (square_of y)

abbrev pub sine_at : ℕ → ℕ
sine_at y = PLACES * (y * sine_by (square_of y) / ONE)

-- a half step of the half angle y is low enough for w
pub record Fits (w y : ℕ) : Type 0 where
  pub small : w ≤ RADIUS
  pub some : OFF + 1 ≤ sine_at y
  pub less : sine_at y + (OFF + OFF + 1) ≤ cosine_at y
  pub low : (RADIUS + w) * ((sine_at y + OFF) * (sine_at y + OFF)) ≤ (RADIUS - w) * ((cosine_at y - OFF) * (cosine_at y - OFF))

-- what is left of an eighth of a turn is high enough
pub record FitsBack (w z : ℕ) : Type 0 where
  pub small : w ≤ RADIUS
  pub some : OFF + 1 ≤ sine_at z
  pub less : sine_at z + (OFF + OFF + 1) ≤ cosine_at z
  pub high : (RADIUS + w) * ((cosine_at z + OFF - (sine_at z - OFF)) * (cosine_at z + OFF - (sine_at z - OFF))) ≤ (RADIUS - w) * ((cosine_at z + OFF + (sine_at z - OFF)) * (cosine_at z + OFF + (sine_at z - OFF)))

-- ---- of two ways: (c, s), and (u, v), which is that by (p, q) on

module _ (k c s p q u v z y : ℕ) (some : 1 ≤ k) (long : 1 ≤ c * c + s * s)
    (z_near : k * z ≤ ONE * p + 5 * k) (z_far : ONE * p ≤ k * z + 5 * k) (y_near : k * y ≤ ONE * q + 5 * k) (y_far : ONE * q ≤ k * y + 5 * k)
    (along_over : PLACES * ((c * c + s * s) * p) ≤ PLACES * (k * (c * u + s * v)) + BOTH_RESTS * ((c * c + s * s) * k)) (along_under : PLACES * (k * (c * u + s * v)) ≤ PLACES * ((c * c + s * s) * p) + BOTH_RESTS * ((c * c + s * s) * k))
    (across_over : PLACES * (k * (c * v)) ≤ PLACES * (k * (s * u)) + PLACES * ((c * c + s * s) * q) + BOTH_RESTS * ((c * c + s * s) * k)) (across_under : PLACES * ((c * c + s * s) * q) + PLACES * (k * (s * u)) ≤ PLACES * (k * (c * v)) + BOTH_RESTS * ((c * c + s * s) * k)) where
  times_n : (a b : ℕ) → a ≤ b → (c * c + s * s) * a ≤ (c * c + s * s) * b
  times_n a b h = mul-le (c * c + s * s) a (c * c + s * s) b (omega arith) h

  a_from : (c * c + s * s) * (PLACES * z) ≤ ONE * PLACES * (c * u + s * v) + OFF * (c * c + s * s)
  a_from = le_cancel k ((c * c + s * s) * (PLACES * z)) (ONE * PLACES * (c * u + s * v) + OFF * (c * c + s * s)) some (omega (arith, along_over, times_n (k * z) (ONE * p + 5 * k) z_near))

  a_to : ONE * PLACES * (c * u + s * v) ≤ (c * c + s * s) * (PLACES * z) + OFF * (c * c + s * s)
  a_to = le_cancel k (ONE * PLACES * (c * u + s * v)) ((c * c + s * s) * (PLACES * z) + OFF * (c * c + s * s)) some (omega (arith, along_under, times_n (ONE * p) (k * z + 5 * k) z_far))

  b_from : (c * c + s * s) * (PLACES * y) + ONE * PLACES * (s * u) ≤ ONE * PLACES * (c * v) + OFF * (c * c + s * s)
  b_from = le_cancel k ((c * c + s * s) * (PLACES * y) + ONE * PLACES * (s * u)) (ONE * PLACES * (c * v) + OFF * (c * c + s * s)) some (omega (arith, across_under, times_n (k * y) (ONE * q + 5 * k) y_near))

  b_to : ONE * PLACES * (c * v) ≤ ONE * PLACES * (s * u) + (c * c + s * s) * (PLACES * y) + OFF * (c * c + s * s)
  b_to = le_cancel k (ONE * PLACES * (c * v)) (ONE * PLACES * (s * u) + (c * c + s * s) * (PLACES * y) + OFF * (c * c + s * s)) some (omega (arith, across_over, times_n (ONE * q) (k * y + 5 * k) y_far))

  ordered : OFF + 1 ≤ PLACES * y → s * u ≤ c * v
  ordered h = omega (arith, b_from, times_n (OFF + 1) (PLACES * y) h)

  -- between both of them, of plain numbers
  module _ (w a b : ℕ) (a_is : a ≡ c * u + s * v) (b_is : c * v ≡ s * u + b) (small : w ≤ RADIUS) (y_some : OFF + 1 ≤ PLACES * y) (apart : PLACES * y + (OFF + OFF + 1) ≤ PLACES * z) where
    y_long : (c * c + s * s) * (OFF + 1) ≤ (c * c + s * s) * (PLACES * y)
    y_long = times_n (OFF + 1) (PLACES * y) y_some

    z_long : (c * c + s * s) * (PLACES * y + (OFF + OFF + 1)) ≤ (c * c + s * s) * (PLACES * z)
    z_long = times_n (PLACES * y + (OFF + OFF + 1)) (PLACES * z) apart

    b_some : 1 ≤ b
    b_some = omega (arith, b_from, b_is, y_long, long)

    b_less : b + 1 ≤ a
    b_less = omega (arith, a_from, a_is, b_to, b_is, z_long, long)

    is_low : (RADIUS + w) * ((PLACES * y + OFF) * (PLACES * y + OFF)) ≤ (RADIUS - w) * ((PLACES * z - OFF) * (PLACES * z - OFF)) → IsLow w a b
    is_low check = record { some = b_some; less = b_less; low = within RADIUS w (RADIUS - w) a b (PLACES * z - OFF) (PLACES * y + OFF) (omega (arith, small)) (omega (arith, apart)) flat check }
      where
        plain : (m x f : ℕ) → m * (f + OFF) ≤ ONE * PLACES * a + OFF * m → ONE * PLACES * b ≤ m * x + OFF * m → f * b ≤ (x + OFF) * a
        plain m x f h g =
            let i : f * (ONE * PLACES * b) ≤ f * (m * x + OFF * m) = mul-le f (ONE * PLACES * b) f (m * x + OFF * m) (omega arith) g in
            let l : (x + OFF) * (m * f) ≤ (x + OFF) * (ONE * PLACES * a) = mul-le (x + OFF) (m * f) (x + OFF) (ONE * PLACES * a) (omega arith) (omega (arith, h)) in
            omega (arith, i, l)

        flat : (PLACES * z - OFF) * b ≤ (PLACES * y + OFF) * a
        flat =
            let e : PLACES * z - OFF + OFF ≡ PLACES * z = omega (arith, apart) in
            let f : (c * c + s * s) * (PLACES * z - OFF + OFF) ≤ ONE * PLACES * a + OFF * (c * c + s * s) = rw e (omega (arith, a_from, a_is)) in
            plain (c * c + s * s) (PLACES * y) (PLACES * z - OFF) f (omega (arith, b_to, b_is))

    is_high : (RADIUS + w) * ((PLACES * z + OFF - (PLACES * y - OFF)) * (PLACES * z + OFF - (PLACES * y - OFF))) ≤ (RADIUS - w) * ((PLACES * z + OFF + (PLACES * y - OFF)) * (PLACES * z + OFF + (PLACES * y - OFF))) → IsHigh w a b
    is_high check = over w a b (PLACES * z + OFF) (PLACES * y - OFF) small b_some b_less (omega (arith, apart)) flat (omega (arith, apart)) check
      where
        plain : (m x f : ℕ) → ONE * PLACES * a ≤ m * x + OFF * m → m * (f + OFF) ≤ ONE * PLACES * b + OFF * m → f * a ≤ (x + OFF) * b
        plain m x f h g =
            let i : f * (ONE * PLACES * a) ≤ f * (m * x + OFF * m) = mul-le f (ONE * PLACES * a) f (m * x + OFF * m) (omega arith) h in
            let l : (x + OFF) * (m * f) ≤ (x + OFF) * (ONE * PLACES * b) = mul-le (x + OFF) (m * f) (x + OFF) (ONE * PLACES * b) (omega arith) (omega (arith, g)) in
            omega (arith, i, l)

        flat : (PLACES * y - OFF) * a ≤ (PLACES * z + OFF) * b
        flat =
            let e : PLACES * y - OFF + OFF ≡ PLACES * y = omega (arith, y_some) in
            let f : (c * c + s * s) * (PLACES * y - OFF + OFF) ≤ ONE * PLACES * b + OFF * (c * c + s * s) = rw e (omega (arith, b_from, b_is)) in
            plain (c * c + s * s) (PLACES * z) (PLACES * y - OFF) (omega (arith, a_to, a_is)) f

-- ---- of two parts of a turn

norm_some : (x : ℕ) → x ≤ EIGHTH → 1 ≤ wide x * wide x + high x * high x
norm_some x h =
    let k : 1 * 1 ≤ WHOLE * WHOLE = mul-le 1 1 WHOLE WHOLE whole_some whole_some in
    let l = norm_from x h in
    omega (arith, k, l)

-- the way (u, v) is on the left of (c, s), by so much
pub record LowStep (w c s u v : ℕ) : Type 0 where
  pub b : ℕ
  pub is : c * v ≡ s * u + b
  pub fits : IsLow w (c * u + s * v) b

pub record HighStep (w c s u v : ℕ) : Type 0 where
  pub b : ℕ
  pub is : c * v ≡ s * u + b
  pub fits : IsHigh w (c * u + s * v) b

-- the first part is of any angle, and the way goes on by y
pub step_low : (w x y : ℕ) → x ≤ EIGHTH → y ≤ TWELFTH → x + y ≤ EIGHTH → Fits w y → LowStep w (wide x) (high x) (wide (x + y)) (high (x + y))
step_low w x y hx hy hs fits =
    let y_eighth : y ≤ EIGHTH = omega (arith, hy) in
    let co = wide_over x y hx hy hs in
    let cu = wide_under x y hx hy hs in
    let so = high_over x y hx hy hs in
    let su = high_under x y hx hy hs in
    let cs = wide_to x hx in
    let ss = high_to x hx in
    let nf = norm_from x hx in
    let alo = along_from WHOLE (wide x) (high x) (wide y) (high y) (wide (x + y)) (high (x + y)) whole_some cs ss nf co cu so su in
    let alu = along_to WHOLE (wide x) (high x) (wide y) (high y) (wide (x + y)) (high (x + y)) whole_some cs ss nf co cu so su in
    let aco = across_to WHOLE (wide x) (high x) (wide y) (high y) (wide (x + y)) (high (x + y)) whole_some cs ss nf co cu so su in
    let acu = across_from WHOLE (wide x) (high x) (wide y) (high y) (wide (x + y)) (high (x + y)) whole_some cs ss nf co cu so su in
    let cn = cosine_near y y_eighth in
    let cf = cosine_far y y_eighth in
    let sn = sine_near y y_eighth in
    let sf = sine_far y y_eighth in
    let order = ordered WHOLE (wide x) (high x) (wide y) (high y) (wide (x + y)) (high (x + y)) (cosine_by (square_of y)) (y * sine_by (square_of y) / ONE) whole_some (norm_some x hx) cn cf sn sf alo alu aco acu fits.some in
    let e : wide x * high (x + y) ≡ high x * wide (x + y) + (wide x * high (x + y) - high x * wide (x + y)) = omega (arith, order) in
    record { b = wide x * high (x + y) - high x * wide (x + y); is = e; fits = is_low WHOLE (wide x) (high x) (wide y) (high y) (wide (x + y)) (high (x + y)) (cosine_by (square_of y)) (y * sine_by (square_of y) / ONE) whole_some (norm_some x hx) cn cf sn sf alo alu aco acu w (wide x * wide (x + y) + high x * high (x + y)) (wide x * high (x + y) - high x * wide (x + y)) (omega arith) e fits.small fits.some fits.less fits.low }

-- the first part is at most a step, and the way goes on by z
pub step_high : (w x z : ℕ) → x ≤ TWELFTH → z ≤ EIGHTH → z + x ≤ EIGHTH → FitsBack w z → HighStep w (wide x) (high x) (wide (z + x)) (high (z + x))
step_high w x z hx hz hs fits =
    let x_eighth : x ≤ EIGHTH = omega (arith, hx) in
    let c1 = wide_over z x hz hx hs in
    let c2 = wide_under z x hz hx hs in
    let s1 = high_over z x hz hx hs in
    let s2 = high_under z x hz hx hs in
    let co : PLACES * (wide x * wide z) ≤ PLACES * (WHOLE * wide (z + x) + high x * high z) + EVEN_REST * (WHOLE * WHOLE) = omega (arith, c1) in
    let cu : PLACES * (WHOLE * wide (z + x) + high x * high z) ≤ PLACES * (wide x * wide z) + EVEN_REST * (WHOLE * WHOLE) = omega (arith, c2) in
    let so : PLACES * (high x * wide z + wide x * high z) ≤ PLACES * (WHOLE * high (z + x)) + ODD_REST * (WHOLE * WHOLE) = omega (arith, s1) in
    let su : PLACES * (WHOLE * high (z + x)) ≤ PLACES * (high x * wide z + wide x * high z) + ODD_REST * (WHOLE * WHOLE) = omega (arith, s2) in
    let cs = wide_to x x_eighth in
    let ss = high_to x x_eighth in
    let nf = norm_from x x_eighth in
    let alo = along_from WHOLE (wide x) (high x) (wide z) (high z) (wide (z + x)) (high (z + x)) whole_some cs ss nf co cu so su in
    let alu = along_to WHOLE (wide x) (high x) (wide z) (high z) (wide (z + x)) (high (z + x)) whole_some cs ss nf co cu so su in
    let aco = across_to WHOLE (wide x) (high x) (wide z) (high z) (wide (z + x)) (high (z + x)) whole_some cs ss nf co cu so su in
    let acu = across_from WHOLE (wide x) (high x) (wide z) (high z) (wide (z + x)) (high (z + x)) whole_some cs ss nf co cu so su in
    let cn = cosine_near z hz in
    let cf = cosine_far z hz in
    let sn = sine_near z hz in
    let sf = sine_far z hz in
    let order = ordered WHOLE (wide x) (high x) (wide z) (high z) (wide (z + x)) (high (z + x)) (cosine_by (square_of z)) (z * sine_by (square_of z) / ONE) whole_some (norm_some x x_eighth) cn cf sn sf alo alu aco acu fits.some in
    let e : wide x * high (z + x) ≡ high x * wide (z + x) + (wide x * high (z + x) - high x * wide (z + x)) = omega (arith, order) in
    record { b = wide x * high (z + x) - high x * wide (z + x); is = e; fits = is_high WHOLE (wide x) (high x) (wide z) (high z) (wide (z + x)) (high (z + x)) (cosine_by (square_of z)) (z * sine_by (square_of z) / ONE) whole_some (norm_some x x_eighth) cn cf sn sf alo alu aco acu w (wide x * wide (z + x) + high x * high (z + x)) (wide x * high (z + x) - high x * wide (z + x)) (omega arith) e fits.small fits.some fits.less fits.high }
