-- What the code's series are: those in terms of powers over factorials, less than 5 parts off.
use Rattle.std.proofs.Common.{◌≡◌, ◌⊎◌, inl, inr, ℕ, ◌+◌, ◌-◌, ◌*◌, ◌/◌, ◌<◌, ◌≤◌, ap, arith}
use Rattle.std.proofs.lemmas.Nat.{mul-le}
use Rattle.slants.specs.Cones.{cosine_by, lessened, sine_by, square_of}
use Rattle.slants.specs.declared.cones.TheConstants.{ONE}
use Rattle.slants.proofs.Series.{AreTerms}
use Rattle.slants.proofs.Added.{EIGHTH, cosine_less, cosine_more, sine_less, sine_more}

pub le_or_over : (u v : ℕ) → (u ≤ v) ⊎ (v < u)
le_or_over u v = grind arith

pub le_cancel : (c u v : ℕ) → 1 ≤ c → c * u ≤ c * v → u ≤ v
le_cancel c u v some h = elim (le_or_over u v) [
  | inl l ↦ l
  | inr l ↦ let k : c * (v + 1) ≤ c * u = mul-le c (v + 1) c u (omega arith) (omega (arith, l)) in absurd (omega (arith, h, k, some))
]

-- e times the number z, in parts of ONE, is u, less than 5 e parts off
pub record IsAbout (e z u : ℕ) : Type 0 where
  pub over : e * z ≤ ONE * u + 4 * e
  pub under : ONE * u ≤ e * z + 4 * e

-- what is left of the square of x over ONE
pub record IsSquare (x t : ℕ) : Type 0 where
  pub from : ONE * t ≤ x * x
  pub to : x * x ≤ ONE * t + ONE
  pub small : x * x ≤ ONE * ONE

-- from a term to the one before the last
module _ (k x t e d u v y z : ℕ) (more : 2 ≤ k) (square : IsSquare x t) (z_small : z ≤ ONE) (terms : k * (ONE * (ONE * d)) ≡ x * x * e) (from : k * (ONE * ONE) ≤ k * (ONE * y) + t * z) (to : k * (ONE * y) + t * z ≤ k * (ONE * ONE) + k * ONE) (sum : e ≡ u + v) (inner : IsAbout d z v) where
  e_from : e * (k * (ONE * ONE)) ≤ e * (k * (ONE * y) + t * z)
  e_from = mul-le e (k * (ONE * ONE)) e (k * (ONE * y) + t * z) (omega arith) from

  e_to : e * (k * (ONE * y) + t * z) ≤ e * (k * (ONE * ONE) + k * ONE)
  e_to = mul-le e (k * (ONE * y) + t * z) e (k * (ONE * ONE) + k * ONE) (omega arith) to

  s_from : z * e * (ONE * t) ≤ z * e * (x * x)
  s_from = mul-le (z * e) (ONE * t) (z * e) (x * x) (omega arith) square.from

  s_to : z * e * (x * x) ≤ z * e * (ONE * t + ONE)
  s_to = mul-le (z * e) (x * x) (z * e) (ONE * t + ONE) (omega arith) square.to

  z_terms : z * (k * (ONE * (ONE * d))) ≡ z * (x * x * e)
  z_terms = ap (λ q. z * q) terms

  z_e : z * e ≤ ONE * e
  z_e = mul-le z e ONE e z_small (omega arith)

  d_e : k * d ≤ e
  d_e = let l : x * x * e ≤ ONE * ONE * e = mul-le (x * x) e (ONE * ONE) e square.small (omega arith) in omega (arith, l, terms)

  k_e : 2 * e ≤ k * e
  k_e = mul-le 2 e k e more (omega arith)

  k_over : k * (d * z) ≤ k * (ONE * v + 4 * d)
  k_over = mul-le k (d * z) k (ONE * v + 4 * d) (omega arith) inner.over

  k_under : k * (ONE * v) ≤ k * (d * z + 4 * d)
  k_under = mul-le k (ONE * v) k (d * z + 4 * d) (omega arith) inner.under

  k_sum : k * e ≡ k * u + k * v
  k_sum = let l : k * e ≡ k * (u + v) = ap (λ q. k * q) sum in omega (arith, l)

  pub about : IsAbout e y u
  about = record {
    over = le_cancel k (e * y) (ONE * u + 4 * e) (omega (arith, more)) (omega (arith, e_to, s_to, s_from, z_terms, z_e, d_e, k_e, k_under, k_sum));
    under = le_cancel k (ONE * u) (e * y + 4 * e) (omega (arith, more)) (omega (arith, e_from, s_to, s_from, z_terms, z_e, d_e, k_e, k_over, k_sum));
  }

product_small : (t z : ℕ) → t ≤ ONE → z ≤ ONE → t * z ≤ ONE * ONE
product_small t z h k = mul-le t z ONE ONE h k

from_2 : (t z : ℕ) → t ≤ ONE → z ≤ ONE → 2 * (ONE * ONE) ≤ 2 * (ONE * lessened t 2 z) + t * z
from_2 t z h k = omega (arith, product_small t z h k)

to_2 : (t z : ℕ) → t ≤ ONE → z ≤ ONE → 2 * (ONE * lessened t 2 z) + t * z ≤ 2 * (ONE * ONE) + 2 * ONE
to_2 t z h k = omega (arith, product_small t z h k)

from_6 : (t z : ℕ) → t ≤ ONE → z ≤ ONE → 6 * (ONE * ONE) ≤ 6 * (ONE * lessened t 6 z) + t * z
from_6 t z h k = omega (arith, product_small t z h k)

to_6 : (t z : ℕ) → t ≤ ONE → z ≤ ONE → 6 * (ONE * lessened t 6 z) + t * z ≤ 6 * (ONE * ONE) + 6 * ONE
to_6 t z h k = omega (arith, product_small t z h k)

from_12 : (t z : ℕ) → t ≤ ONE → z ≤ ONE → 12 * (ONE * ONE) ≤ 12 * (ONE * lessened t 12 z) + t * z
from_12 t z h k = omega (arith, product_small t z h k)

to_12 : (t z : ℕ) → t ≤ ONE → z ≤ ONE → 12 * (ONE * lessened t 12 z) + t * z ≤ 12 * (ONE * ONE) + 12 * ONE
to_12 t z h k = omega (arith, product_small t z h k)

from_20 : (t z : ℕ) → t ≤ ONE → z ≤ ONE → 20 * (ONE * ONE) ≤ 20 * (ONE * lessened t 20 z) + t * z
from_20 t z h k = omega (arith, product_small t z h k)

to_20 : (t z : ℕ) → t ≤ ONE → z ≤ ONE → 20 * (ONE * lessened t 20 z) + t * z ≤ 20 * (ONE * ONE) + 20 * ONE
to_20 t z h k = omega (arith, product_small t z h k)

from_30 : (t z : ℕ) → t ≤ ONE → z ≤ ONE → 30 * (ONE * ONE) ≤ 30 * (ONE * lessened t 30 z) + t * z
from_30 t z h k = omega (arith, product_small t z h k)

to_30 : (t z : ℕ) → t ≤ ONE → z ≤ ONE → 30 * (ONE * lessened t 30 z) + t * z ≤ 30 * (ONE * ONE) + 30 * ONE
to_30 t z h k = omega (arith, product_small t z h k)

from_42 : (t z : ℕ) → t ≤ ONE → z ≤ ONE → 42 * (ONE * ONE) ≤ 42 * (ONE * lessened t 42 z) + t * z
from_42 t z h k = omega (arith, product_small t z h k)

to_42 : (t z : ℕ) → t ≤ ONE → z ≤ ONE → 42 * (ONE * lessened t 42 z) + t * z ≤ 42 * (ONE * ONE) + 42 * ONE
to_42 t z h k = omega (arith, product_small t z h k)

from_56 : (t z : ℕ) → t ≤ ONE → z ≤ ONE → 56 * (ONE * ONE) ≤ 56 * (ONE * lessened t 56 z) + t * z
from_56 t z h k = omega (arith, product_small t z h k)

to_56 : (t z : ℕ) → t ≤ ONE → z ≤ ONE → 56 * (ONE * lessened t 56 z) + t * z ≤ 56 * (ONE * ONE) + 56 * ONE
to_56 t z h k = omega (arith, product_small t z h k)

from_72 : (t z : ℕ) → t ≤ ONE → z ≤ ONE → 72 * (ONE * ONE) ≤ 72 * (ONE * lessened t 72 z) + t * z
from_72 t z h k = omega (arith, product_small t z h k)

to_72 : (t z : ℕ) → t ≤ ONE → z ≤ ONE → 72 * (ONE * lessened t 72 z) + t * z ≤ 72 * (ONE * ONE) + 72 * ONE
to_72 t z h k = omega (arith, product_small t z h k)

from_90 : (t z : ℕ) → t ≤ ONE → z ≤ ONE → 90 * (ONE * ONE) ≤ 90 * (ONE * lessened t 90 z) + t * z
from_90 t z h k = omega (arith, product_small t z h k)

to_90 : (t z : ℕ) → t ≤ ONE → z ≤ ONE → 90 * (ONE * lessened t 90 z) + t * z ≤ 90 * (ONE * ONE) + 90 * ONE
to_90 t z h k = omega (arith, product_small t z h k)

from_110 : (t z : ℕ) → t ≤ ONE → z ≤ ONE → 110 * (ONE * ONE) ≤ 110 * (ONE * lessened t 110 z) + t * z
from_110 t z h k = omega (arith, product_small t z h k)

to_110 : (t z : ℕ) → t ≤ ONE → z ≤ ONE → 110 * (ONE * lessened t 110 z) + t * z ≤ 110 * (ONE * ONE) + 110 * ONE
to_110 t z h k = omega (arith, product_small t z h k)

from_132 : (t z : ℕ) → t ≤ ONE → z ≤ ONE → 132 * (ONE * ONE) ≤ 132 * (ONE * lessened t 132 z) + t * z
from_132 t z h k = omega (arith, product_small t z h k)

to_132 : (t z : ℕ) → t ≤ ONE → z ≤ ONE → 132 * (ONE * lessened t 132 z) + t * z ≤ 132 * (ONE * ONE) + 132 * ONE
to_132 t z h k = omega (arith, product_small t z h k)

from_156 : (t z : ℕ) → t ≤ ONE → z ≤ ONE → 156 * (ONE * ONE) ≤ 156 * (ONE * lessened t 156 z) + t * z
from_156 t z h k = omega (arith, product_small t z h k)

to_156 : (t z : ℕ) → t ≤ ONE → z ≤ ONE → 156 * (ONE * lessened t 156 z) + t * z ≤ 156 * (ONE * ONE) + 156 * ONE
to_156 t z h k = omega (arith, product_small t z h k)

share_from : (m : ℕ) → ONE * (m / ONE) ≤ m
share_from m = omega arith

share_to : (m : ℕ) → m ≤ ONE * (m / ONE) + ONE
share_to m = omega arith

module _ (e d x w u : ℕ) (terms : 1 * (ONE * d) ≡ x * e) (less : d ≤ e) (about : IsAbout d w u) where
  w_terms : w * (1 * (ONE * d)) ≡ w * (x * e)
  w_terms = ap (λ q. w * q) terms

  share_e : e * (ONE * (x * w / ONE)) ≤ e * (x * w)
  share_e = mul-le e (ONE * (x * w / ONE)) e (x * w) (omega arith) (share_from (x * w))

  e_share : e * (x * w) ≤ e * (ONE * (x * w / ONE) + ONE)
  e_share = mul-le e (x * w) e (ONE * (x * w / ONE) + ONE) (omega arith) (share_to (x * w))

  scaled_over : e * (x * w / ONE) ≤ ONE * u + 5 * e
  scaled_over = omega (arith, w_terms, share_e, less, about.over)

  scaled_under : ONE * u ≤ e * (x * w / ONE) + 5 * e
  scaled_under = omega (arith, w_terms, e_share, less, about.under)

-- ---- the terms

module _ (x : ℕ) (e : ℕ → ℕ) (h : AreTerms 13 ONE x e) (small : x ≤ EIGHTH) where
  abbrev t : ℕ
  t = square_of x

  xx_small : x * x ≤ ONE * ONE
  xx_small = mul-le x x ONE ONE (omega (arith, small)) (omega (arith, small))

  square : IsSquare x (square_of x)
  square = record { from = omega arith; to = omega arith; small = xx_small }

  t_small : square_of x ≤ ONE
  t_small = omega (arith, xx_small)

  two_0 : 2 * (ONE * (ONE * e 2)) ≡ x * x * e 0
  two_0 = let f : x * (1 * (ONE * e 1)) ≡ x * (x * e 0) = ap (λ q. x * q) (h 0 (omega arith)) in omega (arith, f, h 1 (omega arith))

  two_1 : 6 * (ONE * (ONE * e 3)) ≡ x * x * e 1
  two_1 = let f : x * (2 * (ONE * e 2)) ≡ x * (x * e 1) = ap (λ q. x * q) (h 1 (omega arith)) in omega (arith, f, h 2 (omega arith))

  two_2 : 12 * (ONE * (ONE * e 4)) ≡ x * x * e 2
  two_2 = let f : x * (3 * (ONE * e 3)) ≡ x * (x * e 2) = ap (λ q. x * q) (h 2 (omega arith)) in omega (arith, f, h 3 (omega arith))

  two_3 : 20 * (ONE * (ONE * e 5)) ≡ x * x * e 3
  two_3 = let f : x * (4 * (ONE * e 4)) ≡ x * (x * e 3) = ap (λ q. x * q) (h 3 (omega arith)) in omega (arith, f, h 4 (omega arith))

  two_4 : 30 * (ONE * (ONE * e 6)) ≡ x * x * e 4
  two_4 = let f : x * (5 * (ONE * e 5)) ≡ x * (x * e 4) = ap (λ q. x * q) (h 4 (omega arith)) in omega (arith, f, h 5 (omega arith))

  two_5 : 42 * (ONE * (ONE * e 7)) ≡ x * x * e 5
  two_5 = let f : x * (6 * (ONE * e 6)) ≡ x * (x * e 5) = ap (λ q. x * q) (h 5 (omega arith)) in omega (arith, f, h 6 (omega arith))

  two_6 : 56 * (ONE * (ONE * e 8)) ≡ x * x * e 6
  two_6 = let f : x * (7 * (ONE * e 7)) ≡ x * (x * e 6) = ap (λ q. x * q) (h 6 (omega arith)) in omega (arith, f, h 7 (omega arith))

  two_7 : 72 * (ONE * (ONE * e 9)) ≡ x * x * e 7
  two_7 = let f : x * (8 * (ONE * e 8)) ≡ x * (x * e 7) = ap (λ q. x * q) (h 7 (omega arith)) in omega (arith, f, h 8 (omega arith))

  two_8 : 90 * (ONE * (ONE * e 10)) ≡ x * x * e 8
  two_8 = let f : x * (9 * (ONE * e 9)) ≡ x * (x * e 8) = ap (λ q. x * q) (h 8 (omega arith)) in omega (arith, f, h 9 (omega arith))

  two_9 : 110 * (ONE * (ONE * e 11)) ≡ x * x * e 9
  two_9 = let f : x * (10 * (ONE * e 10)) ≡ x * (x * e 9) = ap (λ q. x * q) (h 9 (omega arith)) in omega (arith, f, h 10 (omega arith))

  two_10 : 132 * (ONE * (ONE * e 12)) ≡ x * x * e 10
  two_10 = let f : x * (11 * (ONE * e 11)) ≡ x * (x * e 10) = ap (λ q. x * q) (h 10 (omega arith)) in omega (arith, f, h 11 (omega arith))

  two_11 : 156 * (ONE * (ONE * e 13)) ≡ x * x * e 11
  two_11 = let f : x * (12 * (ONE * e 12)) ≡ x * (x * e 11) = ap (λ q. x * q) (h 11 (omega arith)) in omega (arith, f, h 12 (omega arith))

  pub less_0 : e 2 ≤ e 0
  less_0 = let l : x * x * e 0 ≤ ONE * ONE * e 0 = mul-le (x * x) (e 0) (ONE * ONE) (e 0) xx_small (omega arith) in omega (arith, l, two_0)

  pub less_1 : e 3 ≤ e 1
  less_1 = let l : x * x * e 1 ≤ ONE * ONE * e 1 = mul-le (x * x) (e 1) (ONE * ONE) (e 1) xx_small (omega arith) in omega (arith, l, two_1)

  pub less_2 : e 4 ≤ e 2
  less_2 = let l : x * x * e 2 ≤ ONE * ONE * e 2 = mul-le (x * x) (e 2) (ONE * ONE) (e 2) xx_small (omega arith) in omega (arith, l, two_2)

  pub less_3 : e 5 ≤ e 3
  less_3 = let l : x * x * e 3 ≤ ONE * ONE * e 3 = mul-le (x * x) (e 3) (ONE * ONE) (e 3) xx_small (omega arith) in omega (arith, l, two_3)

  pub less_4 : e 6 ≤ e 4
  less_4 = let l : x * x * e 4 ≤ ONE * ONE * e 4 = mul-le (x * x) (e 4) (ONE * ONE) (e 4) xx_small (omega arith) in omega (arith, l, two_4)

  pub less_5 : e 7 ≤ e 5
  less_5 = let l : x * x * e 5 ≤ ONE * ONE * e 5 = mul-le (x * x) (e 5) (ONE * ONE) (e 5) xx_small (omega arith) in omega (arith, l, two_5)

  pub less_6 : e 8 ≤ e 6
  less_6 = let l : x * x * e 6 ≤ ONE * ONE * e 6 = mul-le (x * x) (e 6) (ONE * ONE) (e 6) xx_small (omega arith) in omega (arith, l, two_6)

  pub less_7 : e 9 ≤ e 7
  less_7 = let l : x * x * e 7 ≤ ONE * ONE * e 7 = mul-le (x * x) (e 7) (ONE * ONE) (e 7) xx_small (omega arith) in omega (arith, l, two_7)

  pub less_8 : e 10 ≤ e 8
  less_8 = let l : x * x * e 8 ≤ ONE * ONE * e 8 = mul-le (x * x) (e 8) (ONE * ONE) (e 8) xx_small (omega arith) in omega (arith, l, two_8)

  pub less_9 : e 11 ≤ e 9
  less_9 = let l : x * x * e 9 ≤ ONE * ONE * e 9 = mul-le (x * x) (e 9) (ONE * ONE) (e 9) xx_small (omega arith) in omega (arith, l, two_9)

  pub less_10 : e 12 ≤ e 10
  less_10 = let l : x * x * e 10 ≤ ONE * ONE * e 10 = mul-le (x * x) (e 10) (ONE * ONE) (e 10) xx_small (omega arith) in omega (arith, l, two_10)

  pub less_11 : e 13 ≤ e 11
  less_11 = let l : x * x * e 11 ≤ ONE * ONE * e 11 = mul-le (x * x) (e 11) (ONE * ONE) (e 11) xx_small (omega arith) in omega (arith, l, two_11)

  cosine_from_12 : IsAbout (e 12) ONE (e 12)
  cosine_from_12 = record { over = omega arith; under = omega arith }

  cosine_from_10 : IsAbout (e 10) (lessened t 132 ONE) (e 10 - e 12)
  cosine_from_10 = about 132 x t (e 10) (e 12) (e 10 - e 12) (e 12) (lessened t 132 ONE) ONE (omega arith) square (omega arith) two_10 (from_132 t ONE t_small (omega arith)) (to_132 t ONE t_small (omega arith)) (omega (arith, less_10)) cosine_from_12

  cosine_from_8 : IsAbout (e 8) (lessened t 90 (lessened t 132 ONE)) (e 8 - (e 10 - e 12))
  cosine_from_8 = about 90 x t (e 8) (e 10) (e 8 - (e 10 - e 12)) (e 10 - e 12) (lessened t 90 (lessened t 132 ONE)) (lessened t 132 ONE) (omega arith) square (omega arith) two_8 (from_90 t (lessened t 132 ONE) t_small (omega arith)) (to_90 t (lessened t 132 ONE) t_small (omega arith)) (omega (arith, less_8, less_10)) cosine_from_10

  cosine_from_6 : IsAbout (e 6) (lessened t 56 (lessened t 90 (lessened t 132 ONE))) (e 6 - (e 8 - (e 10 - e 12)))
  cosine_from_6 = about 56 x t (e 6) (e 8) (e 6 - (e 8 - (e 10 - e 12))) (e 8 - (e 10 - e 12)) (lessened t 56 (lessened t 90 (lessened t 132 ONE))) (lessened t 90 (lessened t 132 ONE)) (omega arith) square (omega arith) two_6 (from_56 t (lessened t 90 (lessened t 132 ONE)) t_small (omega arith)) (to_56 t (lessened t 90 (lessened t 132 ONE)) t_small (omega arith)) (omega (arith, less_6, less_8, less_10)) cosine_from_8

  cosine_from_4 : IsAbout (e 4) (lessened t 30 (lessened t 56 (lessened t 90 (lessened t 132 ONE)))) (e 4 - (e 6 - (e 8 - (e 10 - e 12))))
  cosine_from_4 = about 30 x t (e 4) (e 6) (e 4 - (e 6 - (e 8 - (e 10 - e 12)))) (e 6 - (e 8 - (e 10 - e 12))) (lessened t 30 (lessened t 56 (lessened t 90 (lessened t 132 ONE)))) (lessened t 56 (lessened t 90 (lessened t 132 ONE))) (omega arith) square (omega arith) two_4 (from_30 t (lessened t 56 (lessened t 90 (lessened t 132 ONE))) t_small (omega arith)) (to_30 t (lessened t 56 (lessened t 90 (lessened t 132 ONE))) t_small (omega arith)) (omega (arith, less_4, less_6, less_8, less_10)) cosine_from_6

  cosine_from_2 : IsAbout (e 2) (lessened t 12 (lessened t 30 (lessened t 56 (lessened t 90 (lessened t 132 ONE))))) (e 2 - (e 4 - (e 6 - (e 8 - (e 10 - e 12)))))
  cosine_from_2 = about 12 x t (e 2) (e 4) (e 2 - (e 4 - (e 6 - (e 8 - (e 10 - e 12))))) (e 4 - (e 6 - (e 8 - (e 10 - e 12)))) (lessened t 12 (lessened t 30 (lessened t 56 (lessened t 90 (lessened t 132 ONE))))) (lessened t 30 (lessened t 56 (lessened t 90 (lessened t 132 ONE)))) (omega arith) square (omega arith) two_2 (from_12 t (lessened t 30 (lessened t 56 (lessened t 90 (lessened t 132 ONE)))) t_small (omega arith)) (to_12 t (lessened t 30 (lessened t 56 (lessened t 90 (lessened t 132 ONE)))) t_small (omega arith)) (omega (arith, less_2, less_4, less_6, less_8, less_10)) cosine_from_4

  cosine_from_0 : IsAbout (e 0) (lessened t 2 (lessened t 12 (lessened t 30 (lessened t 56 (lessened t 90 (lessened t 132 ONE)))))) (e 0 - (e 2 - (e 4 - (e 6 - (e 8 - (e 10 - e 12))))))
  cosine_from_0 = about 2 x t (e 0) (e 2) (e 0 - (e 2 - (e 4 - (e 6 - (e 8 - (e 10 - e 12)))))) (e 2 - (e 4 - (e 6 - (e 8 - (e 10 - e 12))))) (lessened t 2 (lessened t 12 (lessened t 30 (lessened t 56 (lessened t 90 (lessened t 132 ONE)))))) (lessened t 12 (lessened t 30 (lessened t 56 (lessened t 90 (lessened t 132 ONE))))) (omega arith) square (omega arith) two_0 (from_2 t (lessened t 12 (lessened t 30 (lessened t 56 (lessened t 90 (lessened t 132 ONE))))) t_small (omega arith)) (to_2 t (lessened t 12 (lessened t 30 (lessened t 56 (lessened t 90 (lessened t 132 ONE))))) t_small (omega arith)) (omega (arith, less_0, less_2, less_4, less_6, less_8, less_10)) cosine_from_2

  pub cosine_about : IsAbout (e 0) (cosine_by (square_of x)) (cosine_more e - cosine_less e)
  unfolding cosine_by
  cosine_about = let same : e 0 - (e 2 - (e 4 - (e 6 - (e 8 - (e 10 - e 12))))) ≡ cosine_more e - cosine_less e = omega (arith, less_0, less_2, less_4, less_6, less_8, less_10) in rw same at cosine_from_0

  pub cosine_some : cosine_less e ≤ cosine_more e
  cosine_some = omega (arith, less_0, less_2, less_4, less_6, less_8, less_10)

  sine_from_13 : IsAbout (e 13) ONE (e 13)
  sine_from_13 = record { over = omega arith; under = omega arith }

  sine_from_11 : IsAbout (e 11) (lessened t 156 ONE) (e 11 - e 13)
  sine_from_11 = about 156 x t (e 11) (e 13) (e 11 - e 13) (e 13) (lessened t 156 ONE) ONE (omega arith) square (omega arith) two_11 (from_156 t ONE t_small (omega arith)) (to_156 t ONE t_small (omega arith)) (omega (arith, less_11)) sine_from_13

  sine_from_9 : IsAbout (e 9) (lessened t 110 (lessened t 156 ONE)) (e 9 - (e 11 - e 13))
  sine_from_9 = about 110 x t (e 9) (e 11) (e 9 - (e 11 - e 13)) (e 11 - e 13) (lessened t 110 (lessened t 156 ONE)) (lessened t 156 ONE) (omega arith) square (omega arith) two_9 (from_110 t (lessened t 156 ONE) t_small (omega arith)) (to_110 t (lessened t 156 ONE) t_small (omega arith)) (omega (arith, less_9, less_11)) sine_from_11

  sine_from_7 : IsAbout (e 7) (lessened t 72 (lessened t 110 (lessened t 156 ONE))) (e 7 - (e 9 - (e 11 - e 13)))
  sine_from_7 = about 72 x t (e 7) (e 9) (e 7 - (e 9 - (e 11 - e 13))) (e 9 - (e 11 - e 13)) (lessened t 72 (lessened t 110 (lessened t 156 ONE))) (lessened t 110 (lessened t 156 ONE)) (omega arith) square (omega arith) two_7 (from_72 t (lessened t 110 (lessened t 156 ONE)) t_small (omega arith)) (to_72 t (lessened t 110 (lessened t 156 ONE)) t_small (omega arith)) (omega (arith, less_7, less_9, less_11)) sine_from_9

  sine_from_5 : IsAbout (e 5) (lessened t 42 (lessened t 72 (lessened t 110 (lessened t 156 ONE)))) (e 5 - (e 7 - (e 9 - (e 11 - e 13))))
  sine_from_5 = about 42 x t (e 5) (e 7) (e 5 - (e 7 - (e 9 - (e 11 - e 13)))) (e 7 - (e 9 - (e 11 - e 13))) (lessened t 42 (lessened t 72 (lessened t 110 (lessened t 156 ONE)))) (lessened t 72 (lessened t 110 (lessened t 156 ONE))) (omega arith) square (omega arith) two_5 (from_42 t (lessened t 72 (lessened t 110 (lessened t 156 ONE))) t_small (omega arith)) (to_42 t (lessened t 72 (lessened t 110 (lessened t 156 ONE))) t_small (omega arith)) (omega (arith, less_5, less_7, less_9, less_11)) sine_from_7

  sine_from_3 : IsAbout (e 3) (lessened t 20 (lessened t 42 (lessened t 72 (lessened t 110 (lessened t 156 ONE))))) (e 3 - (e 5 - (e 7 - (e 9 - (e 11 - e 13)))))
  sine_from_3 = about 20 x t (e 3) (e 5) (e 3 - (e 5 - (e 7 - (e 9 - (e 11 - e 13))))) (e 5 - (e 7 - (e 9 - (e 11 - e 13)))) (lessened t 20 (lessened t 42 (lessened t 72 (lessened t 110 (lessened t 156 ONE))))) (lessened t 42 (lessened t 72 (lessened t 110 (lessened t 156 ONE)))) (omega arith) square (omega arith) two_3 (from_20 t (lessened t 42 (lessened t 72 (lessened t 110 (lessened t 156 ONE)))) t_small (omega arith)) (to_20 t (lessened t 42 (lessened t 72 (lessened t 110 (lessened t 156 ONE)))) t_small (omega arith)) (omega (arith, less_3, less_5, less_7, less_9, less_11)) sine_from_5

  sine_from_1 : IsAbout (e 1) (lessened t 6 (lessened t 20 (lessened t 42 (lessened t 72 (lessened t 110 (lessened t 156 ONE)))))) (e 1 - (e 3 - (e 5 - (e 7 - (e 9 - (e 11 - e 13))))))
  sine_from_1 = about 6 x t (e 1) (e 3) (e 1 - (e 3 - (e 5 - (e 7 - (e 9 - (e 11 - e 13)))))) (e 3 - (e 5 - (e 7 - (e 9 - (e 11 - e 13))))) (lessened t 6 (lessened t 20 (lessened t 42 (lessened t 72 (lessened t 110 (lessened t 156 ONE)))))) (lessened t 20 (lessened t 42 (lessened t 72 (lessened t 110 (lessened t 156 ONE))))) (omega arith) square (omega arith) two_1 (from_6 t (lessened t 20 (lessened t 42 (lessened t 72 (lessened t 110 (lessened t 156 ONE))))) t_small (omega arith)) (to_6 t (lessened t 20 (lessened t 42 (lessened t 72 (lessened t 110 (lessened t 156 ONE))))) t_small (omega arith)) (omega (arith, less_1, less_3, less_5, less_7, less_9, less_11)) sine_from_3

  sine_along : IsAbout (e 1) (sine_by (square_of x)) (sine_more e - sine_less e)
  unfolding sine_by
  sine_along = let same : e 1 - (e 3 - (e 5 - (e 7 - (e 9 - (e 11 - e 13))))) ≡ sine_more e - sine_less e = omega (arith, less_1, less_3, less_5, less_7, less_9, less_11) in rw same at sine_from_1

  pub sine_some : sine_less e ≤ sine_more e
  sine_some = omega (arith, less_1, less_3, less_5, less_7, less_9, less_11)

  first_small : e 1 ≤ e 0
  first_small = let l : x * e 0 ≤ ONE * e 0 = mul-le x (e 0) ONE (e 0) (omega (arith, small)) (omega arith) in omega (arith, l, h 0 (omega arith))

  -- times the first factor
  pub sine_over : e 0 * (x * sine_by (square_of x) / ONE) ≤ ONE * (sine_more e - sine_less e) + 5 * e 0
  sine_over = scaled_over (e 0) (e 1) x (sine_by (square_of x)) (sine_more e - sine_less e) (h 0 (omega arith)) first_small sine_along

  pub sine_under : ONE * (sine_more e - sine_less e) ≤ e 0 * (x * sine_by (square_of x) / ONE) + 5 * e 0
  sine_under = scaled_under (e 0) (e 1) x (sine_by (square_of x)) (sine_more e - sine_less e) (h 0 (omega arith)) first_small sine_along
