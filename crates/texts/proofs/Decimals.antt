-- The digits of a number, as they are written.
use Rattle.std.proofs.Common.{◌≡◌, ℕ, zero, suc, ◌+◌, ◌*◌, ◌/◌, ◌%◌, ◌^◌, ◌<◌, ◌≤◌, List, [], ◌∷◌, ◌++◌, refl, sym, ap, ◌∙◌, arith, append_assoc, append-nil}
use Rattle.std.proofs.Math.Nat.{div-div-eq-div-mul, pow-suc, mul_comm}
use Rattle.std.proofs.lemmas.Fmt.{decimal_digit, decimal_step}
use Rattle.std.specs.Fmt.{decimal}
use Rattle.texts.specs.LastDigits.{last_digits}

-- both digits of a number below 100
abbrev pub pair : ℕ → List ℕ
pair n = (48 + n / 10) ∷ (48 + n % 10) ∷ []

-- a number of one to five digits
pub one : (n : ℕ) → n < 10 → decimal n ≡ (48 + n) ∷ []
one n few = decimal_digit n few

pub two : (n : ℕ) → 10 ≤ n → n < 100 → decimal n ≡ pair n
two n many few = decimal_step n many (omega arith) ∙ ap (λ (t : List ℕ). t ++ (48 + n % 10) ∷ []) (one (n / 10) (omega arith))

-- a number is what stands in front of its last two digits, and these
with_pair : (n : ℕ) → 100 ≤ n → n < 100_000 → decimal n ≡ decimal (n / 100) ++ pair (n % 100)
with_pair n many few =
    let e : n / 10 / 10 ≡ n / 100 = omega arith in
    let f : n / 10 % 10 ≡ n % 100 / 10 = omega arith in
    let g : n % 10 ≡ n % 100 % 10 = omega arith in
    decimal_step n (omega arith) (omega arith)
    ∙ ap (λ (t : List ℕ). t ++ (48 + n % 10) ∷ []) (decimal_step (n / 10) (omega arith) (omega arith))
    ∙ append_assoc (decimal (n / 10 / 10)) ((48 + n / 10 % 10) ∷ []) ((48 + n % 10) ∷ [])
    ∙ rw (e, f, g) refl

pub three : (n : ℕ) → 100 ≤ n → n < 1_000 → decimal n ≡ (48 + n / 100) ∷ pair (n % 100)
three n many few = with_pair n many (omega arith) ∙ ap (λ (t : List ℕ). t ++ pair (n % 100)) (one (n / 100) (omega arith))

pub four : (n : ℕ) → 1_000 ≤ n → n < 10_000 → decimal n ≡ pair (n / 100) ++ pair (n % 100)
four n many few = with_pair n (omega arith) (omega arith) ∙ ap (λ (t : List ℕ). t ++ pair (n % 100)) (two (n / 100) (omega arith) (omega arith))

pub five : (n : ℕ) → 10_000 ≤ n → n < 100_000 → decimal n ≡ (48 + n / 100 / 100) ∷ (pair (n / 100 % 100) ++ pair (n % 100))
five n many few = with_pair n (omega arith) few ∙ ap (λ (t : List ℕ). t ++ pair (n % 100)) (three (n / 100) (omega arith) (omega arith))

pow_positive : (k : ℕ) → 1 ≤ 10 ^ k
pow_positive zero = omega arith
pow_positive (suc k) = let h = pow_positive k in omega (arith, pow-suc 10 k)

-- a number is the digits in front of its last ones, and these
with_front : (k n : ℕ) → n < 2 ^ 64 → 10 ^ k ≤ n → decimal n ≡ decimal (n / 10 ^ k) ++ last_digits k n
with_front zero n fits some = ap decimal (omega arith) ∙ sym (append-nil (decimal (n / 1)))
with_front (suc k) n fits some =
    let ten : 10 ^ suc k ≡ 10 * 10 ^ k = pow-suc 10 k ∙ mul_comm (10 ^ k) 10 in
    let some_more : 1 ≤ 10 ^ k = pow_positive k in
    let over : n / 10 ^ suc k ≡ n / 10 / 10 ^ k = ap (λ (p : ℕ). n / p) (pow-suc 10 k ∙ mul_comm (10 ^ k) 10) ∙ sym (div-div-eq-div-mul n 10 (10 ^ k)) in
    decimal_step n (omega arith) fits
    ∙ ap (λ (t : List ℕ). t ++ (48 + n % 10) ∷ []) (with_front k (n / 10) (omega arith) (omega arith))
    ∙ append_assoc (decimal (n / 10 / 10 ^ k)) (last_digits k (n / 10)) ((48 + n % 10) ∷ [])
    ∙ ap (λ (m : ℕ). decimal m ++ last_digits (suc k) n) (sym over)

-- the last five digits behind those in front of them
pub put_front : (byte n : ℕ) (start before after : List ℕ) → n < 2 ^ 64 → 100_000 ≤ n → before ≡ start ++ (byte ∷ decimal (n / 100_000)) → after ≡ before ++ last_digits 5 n → after ≡ start ++ (byte ∷ decimal n)
put_front byte n start before after fits some so_far now =
    now
    ∙ ap (λ (t : List ℕ). t ++ last_digits 5 n) so_far
    ∙ append_assoc start (byte ∷ decimal (n / 100_000)) (last_digits 5 n)
    ∙ ap (λ (t : List ℕ). start ++ (byte ∷ t)) (sym (with_front 5 n fits some))
