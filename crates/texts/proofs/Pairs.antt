-- The table of two digits.
use Rattle.std.proofs.Common.{◌≡◌, ℕ, ◌+◌, ◌*◌, ◌/◌, ◌%◌, ◌<◌, true, eqb, get_or, refl}
use Rattle.std.proofs.lemmas.Bool.{agree_below_at, eqb-true}
use Rattle.texts.specs.declared.writing.TheConstants.{PAIRS}

tens_at : (n : ℕ) → n < 100 → eqb (get_or PAIRS (n * 2) 0) (48 + n / 10) ≡ true
tens_at n low = agree_below_at (λ n. eqb (get_or PAIRS (n * 2) 0) (48 + n / 10)) (λ n. true) 100 n refl low

ones_at : (n : ℕ) → n < 100 → eqb (get_or PAIRS (n * 2 + 1) 0) (48 + n % 10) ≡ true
ones_at n low = agree_below_at (λ n. eqb (get_or PAIRS (n * 2 + 1) 0) (48 + n % 10)) (λ n. true) 100 n refl low

pub tens_are : (n : ℕ) → n < 100 → get_or PAIRS (n * 2) 0 ≡ 48 + n / 10
tens_are n low = eqb-true (get_or PAIRS (n * 2) 0) (48 + n / 10) (tens_at n low)

pub ones_are : (n : ℕ) → n < 100 → get_or PAIRS (n * 2 + 1) 0 ≡ 48 + n % 10
ones_are n low = eqb-true (get_or PAIRS (n * 2 + 1) 0) (48 + n % 10) (ones_at n low)
