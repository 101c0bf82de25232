-- The decimal numbers of two digits at most.
use Rattle.std.proofs.Common.{◌≡◌, ℕ, ◌+◌, ◌/◌, ◌%◌, ◌<◌, ◌≤◌, List, [], ◌∷◌, ◌++◌, decimal, ap, ◌∙◌, arith}
use Rattle.std.proofs.lemmas.Fmt.{decimal_digit, decimal_step}

pub two_digits : (n : ℕ) → 10 ≤ n → n < 100 → decimal n ≡ (48 + n / 10) ∷ (48 + n % 10) ∷ []
two_digits n long short =
    let first : decimal (n / 10) ≡ (48 + n / 10) ∷ [] = decimal_digit (n / 10) (omega arith) in
    decimal_step n (omega arith) (omega arith) ∙ ap (λ (xs : List ℕ). xs ++ (48 + n % 10) ∷ []) first
