-- Whether a byte stands in a text, by where it first stands.
use Rattle.std.proofs.Common.{◌≡◌, ◌<◌, ◌≤◌, Bool, true, false, ◌||◌, List, [], ◌∷◌, length, refl, arith}
use Rattle.std.specs.List.{list_any, position_or_len}

pub found : {X : Type 0} (p : X → Bool) (xs : List X) → position_or_len p xs < length xs → list_any p xs ≡ true
found p [] h = absurd (omega (arith, h))
found p (x ∷ xs) h = by (p x) refl h (found p xs)
  where
    by : (b : Bool) → p x ≡ b → position_or_len p (x ∷ xs) < length (x ∷ xs) → (position_or_len p xs < length xs → list_any p xs ≡ true) → (b || list_any p xs) ≡ true
    by true e h more = refl
    by false e h more = more (let low = rw e at h in omega (arith, low))

pub lacking : {X : Type 0} (p : X → Bool) (xs : List X) → length xs ≤ position_or_len p xs → list_any p xs ≡ false
lacking p [] h = refl
lacking p (x ∷ xs) h = by (p x) refl h (lacking p xs)
  where
    by : (b : Bool) → p x ≡ b → length (x ∷ xs) ≤ position_or_len p (x ∷ xs) → (length xs ≤ position_or_len p xs → list_any p xs ≡ false) → (b || list_any p xs) ≡ false
    by true e h more = let none = rw e at h in absurd (omega (arith, none))
    by false e h more = more (let high = rw e at h in omega (arith, high))
