-- The pieces that are counted to a real piece.
use Rattle.std.proofs.Common.{◌≡◌, ◌⊎◌, inl, inr, ℕ, zero, suc, ◌+◌, ◌-◌, ◌≤◌, ◌<◌, List, [], ◌∷◌, length, get_or, take, drop, sum, Some, slice_get, refl, arith, length-drop}
use Rattle.std.proofs.lemmas.List.{length-take-le}
use Rattle.std.proofs.lemmas.List.Sums.{sum_by-cons, sum_by_more_le}
use Rattle.board_shapes.specs.Pieces.{PlainPiece}
use Rattle.arc_covers.specs.Bounds.{share_of}

-- the part stands in the list from number `first` on
abbrev pub IsAt : {X : Type 0} → List X → ℕ → List X → Type 0
IsAt xs first [] = Unit {0}
IsAt xs first (y ∷ ys) = (slice_get xs first ≡ Some y) × IsAt xs (suc first) ys

behind : {X : Type 0} (x : X) (xs ys : List X) (first : ℕ) → IsAt xs first ys → IsAt (x ∷ xs) (suc first) ys
behind x xs [] first at = tt
behind x xs (y ∷ ys) first (here, more) = (here, behind x xs ys (suc first) more)

at_drop : {X : Type 0} (xs : List X) (first : ℕ) → IsAt xs first (drop first xs)
at_drop [] zero = tt
at_drop [] (suc first) = tt
at_drop (x ∷ xs) zero = (refl, behind x xs xs 0 (at_drop xs 0))
at_drop (x ∷ xs) (suc first) = behind x xs (drop first xs) first (at_drop xs first)

at_take : {X : Type 0} (xs ys : List X) (n first : ℕ) → IsAt xs first ys → IsAt xs first (take n ys)
at_take xs ys zero first at = tt
at_take xs [] (suc n) first at = tt
at_take xs (y ∷ ys) (suc n) first (here, more) = (here, at_take xs ys n (suc first) more)

pub share_at : (counts : List ℕ) (pieces : List PlainPiece) (i : ℕ) → IsAt pieces (sum (take i counts)) (share_of counts pieces i)
share_at counts pieces i = at_take pieces (drop (sum (take i counts)) pieces) (get_or counts i 0) (sum (take i counts)) (at_drop pieces (sum (take i counts)))

-- a share has as many pieces as its count
pub share_length : (counts : List ℕ) (pieces : List PlainPiece) (i : ℕ) → sum counts ≡ length pieces → i < length counts → length (share_of counts pieces i) ≡ get_or counts i 0
share_length counts pieces i all below =
    let within = sum_by_more_le (λ (x : ℕ). x) counts i 0 below in
    let start : ℕ = sum (take i counts) in
    let n : ℕ = get_or counts i 0 in
    let rest = length-drop start pieces in
    length-take-le n (drop start pieces) (omega arith)

-- each piece stands in one of the shares
pub placed : (counts : List ℕ) (j : ℕ) → j < sum counts → (i : ℕ) × (i < length counts) × (sum (take i counts) ≤ j) × (j < sum (take i counts) + get_or counts i 0)
placed [] j below = absurd (omega arith)
placed (n ∷ counts) j below = elim (cases j n) [
  | inl here ↦ (0, omega arith, omega arith, omega arith)
  | inr later ↦
      let whole = sum_by-cons (λ (x : ℕ). x) n counts in
      let there = placed counts (j - n) (omega arith) in
      let before = sum_by-cons (λ (x : ℕ). x) n (take there.0 counts) in
      let from = there.2 in
      let to = there.3 in
      let inside = there.1 in
      (suc there.0, omega arith, omega arith, omega arith)
]
  where
    cases : (j n : ℕ) → (j < n) ⊎ (n ≤ j)
    cases j n = grind arith
