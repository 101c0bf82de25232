-- A list of which each item is tested beside the item of another from which a function makes it.
use Rattle.std.proofs.Common.{◌≡◌, ◌≢◌, ◌↔◌, Bool, true, false, IsTrue, ℕ, ◌<◌, List, [], ◌∷◌, length, map, All, refl, sym, ap, subst, ◌∙◌, arith}
use Rattle.std.specs.Bool.{MatchBool}
use Rattle.std.specs.List.{AllWithin, HoldsAt, zip}
use Rattle.std.proofs.lemmas.Iterator.Search.{true_from_All}
use Rattle.std.proofs.lemmas.List.Elements.{All-cons, All-nil, All-tail}
use Rattle.witness_check.proofs.Told.{no_true}

pub both_maps : {X Y Z : Type 0} (f : Y → Z) (g : X → Y) (xs : List X) → map f (map g xs) ≡ map (λ x. f (g x)) xs
both_maps f g [] = refl
both_maps f g (x ∷ xs) = ap (λ (t : List _). f (g x) ∷ t) (both_maps f g xs)

-- The second is what the function makes of the first.
abbrev pub IsMade : {X A : Type 0} → (X → A) → X × A → Type 0
IsMade f p = p.1 ≡ f p.0

all_made : {X A : Type 0} (f : X → A) (xs : List X) → All (IsMade f) (zip xs (map f xs))
all_made f [] = All-nil (IsMade f)
all_made f (x ∷ xs) = All-cons (IsMade f) (x, f x) (zip xs (map f xs)) refl (all_made f xs)

from_made : {X A : Type 0} (f : X → A) (xs : List X) (ys : List A) → length xs ≡ length ys → All (IsMade f) (zip xs ys) → ys ≡ map f xs
from_made f [] [] long all = refl
from_made f [] (y ∷ ys) long all = absurd (omega arith)
from_made f (x ∷ xs) [] long all = absurd (omega arith)
from_made f (x ∷ xs) (y ∷ ys) long all = ap (λ (t : List _). y ∷ t) (from_made f xs ys (omega arith) (All-tail (IsMade f) (x, y) (zip xs ys) all)) ∙ ap (λ z. z ∷ map f xs) (all 0 (x, y) (omega arith))

-- what `all` over the pairs of two lists tells
pub all_tell : {X A : Type 0} (f : X → A) (xs : List X) (ys whole : List A) (r : Bool) → whole ≡ map f xs → length xs ≡ length ys
    → MatchBool r (AllWithin (IsMade f) (zip xs ys) 0 (length (zip xs ys))) ((k : ℕ) × (k < length (zip xs ys)) × HoldsAt (λ p. p.1 ≢ f p.0) (zip xs ys) k) → IsTrue r ↔ (ys ≡ whole)
all_tell f xs ys whole r made long tells = (λ t. there r t tells, λ same. true_from_All (IsMade f) (λ p. p.1 ≢ f p.0) r (zip xs ys) (λ p is not. not is) tells (subst (λ (zs : List _). All (IsMade f) (zip xs zs)) (sym (same ∙ made)) (all_made f xs)))
  where
    there : (b : Bool) → IsTrue b → MatchBool b (AllWithin (IsMade f) (zip xs ys) 0 (length (zip xs ys))) ((k : ℕ) × (k < length (zip xs ys)) × HoldsAt (λ p. p.1 ≢ f p.0) (zip xs ys) k) → ys ≡ whole
    there true t all = from_made f xs ys long (λ k d below. all k d (omega arith) below) ∙ sym made
    there false t all = absurd (no_true t)
