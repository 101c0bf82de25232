-- Facts of all items of a list, gathered by a loop.
use Rattle.std.proofs.Common.{◌≡◌, ℕ, ◌+◌, ◌<◌, List, length, take, get_or, subst}
use Rattle.std.specs.List.{AllByRecursion}
use Rattle.std.proofs.lemmas.List.Elements.{All-more, All-from_recursion, recursion_from_All}

-- one turn of a loop that shows a fact of each item
pub gathered_turn : {X : Type 0} (P : X → Type 0) (xs : List X) (i : ℕ) (x d : X) → i < length xs → x ≡ get_or xs i d → AllByRecursion P (take i xs) → P x → AllByRecursion P (take (i + 1) xs)
gathered_turn P xs i x d below item so_far now = recursion_from_All P (take (i + 1) xs) (All-more P xs i d below (All-from_recursion P (take i xs) so_far) (subst P item now))
