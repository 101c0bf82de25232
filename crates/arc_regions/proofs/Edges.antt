-- Lines of edges, one behind another.
use Rattle.std.proofs.Common.{◌≡◌, inl, inr, List, [], ◌∷◌, ◌++◌, refl}
use Rattle.planar.specs.declared.Spot.{Spot}
use Rattle.area_contact.specs.Contour.{SomeEdge, edges_from, end_from}
use Rattle.area_contact.specs.declared.Edge.{Edge}

pub end_append : (a : Spot) (xs ys : List Spot) → end_from a (xs ++ ys) ≡ end_from (end_from a xs) ys
end_append a [] ys = refl
end_append a (b ∷ xs) ys = end_append b xs ys

pub some_behind : (P : Edge → Type 0) (a : Spot) (xs ys : List Spot) → SomeEdge P (edges_from (end_from a xs) ys) → SomeEdge P (edges_from a (xs ++ ys))
some_behind P a [] ys h = h
some_behind P a (b ∷ xs) ys h = inr (some_behind P b xs ys h)

pub some_before : (P : Edge → Type 0) (a : Spot) (xs ys : List Spot) → SomeEdge P (edges_from a xs) → SomeEdge P (edges_from a (xs ++ ys))
some_before P a [] ys h = absurd h
some_before P a (b ∷ xs) ys (inl h) = inl h
some_before P a (b ∷ xs) ys (inr h) = inr (some_before P b xs ys h)
