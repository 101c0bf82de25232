-- What a board's tables say, by the pieces that touch and the pieces under its probes.
use Rattle.std.proofs.Common.{◌≡◌, ◌⊎◌, inl, inr, ℕ, List, length, sym, subst, arith}
use Rattle.std.proofs.lemmas.Bool.{cases_eq}
use Rattle.std.proofs.lemmas.List.Elements.{All-weaker}
use Rattle.std.proofs.lemmas.Option.{slice_get_within}
use Rattle.board_shapes.specs.Laws.{PiecesUnderOneProbeTouch}
use Rattle.board_shapes.specs.Plain.{PlainBoard}
use Rattle.board_shapes.specs.Tables.{IsNear, IsTables}
use Rattle.board_shapes.specs.Touching.{UnderAt}
use Rattle.tables.proofs.Listing.{stands_as, stands_where}
use Rattle.tables.specs.Tables.{Tables, Stands}
use Rattle.verdict.specs.declared.verdict.Twig.{Twig}
use Rattle.verdict.specs.Forest.{AreTrees, IsTree, StandApart, StandOnce}
use Rattle.verdict.proofs.Trees.{tree_along}

pub near_as : (b : PlainBoard) (t : Tables) → IsTables b t → (p q : ℕ) → Stands t.near p q → IsNear b p q
near_as b t is p q s = stands_as (length b.pieces) (IsNear b) t.near is.near p q s

pub near_where : (b : PlainBoard) (t : Tables) → IsTables b t → (p q : ℕ) → IsNear b p q → Stands t.near p q
near_where b t is p q n = stands_where (length b.pieces) (IsNear b) t.near is.near p q (slice_get_within b.pieces p n.1.first n.1.first_is) n

-- Two pieces under one probe are the same or near.
pub under_close : PiecesUnderOneProbeTouch → (b : PlainBoard) (k p q : ℕ) → UnderAt b k p → UnderAt b k q → (p ≡ q) ⊎ IsNear b p q
under_close law b k p q one two = elim (cases_eq q p) [
  | inl same ↦ inl (sym same)
  | inr other ↦ elim (law b k p q one two) [ inl same ↦ inl same | inr touch ↦ inr (other, touch) ]
]

-- ---- Nets along a relation that says no less

trees_along : (near more : ℕ → ℕ → Type 0) (count size : ℕ) (nets : List (List Twig)) → ((p q : ℕ) → near p q → more p q) → count ≡ size → AreTrees count near nets → AreTrees size more nets
trees_along near more count size nets along same trees = record {
  known = λ i p h. let e = trees.known i p h in omega arith;
  trees = All-weaker (IsTree near) (IsTree more) (λ net. tree_along near more along net) nets trees.trees;
  rising = trees.rising;
}

pub trees_where : (b : PlainBoard) (t : Tables) (nets : List (List Twig)) → IsTables b t → AreTrees (length b.pieces) (IsNear b) nets → AreTrees (length t.near) (Stands t.near) nets
trees_where b t nets is trees = trees_along (IsNear b) (Stands t.near) (length b.pieces) (length t.near) nets (near_where b t is) (sym is.near.many) trees

pub trees_as : (b : PlainBoard) (t : Tables) (nets : List (List Twig)) → IsTables b t → AreTrees (length t.near) (Stands t.near) nets → AreTrees (length b.pieces) (IsNear b) nets
trees_as b t nets is trees = trees_along (Stands t.near) (IsNear b) (length t.near) (length b.pieces) nets (near_as b t is) is.near.many trees

pub once_where : (b : PlainBoard) (t : Tables) (nets : List (List Twig)) → IsTables b t → StandOnce (length b.pieces) nets → StandOnce (length t.near) nets
once_where b t nets is once = subst (λ (n : ℕ). StandOnce n nets) (sym is.near.many) once

pub once_as : (b : PlainBoard) (t : Tables) (nets : List (List Twig)) → IsTables b t → StandOnce (length t.near) nets → StandOnce (length b.pieces) nets
once_as b t nets is once = subst (λ (n : ℕ). StandOnce n nets) is.near.many once

pub apart_where : (b : PlainBoard) (t : Tables) (nets : List (List Twig)) → IsTables b t → StandApart (IsNear b) nets → StandApart (Stands t.near) nets
apart_where b t nets is apart = λ i j p q h k s. apart i j p q h k (near_as b t is p q s)

pub apart_as : (b : PlainBoard) (t : Tables) (nets : List (List Twig)) → IsTables b t → StandApart (Stands t.near) nets → StandApart (IsNear b) nets
apart_as b t nets is apart = λ i j p q h k s. apart i j p q h k (near_where b t is p q s)
