-- A list of placed shapes and the plain pieces of a board: what touches and what is under is the same.
use Rattle.std.proofs.Common.{◌≡◌, ℕ, List, length, Option, Some, None, slice_get, slice_index_or, option_map, refl, sym, ap, subst, ◌∙◌}
use Rattle.std.proofs.lemmas.List.{length-map}
use Rattle.std.proofs.lemmas.List.Elements.{All-weaker}
use Rattle.std.proofs.lemmas.Option.{slice_get-map, slice_get_within}
use Rattle.board_shapes.specs.Plain.{PlainBoard, PlainPiece, plain_piece, plain_pieces}
use Rattle.board_shapes.specs.Shapes.{InShape}
use Rattle.board_shapes.specs.Tables.{IsNear as IsNearOn}
use Rattle.board_shapes.specs.Touching.{IsUnder, Touch, UnderAt}
use Rattle.board_shapes.specs.declared.placed.Placed.{Placed}
use Rattle.board_shapes.specs.declared.shape.Shape.{Shape}
use Rattle.cell_index.specs.Among.{TouchAmong, UnderAmong}
use Rattle.cell_index.specs.Field.{IsNear}
use Rattle.cell_index.specs.Homes.{UnderProbe}
use Rattle.flood.proofs.Points.{least_along}
use Rattle.flood.specs.Laws.{HomesAreOfTheBoard, NetsAreOfTheBoard}
use Rattle.verdict.specs.Forest.{IsForest, IsTree}
use Rattle.verdict.specs.declared.verdict.Twig.{Twig}
use Rattle.verdict.proofs.Trees.{tree_along}

-- ---- Forests along a relation that says the same

forest_along : (count : ℕ) (near more : ℕ → ℕ → Type 0) (nets : List (List Twig)) → ((p q : ℕ) → near p q → more p q) → ((p q : ℕ) → more p q → near p q) → IsForest count near nets → IsForest count more nets
forest_along count near more nets there back f = record {
  trees = record { known = f.trees.known; trees = All-weaker (IsTree near) (IsTree more) (tree_along near more there) nets f.trees.trees; rising = f.trees.rising };
  covers = f.covers;
  apart = λ i j p q h k touch. f.apart i j p q h k (back p q touch);
}

-- ---- Items and their plain pieces

map_some : (o : Option (Placed Shape)) (x : PlainPiece) → option_map plain_piece o ≡ Some x → (item : Placed Shape) × (o ≡ Some item) × (plain_piece item ≡ x)
map_some None x e = cc
map_some (Some item) x e = (item, refl, cc)

plain_there : (items : List (Placed Shape)) (p : ℕ) (item : Placed Shape) → slice_get items p ≡ Some item → slice_get (plain_pieces items) p ≡ Some (plain_piece item)
plain_there items p item there = slice_get-map plain_piece items p ∙ ap (option_map plain_piece) there

plain_back : (items : List (Placed Shape)) (p : ℕ) (x : PlainPiece) → slice_get (plain_pieces items) p ≡ Some x → (item : Placed Shape) × (slice_get items p ≡ Some item) × (plain_piece item ≡ x)
plain_back items p x there = map_some (slice_get items p) x (sym (slice_get-map plain_piece items p) ∙ there)

near_there : (b : PlainBoard) (items : List (Placed Shape)) → b.pieces ≡ plain_pieces items → (p q : ℕ) → IsNear (length items) (TouchAmong InShape items) p q → IsNearOn b p q
near_there b items same p q near =
    let t = near.touch in (
      λ e. near.other (sym e),
      record {
        first = plain_piece t.first;
        second = plain_piece t.second;
        first_is = ap (λ (xs : List PlainPiece). slice_get xs p) same ∙ plain_there items p t.first t.here;
        second_is = ap (λ (xs : List PlainPiece). slice_get xs q) same ∙ plain_there items q t.second t.there;
        touch = (t.layer, t.share);
      },
    )

near_back : (b : PlainBoard) (items : List (Placed Shape)) → b.pieces ≡ plain_pieces items → (p q : ℕ) → IsNearOn b p q → IsNear (length items) (TouchAmong InShape items) p q
near_back b items same p q (other, t) =
    let one = plain_back items p t.first (sym (ap (λ (xs : List PlainPiece). slice_get xs p) same) ∙ t.first_is) in
    let two = plain_back items q t.second (sym (ap (λ (xs : List PlainPiece). slice_get xs q) same) ∙ t.second_is) in
    let touch : Touch (plain_piece one.0) (plain_piece two.0) = subst (λ (x : PlainPiece). Touch x (plain_piece two.0)) (sym one.2) (subst (λ (x : PlainPiece). Touch t.first x) (sym two.2) t.touch) in
    record {
      first = slice_get_within items p one.0 one.1;
      second = slice_get_within items q two.0 two.1;
      other = λ e. other (sym e);
      touch = record { first = one.0; second = two.0; here = one.1; there = two.1; layer = touch.0; share = touch.1 };
    }

pub nets_on : (b : PlainBoard) (items : List (Placed Shape)) (nets : List (List Twig)) → NetsAreOfTheBoard b items nets
nets_on b items nets same f =
    let long : length items ≡ length b.pieces = sym (ap length same ∙ length-map items plain_piece) in
    subst (λ (n : ℕ). IsForest n (IsNearOn b) nets) long (forest_along (length items) (IsNear (length items) (TouchAmong InShape items)) (IsNearOn b) nets (near_there b items same) (near_back b items same) f)

-- ---- Homes

under_there : (b : PlainBoard) (items : List (Placed Shape)) → b.pieces ≡ plain_pieces items → (k p : ℕ) → UnderProbe (UnderAmong InShape items) b.probes k p → UnderAt b k p
under_there b items same k p u =
    let i = u.is_under in
    record {
      piece = plain_piece i.item;
      probe = u.probe;
      piece_is = ap (λ (xs : List PlainPiece). slice_get xs p) same ∙ plain_there items p i.item i.there;
      probe_is = u.probe_is;
      under = (i.in_span, i.inside);
    }

under_back : (b : PlainBoard) (items : List (Placed Shape)) → b.pieces ≡ plain_pieces items → (k p : ℕ) → UnderAt b k p → UnderProbe (UnderAmong InShape items) b.probes k p
under_back b items same k p u =
    let one = plain_back items p u.piece (sym (ap (λ (xs : List PlainPiece). slice_get xs p) same) ∙ u.piece_is) in
    let under : IsUnder (plain_piece one.0) u.probe = subst (λ (x : PlainPiece). IsUnder x u.probe) (sym one.2) u.under in
    record { probe = u.probe; probe_is = u.probe_is; is_under = record { item = one.0; there = one.1; in_span = under.0; inside = under.1 } }

pub homes_on : (b : PlainBoard) (items : List (Placed Shape)) (homes : List (Option ℕ)) → HomesAreOfTheBoard b items homes
homes_on b items homes same h = record {
  many = h.many;
  each = λ k below. least_along (UnderProbe (UnderAmong InShape items) b.probes k) (UnderAt b k) (slice_index_or homes k None) (under_there b items same k) (under_back b items same k) (h.each k below);
}
