-- One real piece more.
use Rattle.std.proofs.Common.{◌≡◌, ◌⊎◌, inl, inr, ℕ, ◌+◌, ◌≤◌, ◌<◌, List, length, get_or, take, drop, sum, Some, slice_get, sym, ◌∙◌, ap, subst, arith}
use Rattle.std.proofs.lemmas.List.{drop-map, length-map, take-map}
use Rattle.std.proofs.lemmas.List.Sums.{sum_by_more, sum_by_more_le}
use Rattle.std.proofs.lemmas.Option.{same_Some, slice_get-get_or}
use Rattle.board_shapes.specs.Pieces.{PlainPiece, plain_piece, plain_pieces}
use Rattle.board_shapes.specs.declared.placed.Placed.{Placed}
use Rattle.board_shapes.specs.declared.shape.Shape.{Shape}
use Rattle.arc_covers.specs.Bounds.{AddUp, share_of}
use Rattle.arc_covers.specs.Taken.{FirstTaken, PiecesAreTaken}
use Rattle.real_shapes.specs.declared.RealShape.{RealShape}
use Rattle.arc_covers.specs.declared.side.Side.{Side}

-- what is cut out of the pieces is the share
cut_out : (counts : List ℕ) (pieces part : List (Placed Shape)) (i start : ℕ) → start ≡ sum (take i counts) → part ≡ take (get_or counts i 0) (drop start pieces) → plain_pieces part ≡ share_of counts (plain_pieces pieces) i
cut_out counts pieces part i start from is =
    ap plain_pieces is ∙ sym (take-map plain_piece (get_or counts i 0) (drop start pieces)) ∙ ap (λ (xs : List PlainPiece). take (get_or counts i 0) xs) (sym (drop-map plain_piece start pieces)) ∙
    ap (λ (k : ℕ). take (get_or counts i 0) (drop k (plain_pieces pieces))) from

pub shared : (side : Side) (piece : Placed RealShape) (counts : List ℕ) (pieces part : List (Placed Shape)) (i start : ℕ) → start ≡ sum (take i counts) → part ≡ take (get_or counts i 0) (drop start pieces) → PiecesAreTaken side piece (plain_pieces part) → PiecesAreTaken side piece (share_of counts (plain_pieces pieces) i)
shared side piece counts pieces part i start from is = subst (PiecesAreTaken side piece) (cut_out counts pieces part i start from is)

pub unshared : (side : Side) (piece : Placed RealShape) (counts : List ℕ) (pieces part : List (Placed Shape)) (i start : ℕ) → start ≡ sum (take i counts) → part ≡ take (get_or counts i 0) (drop start pieces) → PiecesAreTaken side piece (share_of counts (plain_pieces pieces) i) → PiecesAreTaken side piece (plain_pieces part)
unshared side piece counts pieces part i start from is = subst (PiecesAreTaken side piece) (sym (cut_out counts pieces part i start from is))

pub item_there : {X : Type 0} (xs : List X) (i : ℕ) (x : X) → i < length xs → x ≡ get_or xs i x → slice_get xs i ≡ Some x
item_there xs i x below is = slice_get-get_or xs i x below ∙ ap Some (sym is)

-- it lies within them
pub fits : (real : List (Placed RealShape)) (counts : List ℕ) (pieces : List (Placed Shape)) (i start : ℕ) → AddUp real counts (plain_pieces pieces) → i < length real → start ≡ sum (take i counts) → start + get_or counts i 0 ≤ length pieces
fits real counts pieces i start up below from =
    let each = up.each in
    let all = up.all in
    let inside = sum_by_more_le (λ (x : ℕ). x) counts i 0 (omega arith) in
    let same = length-map pieces plain_piece in
    omega arith

pub further : (real : List (Placed RealShape)) (counts : List ℕ) (pieces : List PlainPiece) (i start : ℕ) → AddUp real counts pieces → i < length real → start ≡ sum (take i counts) → start + get_or counts i 0 ≡ sum (take (i + 1) counts)
further real counts pieces i start up below from =
    let each = up.each in
    let more = sum_by_more (λ (x : ℕ). x) counts i 0 (omega arith) in
    omega arith

-- one more is taken
pub first_more : (side : Side) (i : ℕ) (real : List (Placed RealShape)) (counts : List ℕ) (pieces : List PlainPiece) (piece : Placed RealShape) → slice_get real i ≡ Some piece → FirstTaken side i real counts pieces → PiecesAreTaken side piece (share_of counts pieces i) → FirstTaken side (i + 1) real counts pieces
first_more side i real counts pieces piece is before here j other below there = elim (cases j i below) [
  | inl less ↦ before j other less there
  | inr same ↦
      let one : piece ≡ other = same_Some piece other (sym is ∙ ap (λ (k : ℕ). slice_get real k) (sym same) ∙ there) in
      subst (λ (k : ℕ). PiecesAreTaken side other (share_of counts pieces k)) (sym same) (subst (λ (p : Placed RealShape). PiecesAreTaken side p (share_of counts pieces i)) one here)
]
  where
    cases : (j i : ℕ) → j < i + 1 → (j < i) ⊎ (j ≡ i)
    cases j i h = grind arith
