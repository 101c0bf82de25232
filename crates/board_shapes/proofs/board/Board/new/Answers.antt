use Rattle.std.proofs.Common.{List, ◌≡◌, ◌∙◌, ap, sym, Option, Some, None}
use Rattle.contact.specs.declared.Bounds.{Bounds}
use Rattle.board_shapes.specs.declared.shape.Shape.{Shape}
use Rattle.board_shapes.specs.declared.placed.Placed.{Placed}
use Rattle.board_shapes.specs.CommonBox.{common_box, FitsFrame}
use Rattle.board_shapes.specs.Pieces.{plain_pieces}
use Rattle.board_shapes.proofs.Boxes.{none_inside, all_inside}
use Rattle.board_shapes.proofs.board.Board.new.Goals as goal

-- what the box of the lent pieces says of the pieces
of_all : (pieces lent : List (Placed Shape)) (found o : Option Bounds) → lent ≡ pieces → found ≡ common_box (plain_pieces lent) → found ≡ o → common_box (plain_pieces pieces) ≡ o
of_all pieces lent found o e f g = ap (λ (l : List (Placed Shape)). common_box (plain_pieces l)) (sym e) ∙ sym f ∙ g

pub invariant_of-result-clause-inside : goal.invariant_of-result-clause-inside
invariant_of-result-clause-inside c = none_inside c.args.pieces.items _ (of_all c.args.pieces.items c.deref.result.now c.box_of_all.result None c.deref.ensures.value c.box_of_all.ensures c.in_default.is)

pub invariant_of-result-2-clause-inside : goal.invariant_of-result-2-clause-inside
invariant_of-result-2-clause-inside c =
    let fits : FitsFrame c.in-Some.bounds = c.fits_frame.ensures.0 (c.if-not-fits_frame.false) in
    all_inside c.args.pieces.items c.in-Some.bounds c.corner-frame.result (of_all c.args.pieces.items c.deref.result.now c.box_of_all.result (Some c.in-Some.bounds) c.deref.ensures.value c.box_of_all.ensures c.in-Some.is) fits c.corner-frame.ensures
