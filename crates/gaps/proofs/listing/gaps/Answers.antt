use Rattle.std.proofs.Common.{◌≡◌, ℤ, pos, ◌*◌, ◌+ℤ◌, List, All, ap, sym, subst, ◌∙◌}
use Rattle.planar.specs.declared.Frame.{Frame}
use Rattle.contact.specs.Solid.{IsInside}
use Rattle.board_shapes.specs.CommonBox.{Fits, frame_over}
use Rattle.board_shapes.specs.Pieces.{PlainPiece}
use Rattle.board_shapes.specs.Plain.{PlainBoard, plain_board}
use Rattle.verdict.specs.declared.verdict.Twig.{Twig}
use Rattle.gaps.specs.Gaps.{AreGaps, CloseAt}
use Rattle.gaps.specs.GrownBox.{grown_box, grown_common}
use Rattle.gaps.proofs.Bridge.{twice_half}
use Rattle.gaps.proofs.Frames.{all_grown}
use Rattle.gaps.proofs.listing.gaps.Goals as goal

pub gaps_in-requires-clause-inside : goal.gaps_in-requires-clause-inside
gaps_in-requires-clause-inside c =
    let b : PlainBoard = plain_board c.args.board.now in
    let g : ℤ = pos (5 * c.args.nanometres) in
    let same : c.common.result ≡ grown_common (pos (5 * c.args.nanometres)) b.pieces = c.common.ensures ∙ ap (λ (ps : List PlainPiece). grown_common (pos (5 * c.args.nanometres)) ps) c.pieces.ensures.plain in
    let fits : Fits (grown_common (pos (5 * c.args.nanometres)) b.pieces) = subst Fits same c.in_ok-frame.ensures.fits in
    subst (λ (f : Frame). All (λ p. IsInside (grown_box (pos (5 * c.args.nanometres)) p) f) b.pieces) (sym (c.in_ok-frame.ensures.frame ∙ ap frame_over same)) (all_grown (pos (5 * c.args.nanometres)) b.pieces fits)

pub returns-clause-list : goal.returns-clause-list
returns-clause-list c =
    let b : PlainBoard = plain_board c.args.board.now in
    subst (λ (z : ℤ). AreGaps (CloseAt b z) c.args.nets.now c.in_ok-list.list) (twice_half c.args.nanometres)
    (subst (λ (ns : List (List Twig)). AreGaps (CloseAt b (pos (5 * c.args.nanometres) +ℤ pos (5 * c.args.nanometres))) ns c.in_ok-list.list) c.as_slice.ensures c.in_ok-list.ensures)
