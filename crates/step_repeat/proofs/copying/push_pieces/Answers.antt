use Rattle.std.proofs.Common.{[], ◌∷◌}
use Rattle.std.proofs.lemmas.Result.{err_from_is_err_and}
use Rattle.step_repeat.specs.Copies.{moved_block, piece_by, pieces_by, shifted_piece}
use Rattle.step_repeat.proofs.Placing.{block_leaves, fails}
use Rattle.step_repeat.proofs.copying.push_pieces.Goals as goal

pub returns-in_err-push_moved : goal.returns-in_err-push_moved
returns-in_err-push_moved g c =
    let p = err_from_is_err_and c.from_residual.result c.from_residual.ensures.1 in
    let by = c.args.by in
    rw (p.1, p.2) (fails g.F.Figure.handling c.in_err-push_moved.field-0.0 (pieces_by g.F.Figure.plain c.loop-piece.copies.items) (pieces_by g.F.Figure.plain c.push_moved.new.copies.items) (shifted_piece g.F.Figure.handling by.x by.y by.copy (piece_by g.F.Figure.plain c.piece-item.result) ∷ []) (pieces_by g.F.Figure.plain c.args.copies.now.items) (pieces_by g.F.Figure.plain c.push_moved.new.copies.items) (moved_block g.F.Figure.handling by.x by.y by.copy (pieces_by g.F.Figure.plain c.args.block.now)) c.in_err-push_moved.ensures (λ h. block_leaves g.F.Figure.plain g.F.Figure.handling by.x by.y by.copy c.args.block.now c.loop-piece.piece-index c.piece-item.result c.loop-piece-test.true c.piece-item.is h))
