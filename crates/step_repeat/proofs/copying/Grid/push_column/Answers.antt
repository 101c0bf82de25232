use Rattle.std.proofs.Common.{ℕ, List}
use Rattle.std.proofs.lemmas.Result.{err_from_is_err_and}
use Rattle.board_shapes.specs.Pieces.{PieceOf}
use Rattle.step_repeat.specs.Copies.{block_at, column_of, pieces_by}
use Rattle.step_repeat.proofs.Listing.{leaves_list, listed_more, placed_more}
use Rattle.step_repeat.proofs.Placing.{fails}
use Rattle.step_repeat.proofs.copying.Grid.push_column.Goals as goal

pub returns-in_err-push_block : goal.returns-in_err-push_block
returns-in_err-push_block g c =
    let p = err_from_is_err_and c.from_residual.result c.from_residual.ensures.1 in
    let f : ℕ → List (PieceOf _) = block_at g.F.Figure.handling c.args.self.now.repeat (pieces_by g.F.Figure.plain c.args.self.now.block.now) c.args.column in
    rw (p.1, p.2) (fails g.F.Figure.handling c.in_err-push_block.field-0.0 (pieces_by g.F.Figure.plain c.loop-row.copies.items) (pieces_by g.F.Figure.plain c.push_block.new.copies.items) (f c.loop-row.row) (pieces_by g.F.Figure.plain c.args.copies.now.items) (pieces_by g.F.Figure.plain c.push_block.new.copies.items) (column_of g.F.Figure.handling c.args.self.now.repeat (pieces_by g.F.Figure.plain c.args.self.now.block.now) c.args.column) c.in_err-push_block.ensures (λ h. leaves_list g.F.Figure.handling f c.loop-row.row c.args.self.now.repeat.up c.loop-row-test.true h))

pub loop-row-preserved : goal.loop-row-preserved
loop-row-preserved g c =
    let f : ℕ → List (PieceOf _) = block_at g.F.Figure.handling c.args.self.now.repeat (pieces_by g.F.Figure.plain c.args.self.now.block.now) c.args.column in
    record {
      listed = listed_more f c.loop-row.row (pieces_by g.F.Figure.plain c.args.copies.now.items) (pieces_by g.F.Figure.plain c.loop-row.copies.items) (pieces_by g.F.Figure.plain c.push_block.new.copies.items) c.loop-row.invariant.listed c.in_ok-push_block.ensures.0;
      placed = placed_more g.F.Figure.handling f c.loop-row.row c.loop-row.invariant.placed c.in_ok-push_block.ensures.1;
    }
