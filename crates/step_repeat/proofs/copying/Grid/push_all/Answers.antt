use Rattle.std.proofs.Common.{ℕ, List}
use Rattle.std.proofs.lemmas.Result.{err_from_is_err_and}
use Rattle.board_shapes.specs.Pieces.{PieceOf}
use Rattle.step_repeat.specs.Copies.{column_of, copies_of, pieces_by}
use Rattle.step_repeat.proofs.Listing.{leaves_list, listed_more, placed_more}
use Rattle.step_repeat.proofs.Placing.{fails}
use Rattle.step_repeat.proofs.copying.Grid.push_all.Goals as goal

pub returns-in_err-push_column : goal.returns-in_err-push_column
unfolding copies_of
returns-in_err-push_column g c =
    let p = err_from_is_err_and c.from_residual.result c.from_residual.ensures.1 in
    let f : ℕ → List (PieceOf _) = column_of g.F.Figure.handling c.args.self.now.repeat (pieces_by g.F.Figure.plain c.args.self.now.block.now) in
    rw (p.1, p.2) (fails g.F.Figure.handling c.in_err-push_column.field-0.0 (pieces_by g.F.Figure.plain c.loop-column.copies.items) (pieces_by g.F.Figure.plain c.push_column.new.copies.items) (f c.loop-column.column) (pieces_by g.F.Figure.plain c.args.copies.now.items) (pieces_by g.F.Figure.plain c.push_column.new.copies.items) (copies_of g.F.Figure.handling c.args.self.now.repeat (pieces_by g.F.Figure.plain c.args.self.now.block.now)) c.in_err-push_column.ensures (λ h. leaves_list g.F.Figure.handling f c.loop-column.column c.args.self.now.repeat.across c.loop-column-test.true h))

pub loop-column-preserved : goal.loop-column-preserved
loop-column-preserved g c =
    let f : ℕ → List (PieceOf _) = column_of g.F.Figure.handling c.args.self.now.repeat (pieces_by g.F.Figure.plain c.args.self.now.block.now) in
    record {
      listed = listed_more f c.loop-column.column (pieces_by g.F.Figure.plain c.args.copies.now.items) (pieces_by g.F.Figure.plain c.loop-column.copies.items) (pieces_by g.F.Figure.plain c.push_column.new.copies.items) c.loop-column.invariant.listed c.in_ok-push_column.ensures.0;
      placed = placed_more g.F.Figure.handling f c.loop-column.column c.loop-column.invariant.placed c.in_ok-push_column.ensures.1;
    }
