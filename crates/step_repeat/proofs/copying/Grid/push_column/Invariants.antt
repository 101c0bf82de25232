use Rattle.std.proofs.Common.{◌≡◌, ◌++◌, true}
use Rattle.std.specs.List.{flat_map, range_with_len}
use Rattle.step_repeat.specs.Copies.{are_placed, block_at, pieces_by}
use Rattle.step_repeat.proofs.copying.Grid.push_column.Given as goal

abbrev pub invariant-loop-row : goal.invariant-loop-row
invariant-loop-row g l = record {
  listed : pieces_by g.F.Figure.plain l.copies.items ≡ pieces_by g.F.Figure.plain l.initial.copies.items ++ flat_map (block_at g.F.Figure.handling l.self.repeat (pieces_by g.F.Figure.plain l.self.block.now) l.column) (range_with_len 0 l.row);
  placed : are_placed g.F.Figure.handling (flat_map (block_at g.F.Figure.handling l.self.repeat (pieces_by g.F.Figure.plain l.self.block.now) l.column) (range_with_len 0 l.row)) ≡ true;
}
