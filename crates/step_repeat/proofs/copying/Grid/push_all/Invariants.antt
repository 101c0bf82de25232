use Rattle.std.proofs.Common.{◌≡◌, ◌++◌, true}
use Rattle.std.specs.List.{flat_map, range_with_len}
use Rattle.step_repeat.specs.Copies.{are_placed, column_of, pieces_by}
use Rattle.step_repeat.proofs.copying.Grid.push_all.Given as goal

abbrev pub invariant-loop-column : goal.invariant-loop-column
invariant-loop-column g l = record {
  listed : pieces_by g.F.Figure.plain l.copies.items ≡ pieces_by g.F.Figure.plain l.initial.copies.items ++ flat_map (column_of g.F.Figure.handling l.self.repeat (pieces_by g.F.Figure.plain l.self.block.now)) (range_with_len 0 l.column);
  placed : are_placed g.F.Figure.handling (flat_map (column_of g.F.Figure.handling l.self.repeat (pieces_by g.F.Figure.plain l.self.block.now)) (range_with_len 0 l.column)) ≡ true;
}
