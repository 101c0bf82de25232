use Rattle.std.proofs.Common.{◌≡◌, ◌++◌, true, take}
use Rattle.step_repeat.specs.Copies.{are_placed, moved_block, pieces_by}
use Rattle.step_repeat.proofs.copying.push_pieces.Given as goal

abbrev pub invariant-loop-piece : goal.invariant-loop-piece
invariant-loop-piece g l = record {
  listed : pieces_by g.F.Figure.plain l.copies.items ≡ pieces_by g.F.Figure.plain l.initial.copies.items ++ moved_block g.F.Figure.handling l.by.x l.by.y l.by.copy (pieces_by g.F.Figure.plain (take l.piece-index l.block));
  placed : are_placed g.F.Figure.handling (moved_block g.F.Figure.handling l.by.x l.by.y l.by.copy (pieces_by g.F.Figure.plain (take l.piece-index l.block))) ≡ true;
}
