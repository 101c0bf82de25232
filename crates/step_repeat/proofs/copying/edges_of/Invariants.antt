use Rattle.std.proofs.Common.{◌≡◌, ◌*◌, ◌≤◌, take}
use Rattle.step_repeat.specs.Copies.{edges_by, pieces_by}
use Rattle.step_repeat.proofs.copying.edges_of.Given as goal

abbrev pub invariant-loop-piece : goal.invariant-loop-piece
invariant-loop-piece g l = record {
  sum : l.edges ≡ edges_by g.F.Figure.handling (pieces_by g.F.Figure.plain (take l.piece-index l.pieces));
  small : l.edges ≤ l.piece-index * 4294967295;
}
