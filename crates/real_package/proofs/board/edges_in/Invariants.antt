use Rattle.std.proofs.Common.{◌≡◌, ◌*◌, ◌≤◌, take}
use Rattle.real_copper.specs.Shapes.{plain_reals}
use Rattle.real_package.specs.RealBoards.{edges_in}
use Rattle.real_package.proofs.board.edges_in.Given as goal

abbrev pub invariant-loop-piece : goal.invariant-loop-piece
invariant-loop-piece l = record {
  sum : l.edges ≡ edges_in (plain_reals (take l.piece-index l.pieces));
  small : l.edges ≤ l.piece-index * 4294967295;
}
