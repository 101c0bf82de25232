use Rattle.std.proofs.Common.{◌≡◌, ◌*◌, ◌≤◌, take}
use Rattle.board_shapes.specs.Pieces.{edges_in, plain_pieces}
use Rattle.board_shapes.proofs.edges.edges_in.Given as goal

abbrev pub invariant-loop-piece : goal.invariant-loop-piece
invariant-loop-piece l = record {
  sum : l.edges ≡ edges_in (plain_pieces (take l.piece-index l.pieces));
  small : l.edges ≤ l.piece-index * 4294967295;
}
