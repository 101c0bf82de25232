-- Every board keeps what its type says.
use Rattle.std.proofs.Common.{All, subst, slice_index_or}
use Rattle.std.proofs.lemmas.List.{length-map}
use Rattle.std.proofs.lemmas.List.Elements.{All-map}
use Rattle.contact.specs.Solid.{IsInside}
use Rattle.planar.specs.declared.Frame.{Frame}
use Rattle.board_shapes.specs.declared.board.Board.{Board}
use Rattle.board_shapes.specs.Figures.{IsLawfulFigure, figure_box}
use Rattle.board_shapes.specs.Lawful.{IsSpan, IsInsideFrame}
use Rattle.board_shapes.specs.LawfulBoard.{IsLawfulBoard}
use Rattle.board_shapes.specs.Plain.{plain_board, plain_piece, frame_of}
use Rattle.board_shapes.specs.Shapes.{lawful}

pub board_is_lawful : (b : Board) → IsLawfulBoard (plain_board b)
board_is_lawful b = record {
  few_pieces = simp length-map (b.few_pieces);
  few_probes = b.few_probes;
  few_names = b.few_names;
  figures = All-map (λ p. IsLawfulFigure p.figure) plain_piece b.pieces.items (λ k d h. lawful (slice_index_or b.pieces.items k d).shape);
  inside = All-map (λ p. IsInside (figure_box p.figure) (frame_of (plain_board b))) plain_piece b.pieces.items (subst (λ (f : Frame). All (IsInsideFrame f) b.pieces.items) b.corner b.inside);
  spans = All-map (λ p. IsSpan b.layers p.top p.bottom) plain_piece b.pieces.items b.spans;
  known = b.known;
}
