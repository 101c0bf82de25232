use Rattle.std.proofs.Common.{◌≡◌, drop, pos}
use Rattle.board_shapes.specs.Pieces.{plain_pieces}
use Rattle.gaps.specs.GrownBox.{grown_around}
use Rattle.gaps.proofs.grown_box.around.Given as goal

abbrev pub invariant-loop-piece : goal.invariant-loop-piece
invariant-loop-piece l = grown_around (pos l.grow) l.all (plain_pieces (drop l.piece-index l.pieces)) ≡ grown_around (pos l.grow) l.initial.all (plain_pieces l.pieces)
