use Rattle.std.proofs.Common.{◌≡◌, drop}
use Rattle.board_shapes.specs.Pieces.{plain_pieces}
use Rattle.gerber_layer.specs.Radii.{radii_after, radii_of}
use Rattle.gerber_layer.specs.MacroReader.{radii_in}
use Rattle.gerber_layer.proofs.radii.Radii.of.Given as goal

-- the radii so far, with those of the pieces that remain, are all
abbrev pub invariant-loop-piece : goal.invariant-loop-piece
invariant-loop-piece l = radii_after (radii_in l.radii) (plain_pieces (drop l.piece-index l.pieces)) ≡ radii_of (plain_pieces l.pieces)
