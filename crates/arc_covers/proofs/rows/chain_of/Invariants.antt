use Rattle.std.proofs.Common.{◌≡◌, ◌++◌, List, drop, pos, take}
use Rattle.planar.specs.declared.Spot.{Spot}
use Rattle.board_shapes.specs.Pieces.{plain_pieces}
use Rattle.arc_covers.specs.Bounds.{capsules_from, capsules_of, figures_of}
use Rattle.arc_covers.proofs.rows.chain_of.Given as goal

abbrev pub invariant-loop-piece : goal.invariant-loop-piece
invariant-loop-piece l = record {
  walked : (rest : List Spot) → capsules_of (l.chain.items ++ rest) (pos l.r) ≡ figures_of (plain_pieces (take l.piece-index l.pieces)) ++ capsules_from l.from rest (pos l.r);
  left : (rest : List Spot) → figures_of (plain_pieces l.pieces) ≡ capsules_from l.fn.start rest (pos l.r) → (tail : List Spot) × (figures_of (plain_pieces (drop l.piece-index l.pieces)) ≡ capsules_from l.from tail (pos l.r));
}
