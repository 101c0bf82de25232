use Rattle.std.proofs.Common.{◌≡◌, ◌↔◌, drop, pos}
use Rattle.board_shapes.specs.Pieces.{plain_pieces}
use Rattle.arc_covers.specs.Bounds.{capsules_from, figures_of}
use Rattle.arc_covers.proofs.regions.are_links.Given as goal

abbrev pub invariant-loop-i : goal.invariant-loop-i
invariant-loop-i l = (figures_of (plain_pieces (drop l.i l.pieces)) ≡ capsules_from l.from (drop l.i l.rest) (pos l.r)) ↔ (figures_of (plain_pieces l.pieces) ≡ capsules_from l.fn.start l.rest (pos l.r))
