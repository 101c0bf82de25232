use Rattle.std.proofs.Common.{All, drop, ◌↔◌}
use Rattle.clear_polarity.specs.Taken.{IsLeft}
use Rattle.clear_polarity.proofs.below.are_left.Given as goal

abbrev pub invariant-loop-piece : goal.invariant-loop-piece
invariant-loop-piece l = All (IsLeft l.frame l.objects) (drop l.piece-index l.pieces) ↔ All (IsLeft l.frame l.objects) l.pieces
