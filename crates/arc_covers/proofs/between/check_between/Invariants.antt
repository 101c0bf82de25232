use Rattle.std.proofs.Common.{◌≡◌, take, sum}
use Rattle.board_shapes.specs.Pieces.{plain_pieces}
use Rattle.arc_covers.specs.Taken.{FirstTaken}
use Rattle.arc_covers.specs.declared.side.Side.TheVariants.{Above, Below}
use Rattle.arc_covers.proofs.between.check_between.Given as goal

abbrev pub invariant-loop-i : goal.invariant-loop-i
invariant-loop-i l = record {
  low : l.low ≡ sum (take l.i l.lower_counts);
  high : l.high ≡ sum (take l.i l.upper_counts);
  below : FirstTaken Below l.i l.real l.lower_counts (plain_pieces l.lower);
  above : FirstTaken Above l.i l.real l.upper_counts (plain_pieces l.upper);
}
