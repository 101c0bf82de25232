use Rattle.std.proofs.Common.{drop, map, length, ◌≡◌, ◌↔◌}
use Rattle.board_shapes.specs.Figures.{figure_of}
use Rattle.clear_polarity.proofs.above.are_same.Given as goal

abbrev pub invariant-loop-i : goal.invariant-loop-i
invariant-loop-i l = (length l.shapes ≡ length l.others) × ((map figure_of (drop l.i l.shapes) ≡ map figure_of (drop l.i l.others)) ↔ (map figure_of l.shapes ≡ map figure_of l.others))
