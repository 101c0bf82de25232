use Rattle.std.proofs.Common.{drop, map, length, ◌≡◌, ◌≤◌, ◌↔◌}
use Rattle.board_shapes.specs.Figures.{figure_of}
use Rattle.clear_polarity.specs.Taken.{AreHeld, dark_figures}
use Rattle.clear_polarity.proofs.above.are_held.Given as goal

abbrev pub invariant-loop-object : goal.invariant-loop-object
invariant-loop-object l = (l.start ≤ length l.upper) × ((map figure_of (drop l.start l.upper) ≡ dark_figures (drop l.object-index l.objects)) ↔ AreHeld l.objects l.upper)
