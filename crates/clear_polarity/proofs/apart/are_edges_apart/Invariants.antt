use Rattle.std.proofs.Common.{All, drop, ◌↔◌}
use Rattle.board_shapes.specs.Figures.{figure_of}
use Rattle.clear_polarity.specs.Taken.{AreApart, AreEdgesApart, edge_from}
use Rattle.planar.specs.Plane.{EachFrom, IsPlaced}
use Rattle.clear_polarity.proofs.apart.are_edges_apart.Given as goal

abbrev pub invariant-loop-to : goal.invariant-loop-to
invariant-loop-to l = IsPlaced l.from × All IsPlaced l.rest × (EachFrom (λ u v. AreApart l.frame (edge_from u v) (figure_of l.shape)) l.from (drop l.to-index l.rest) ↔ AreEdgesApart l.frame (figure_of l.shape) l.points)
