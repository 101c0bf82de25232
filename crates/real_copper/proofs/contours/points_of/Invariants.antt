use Rattle.std.proofs.Common.{◌≡◌, ◌∷◌, map, take}
use Rattle.regions.specs.Contours.{leg_of}
use Rattle.real_copper.specs.Contours.{end_of_edge}
use Rattle.real_copper.proofs.contours.points_of.Given as goal

abbrev pub invariant-loop-edge : goal.invariant-loop-edge
invariant-loop-edge l = l.points.items ≡ l.fn.first ∷ map end_of_edge (map leg_of (take l.edge-index l.fn.edges))
