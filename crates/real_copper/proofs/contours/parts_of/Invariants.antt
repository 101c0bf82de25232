use Rattle.std.proofs.Common.{◌≡◌, map, take}
use Rattle.regions.specs.Contours.{leg_of}
use Rattle.real_copper.specs.Contours.{part_of}
use Rattle.real_copper.proofs.contours.parts_of.Given as goal

abbrev pub invariant-loop-edge : goal.invariant-loop-edge
invariant-loop-edge l = l.parts.items ≡ map part_of (map leg_of (take l.edge-index l.fn.edges))
