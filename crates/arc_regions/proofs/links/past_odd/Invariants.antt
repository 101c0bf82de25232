use Rattle.std.proofs.Common.{◌≡◌, drop}
use Rattle.planar.specs.Plane.{IsPlaced}
use Rattle.planar.proofs.EdgeLaw.{xor}
use Rattle.arc_regions.specs.Taken.{odd_past}
use Rattle.arc_regions.proofs.links.past_odd.Given as goal

abbrev pub invariant-loop-to : goal.invariant-loop-to
invariant-loop-to l = IsPlaced l.from × (xor l.odd (odd_past l.c l.s l.from (drop l.to-index l.rest)) ≡ odd_past l.c l.s l.fn.start l.rest)
