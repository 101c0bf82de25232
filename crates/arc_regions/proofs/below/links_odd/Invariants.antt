use Rattle.std.proofs.Common.{◌≡◌, drop, pos}
use Rattle.planar.specs.Plane.{IsPlaced}
use Rattle.planar.proofs.EdgeLaw.{xor}
use Rattle.area_contact.specs.Contour.{edges_from}
use Rattle.area_contact.specs.Parity.{odd}
use Rattle.arc_regions.proofs.below.links_odd.Given as goal

abbrev pub invariant-loop-to : goal.invariant-loop-to
invariant-loop-to l = IsPlaced l.from × (xor l.odd (odd (edges_from l.from (drop l.to-index l.rest)) l.p.x l.p.y (pos 1)) ≡ odd (edges_from l.fn.start l.rest) l.p.x l.p.y (pos 1))
