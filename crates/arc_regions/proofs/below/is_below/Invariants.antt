use Rattle.std.proofs.Common.{false, drop, ◌↔◌}
use Rattle.planar.specs.Plane.{IsPlaced}
use Rattle.area_contact.specs.Contour.{first_of}
use Rattle.arc_regions.specs.Taken.{AreAround, all_chained}
use Rattle.arc_regions.proofs.below.is_below.Given as goal

abbrev pub invariant-loop-stretch : goal.invariant-loop-stretch
invariant-loop-stretch g l =
    IsPlaced l.from × (AreAround l.frame l.area.points.items l.fn.start (first_of l.area.points.items) l.odd l.from (all_chained (drop l.stretch-index l.stretches))
    ↔ AreAround l.frame l.area.points.items l.fn.start (first_of l.area.points.items) false l.fn.start (all_chained l.stretches))
