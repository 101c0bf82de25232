use Rattle.std.proofs.Common.{drop, ◌↔◌}
use Rattle.planar.specs.Plane.{IsPlaced, EachFrom}
use Rattle.slants.specs.Polygons.{AllCornersLean}
use Rattle.slants.specs.Rounds.{on_way}
use Rattle.slants.proofs.polygons.each_has_corners.Given as goal

abbrev pub invariant-loop-to : goal.invariant-loop-to
invariant-loop-to l = IsPlaced l.from × (EachFrom (on_way l.back (AllCornersLean l.gs)) l.from (drop l.to-index l.rest) ↔ EachFrom (on_way l.back (AllCornersLean l.gs)) l.fn.start l.rest)
