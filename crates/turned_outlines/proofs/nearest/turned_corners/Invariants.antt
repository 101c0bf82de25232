use Rattle.std.proofs.Common.{◌≡◌, ◌++◌, drop, map}
use Rattle.turned_outlines.specs.Nearest as spec
use Rattle.turned_outlines.proofs.nearest.turned_corners.Given as goal

abbrev pub invariant-loop-s : goal.invariant-loop-s
invariant-loop-s l = l.corners.items ++ map (spec.turned_corner l.d l.about) (drop l.s-index l.contour) ≡ spec.turned_corners l.contour l.about l.fn.angle
