use Rattle.std.proofs.Common.{All, take}
use Rattle.slants.specs.Polygons.{CornersLean}
use Rattle.slants.proofs.polygons.all_corners_lean.Given as goal

abbrev pub invariant-loop-g : goal.invariant-loop-g
invariant-loop-g l = All (λ g. CornersLean g l.b l.c) (take l.g-index l.gs)
