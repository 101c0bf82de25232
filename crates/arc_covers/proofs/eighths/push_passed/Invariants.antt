use Rattle.std.proofs.Common.{◌≡◌, ◌++◌, drop}
use Rattle.planar.specs.Plane.{IsPlaced}
use Rattle.arc_covers.specs.Eighths.{passed}
use Rattle.arc_covers.proofs.eighths.push_passed.Given as goal

abbrev pub invariant-loop-p : goal.invariant-loop-p
invariant-loop-p l = record {
  so : l.chain.items ++ passed l.draw.centre l.draw.end l.from (drop l.p-index l.spots) ≡ l.initial.chain.items ++ passed l.draw.centre l.draw.end l.draw.start l.spots;
  placed : IsPlaced l.from;
}
