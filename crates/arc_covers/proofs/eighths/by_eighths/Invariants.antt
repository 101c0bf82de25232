use Rattle.std.proofs.Common.{◌≡◌, ◌++◌, drop}
use Rattle.planar.specs.Plane.{IsPlaced}
use Rattle.arc_regions.specs.Taken.{all_chained}
use Rattle.arc_covers.specs.Eighths as spec
use Rattle.arc_covers.proofs.eighths.by_eighths.Given as goal

abbrev pub invariant-loop-part : goal.invariant-loop-part
invariant-loop-part l = record {
  so : all_chained l.all.items ++ spec.by_eighths l.from (drop l.part-index l.parts) ≡ spec.by_eighths l.fn.start l.parts;
  placed : IsPlaced l.from;
}
