use Rattle.std.proofs.Common.{drop, pos, ◌↔◌}
use Rattle.planar.specs.Plane.{IsPlaced, EachFrom}
use Rattle.slants.specs.Rounds.{on_way}
use Rattle.slants.specs.Taken.{Keeps}
use Rattle.slants.proofs.above.each_keeps.Given as goal

abbrev pub invariant-loop-to : goal.invariant-loop-to
invariant-loop-to l = IsPlaced l.from × (EachFrom (on_way l.back (Keeps l.slant (pos l.root))) l.from (drop l.to-index l.rest) ↔ EachFrom (on_way l.back (Keeps l.slant (pos l.root))) l.fn.start l.rest)
