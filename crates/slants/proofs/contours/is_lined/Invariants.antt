use Rattle.std.proofs.Common.{drop, ◌↔◌}
use Rattle.planar.specs.Plane.{IsPlaced, EachFrom}
use Rattle.slants.specs.Rounds.{IsFlat}
use Rattle.slants.proofs.contours.is_lined.Given as goal

abbrev pub invariant-loop-to : goal.invariant-loop-to
invariant-loop-to l = IsPlaced l.from × (EachFrom (IsFlat l.fn.start) l.from (drop l.to-index l.rest) ↔ EachFrom (IsFlat l.fn.start) l.fn.start l.rest)
