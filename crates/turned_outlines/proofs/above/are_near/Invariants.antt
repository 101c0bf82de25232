use Rattle.std.proofs.Common.{drop, ◌↔◌}
use Rattle.slants.specs.Discs.{DiscAbove}
use Rattle.turned_outlines.specs.Taken.{EachOfBoth, corner_of}
use Rattle.turned_outlines.proofs.above.are_near.Given as goal

abbrev pub invariant-loop-i : goal.invariant-loop-i
invariant-loop-i l = EachOfBoth (λ a b. DiscAbove (corner_of a l.about l.angle) b l.r) (drop l.i l.figure) (drop l.i l.corners) ↔ EachOfBoth (λ a b. DiscAbove (corner_of a l.about l.angle) b l.r) l.figure l.corners
