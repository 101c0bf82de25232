use Rattle.std.proofs.Common.{drop, ◌↔◌}
use Rattle.planar.specs.Plane.{IsPlaced, EachFrom}
use Rattle.slants.specs.Rounds.{on_way}
use Rattle.slants.specs.Turned.{AllLean}
use Rattle.slants.proofs.turned.each_leans.Given as goal

abbrev pub invariant-loop-to : goal.invariant-loop-to
invariant-loop-to l = IsPlaced l.from × (EachFrom (on_way l.back (AllLean l.figure l.m)) l.from (drop l.to-index l.rest) ↔ EachFrom (on_way l.back (AllLean l.figure l.m)) l.fn.start l.rest)
