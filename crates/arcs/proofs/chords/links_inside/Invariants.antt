use Rattle.std.proofs.Common.{pos, drop, ◌↔◌}
use Rattle.planar.specs.Plane.{IsPlaced, EachFrom}
use Rattle.planar.specs.declared.Spot.{Spot}
use Rattle.arcs.specs.Chains.{IsInner}
use Rattle.arcs.proofs.chords.links_inside.Given as goal

abbrev pub invariant-loop-to : goal.invariant-loop-to
invariant-loop-to l =
    let inner : Spot → Spot → Type 0 = IsInner l.arc.centre l.arc.start l.arc.end (pos l.ring.0) (pos l.ring.1) in
    IsPlaced l.from × (EachFrom inner l.from (drop l.to-index l.rest) ↔ EachFrom inner l.fn.start l.rest)
