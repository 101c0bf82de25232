use Rattle.std.proofs.Common.{pos, drop, ◌↔◌}
use Rattle.planar.specs.Plane.{IsPlaced, EachFrom}
use Rattle.planar.specs.declared.Spot.{Spot}
use Rattle.arcs.specs.Chains.{EndsAt, IsLink}
use Rattle.arcs.proofs.chords.links_round.Given as goal

abbrev pub invariant-loop-to : goal.invariant-loop-to
invariant-loop-to l =
    let link : Spot → Spot → Type 0 = IsLink l.arc.centre (pos l.ring.0) (pos l.ring.1) in
    IsPlaced l.from × (EachFrom link l.from (drop l.to-index l.rest) ↔ EachFrom link l.fn.start l.rest) × (EndsAt l.arc.end l.from (drop l.to-index l.rest) ↔ EndsAt l.arc.end l.fn.start l.rest)
