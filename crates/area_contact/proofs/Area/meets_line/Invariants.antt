use Rattle.std.proofs.Common.{pos, ◌↔◌, drop}
use Rattle.area_contact.specs.Contour.{Reaches, SomeEdge, edges_from, edges_of}
use Rattle.planar.specs.Plane.{IsInFrame, IsPlaced}
use Rattle.area_contact.proofs.Area.meets_line.Given as goal

abbrev pub invariant-loop-end : goal.invariant-loop-end
invariant-loop-end l =
    IsPlaced l.from × IsInFrame l.frame l.from ×
    (SomeEdge (λ e. SomeEdge (Reaches e.start e.end (pos 0)) (edges_of l.self.points.items)) (edges_from l.fn.start l.rest)
    ↔ SomeEdge (λ e. SomeEdge (Reaches e.start e.end (pos 0)) (edges_of l.self.points.items)) (edges_from l.from (drop l.end-index l.rest)))
