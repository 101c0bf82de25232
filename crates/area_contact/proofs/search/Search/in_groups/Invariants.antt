use Rattle.std.proofs.Common.{◌*◌, ◌↔◌, drop}
use Rattle.area_contact.specs.Bands.{edges_at}
use Rattle.area_contact.specs.Contour.{Reaches, SomeEdge}
use Rattle.area_contact.proofs.search.Search.in_groups.Given as goal

abbrev pub invariant-loop-k : goal.invariant-loop-k
invariant-loop-k l = SomeEdge (Reaches l.self.capsule.now.a l.self.capsule.now.b l.self.capsule.now.r) (edges_at l.self.points.now l.numbers) ↔ SomeEdge (Reaches l.self.capsule.now.a l.self.capsule.now.b l.self.capsule.now.r) (edges_at l.self.points.now (drop (1_024 * l.k) l.numbers))
