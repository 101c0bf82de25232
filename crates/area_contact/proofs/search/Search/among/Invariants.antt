use Rattle.std.proofs.Common.{◌↔◌, drop}
use Rattle.area_contact.specs.Bands.{edges_at}
use Rattle.area_contact.specs.Contour.{Reaches, SomeEdge}
use Rattle.area_contact.proofs.search.Search.among.Given as goal

abbrev pub invariant-loop-number : goal.invariant-loop-number
invariant-loop-number l = SomeEdge (Reaches l.self.capsule.now.a l.self.capsule.now.b l.self.capsule.now.r) (edges_at l.self.points.now l.numbers) ↔ SomeEdge (Reaches l.self.capsule.now.a l.self.capsule.now.b l.self.capsule.now.r) (edges_at l.self.points.now (drop l.number-index l.numbers))
