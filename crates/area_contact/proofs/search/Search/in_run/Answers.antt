use Rattle.std.proofs.Common.{ℕ, ◌*◌, ◌↔◌, IsTrue, List, drop, subst, take}
use Rattle.area_contact.specs.Bands.{edges_at}
use Rattle.area_contact.specs.Contour.{Reaches, SomeEdge}
use Rattle.area_contact.proofs.RunBoxes.{run_apart, run_edges}
use Rattle.area_contact.proofs.search.Search.in_run.Goals as goal

pub returns-else-meet : goal.returns-else-meet
returns-else-meet c =
    run_apart c.args.self.now.points.now (take 16 (drop (16 * c.args.k) c.args.numbers.now)) c.args.about.now c.args.self.now.around c.args.self.now.capsule.now.a c.args.self.now.capsule.now.b c.args.self.now.capsule.now.r c.meet.result
    c.requires.about (c.args.self.now.capsule.now.start, c.args.self.now.capsule.now.end, c.args.self.now.capsule.now.radius) c.args.self.now.bounds c.if-meet.false c.meet.ensures

pub among-requires : goal.among-requires
among-requires c = run_edges c.args.self.now.points.now c.args.numbers.now c.part.result.now 16 c.args.k c.part.ensures c.requires.edges

pub returns-then-meet : goal.returns-then-meet
returns-then-meet c = subst (λ (ns : List ℕ). IsTrue c.among.result ↔ SomeEdge (Reaches c.args.self.now.capsule.now.a c.args.self.now.capsule.now.b c.args.self.now.capsule.now.r) (edges_at c.args.self.now.points.now ns)) c.part.ensures c.among.ensures
