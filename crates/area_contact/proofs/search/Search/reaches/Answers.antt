use Rattle.std.proofs.Common.{pos}
use Rattle.area_contact.proofs.Apart.{edge_apart, edge_lawful}
use Rattle.area_contact.proofs.search.Search.reaches.Goals as goal

pub returns-else-meet : goal.returns-else-meet
returns-else-meet c =
    edge_apart c.args.start c.args.end (pos 0) c.args.self.now.capsule.now.a c.args.self.now.capsule.now.b c.args.self.now.capsule.now.r c.segment_box.result c.args.self.now.around c.meet.result (edge_lawful c.args.start c.args.end c.requires.0.0 c.requires.1.0)
    (c.args.self.now.capsule.now.start, c.args.self.now.capsule.now.end, c.args.self.now.capsule.now.radius) c.segment_box.ensures c.args.self.now.bounds c.if-meet.false c.meet.ensures
