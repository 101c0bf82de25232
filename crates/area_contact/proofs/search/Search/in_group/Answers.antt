use Rattle.area_contact.proofs.RunBoxes.{run_apart}
use Rattle.area_contact.proofs.search.Search.in_group.Goals as goal

pub returns-else-meet : goal.returns-else-meet
returns-else-meet c =
    run_apart c.args.self.now.points.now c.args.numbers.now c.args.about.now c.args.self.now.around c.args.self.now.capsule.now.a c.args.self.now.capsule.now.b c.args.self.now.capsule.now.r c.meet.result
    c.requires.about (c.args.self.now.capsule.now.start, c.args.self.now.capsule.now.end, c.args.self.now.capsule.now.radius) c.args.self.now.bounds c.if-meet.false c.meet.ensures
