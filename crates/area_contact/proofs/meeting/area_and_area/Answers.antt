use Rattle.area_contact.proofs.Apart.{area_apart}
use Rattle.area_contact.proofs.meeting.area_and_area.Goals as goal

pub returns-else-meet : goal.returns-else-meet
returns-else-meet c =
    area_apart c.args.first.now.points.items c.args.second.now.points.items c.bounds.result c.bounds-2.result c.meet.result
    c.bounds.ensures.lawful c.bounds-2.ensures.lawful c.bounds.ensures.value c.bounds-2.ensures.value c.if-meet.false c.meet.ensures
