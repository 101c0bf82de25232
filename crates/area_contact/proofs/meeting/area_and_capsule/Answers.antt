use Rattle.area_contact.proofs.Apart.{capsule_apart}
use Rattle.area_contact.proofs.meeting.area_and_capsule.Goals as goal

pub returns-else-meet : goal.returns-else-meet
returns-else-meet c =
    capsule_apart c.args.area.now.points.items c.args.capsule.now.a c.args.capsule.now.b c.args.capsule.now.r c.bounds.result c.bounds-2.result c.meet.result
    c.bounds.ensures.lawful c.bounds-2.ensures.lawful c.bounds.ensures.value c.bounds-2.ensures.value c.if-meet.false c.meet.ensures
