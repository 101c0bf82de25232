use Rattle.std.proofs.Common.{inl}
use Rattle.area_contact.specs.Contour.{edges_of}
use Rattle.area_contact.proofs.Areas.{first_decides, second_decides, capsule_shared, end_in, end_decides}
use Rattle.area_contact.proofs.meeting.touches_capsule.Goals as goal

pub returns-then-reaches : goal.returns-then-reaches
returns-then-reaches c = first_decides c.reaches.result c.if-reaches.true c.reaches.ensures (λ h. capsule_shared (edges_of c.args.area.now.points.items) c.args.capsule.now.a c.args.capsule.now.b c.args.capsule.now.r (inl h))

pub returns-else-reaches : goal.returns-else-reaches
returns-else-reaches c =
    second_decides c.reaches.result c.is_crossed.result c.if-reaches.false c.reaches.ensures c.is_crossed.ensures
    (λ h. end_in (edges_of c.args.area.now.points.items) c.args.capsule.now.a c.parts.result.0 c.args.capsule.now.b c.args.capsule.now.r c.parts.ensures.start h)
    (λ none h. end_decides c.args.area.now.points.items c.args.capsule.now.a c.parts.result.0 c.args.capsule.now.b c.args.capsule.now.r c.parts.ensures.start c.args.area.now.closed c.args.capsule.now.radius.0 none h)
