use Rattle.area_contact.specs.Contour.{edges_of}
use Rattle.area_contact.proofs.Areas.{first_decides, second_decides, edges_shared, first_shared, first_decides_areas}
use Rattle.area_contact.proofs.meeting.touches_area.Goals as goal

pub returns-then-meets_edges : goal.returns-then-meets_edges
returns-then-meets_edges c =
    first_decides c.meets_edges.result c.if-meets_edges.true c.meets_edges.ensures (λ h. edges_shared (edges_of c.args.first.now.points.items) (edges_of c.args.second.now.points.items) h)

pub returns-else-meets_edges : goal.returns-else-meets_edges
returns-else-meets_edges c =
    second_decides c.meets_edges.result c.is_around.result c.if-meets_edges.false c.meets_edges.ensures c.is_around.ensures
    (λ h. first_shared c.args.first.now.points.items c.args.second.now.points.items c.args.first.now.enough c.args.second.now.enough h)
    (λ none h. first_decides_areas c.args.first.now.points.items c.args.second.now.points.items c.args.first.now.closed c.args.second.now.closed none h)
