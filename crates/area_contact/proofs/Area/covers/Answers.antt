use Rattle.std.proofs.Common.{inr}
use Rattle.area_contact.specs.Contour.{edges_of}
use Rattle.area_contact.proofs.Areas.{first_decides, second_decides, spot_on, spot_off}
use Rattle.area_contact.proofs.Area.covers.Goals as goal

pub returns-then-meets_segment : goal.returns-then-meets_segment
returns-then-meets_segment c = first_decides c.meets_segment.result c.if-meets_segment.true c.meets_segment.ensures (λ h. spot_on (edges_of c.args.self.now.points.items) c.args.p h)

pub returns-else-meets_segment : goal.returns-else-meets_segment
returns-else-meets_segment c =
    second_decides c.meets_segment.result c.is_crossed.result c.if-meets_segment.false c.meets_segment.ensures c.is_crossed.ensures (λ h. inr h) (λ none h. spot_off (edges_of c.args.self.now.points.items) c.args.p none h)
