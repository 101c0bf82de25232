use Rattle.std.proofs.Common.{rules}
use Rattle.turned_outlines.proofs.below.is_below_outline.Goals as goal

pub returns-clause-copper : goal.returns-clause-copper
returns-clause-copper g c = λ yes p held.
    c.outline_lies.ensures c.args.frame c.args.figure.now.contour.items c.args.figure.now.about c.args.figure.now.angle c.args.corners.now c.args.r c.args.area.now.points.items p
    (record { closed = c.args.area.now.closed; enough = c.args.area.now.enough; not_many = c.args.area.now.not_many; placed = c.args.area.now.placed })
    (record { stand = search rules; framed = search rules; clear = search rules; inside = search rules })
    held
