use Rattle.arc_covers.proofs.Outlined.{reached}
use Rattle.arc_covers.proofs.outlines.lies.Goals as goal

pub returns-then-not-is_reached : goal.returns-then-not-is_reached
returns-then-not-is_reached c = (
  λ yes. absurd (let f = yes in cc),
  λ h.
      let t = c.is_reached.ensures.1 (reached c.args.figure.now.contour.items c.args.figure.now.about c.args.figure.now.angle c.args.area.now.points.items h) in
      let f = c.if-not-is_reached.true in
      absurd cc,
)
