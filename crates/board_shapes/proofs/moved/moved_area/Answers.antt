use Rattle.std.proofs.Common.{arith, subst, sym}
use Rattle.area_contact.specs.Contour.{IsClosed}
use Rattle.board_shapes.specs.Moved.{shifted}
use Rattle.board_shapes.proofs.Shifts.{as_many, map_closed}
use Rattle.board_shapes.proofs.moved.moved_area.Goals as goal

pub area_of-requires-clause-closed : goal.area_of-requires-clause-closed
area_of-requires-clause-closed c =
    subst IsClosed (sym c.in_ok-points.ensures.ok) (map_closed (shifted c.args.by.x c.args.by.y) c.args.area.now.points.items c.args.area.now.closed)

pub area_of-requires-clause-enough : goal.area_of-requires-clause-enough
area_of-requires-clause-enough c =
    let same = as_many (shifted c.args.by.x c.args.by.y) c.args.area.now.points.items c.in_ok-points.points.items c.in_ok-points.ensures.ok in
    omega (arith, same, c.args.area.now.enough)

pub area_of-requires-clause-not_many : goal.area_of-requires-clause-not_many
area_of-requires-clause-not_many c =
    let same = as_many (shifted c.args.by.x c.args.by.y) c.args.area.now.points.items c.in_ok-points.points.items c.in_ok-points.ensures.ok in
    omega (arith, same, c.args.area.now.not_many)
