use Rattle.regions.specs.Contours.{leg_of, outline_of}
use Rattle.std.proofs.Common.{map}
use Rattle.real_copper.proofs.Edges.{closed_points, enough_points, placed_points}
use Rattle.real_copper.proofs.contours.straight_area.Goals as goal

pub area_of-requires-clause-closed : goal.area_of-requires-clause-closed
area_of-requires-clause-closed c =
    let are = rw c.deref.ensures.value at c.in_ok-points.ensures in
    closed_points c.args.contour.now.first (map leg_of c.args.contour.now.legs.items) c.in_ok-points.points.items are c.requires.closed.closed

pub area_of-requires-clause-placed : goal.area_of-requires-clause-placed
area_of-requires-clause-placed c =
    let are = rw c.deref.ensures.value at c.in_ok-points.ensures in
    placed_points c.args.contour.now.first c.args.contour.now.legs.items c.in_ok-points.points.items are c.args.contour.now.begun c.args.contour.now.placed

pub area_of-requires-clause-enough : goal.area_of-requires-clause-enough
area_of-requires-clause-enough c =
    let are = rw c.deref.ensures.value at c.in_ok-points.ensures in
    enough_points (outline_of c.args.contour.now) c.in_ok-points.points.items are c.requires.straight c.requires.closed.enough
