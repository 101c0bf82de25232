use Rattle.std.proofs.Common.{◌≡◌, map, take, All}
use Rattle.planar.specs.Plane.{IsPlaced}
use Rattle.board_shapes.specs.Moved.{shifted}
use Rattle.board_shapes.proofs.moved.moved_points.Given as goal

abbrev pub invariant-loop-i : goal.invariant-loop-i
invariant-loop-i l = (l.points.items ≡ map (shifted l.fn.by.x l.fn.by.y) (take l.i l.fn.area.points.items)) × All IsPlaced l.points.items
