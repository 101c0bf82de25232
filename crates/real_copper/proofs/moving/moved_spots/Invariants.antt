use Rattle.std.proofs.Common.{◌≡◌, map, take}
use Rattle.board_shapes.specs.Moved.{shifted}
use Rattle.real_copper.proofs.moving.moved_spots.Given as goal

abbrev pub invariant-loop-spot : goal.invariant-loop-spot
invariant-loop-spot l = l.made.items ≡ map (shifted l.fn.by.x l.fn.by.y) (take l.spot-index l.fn.spots)
