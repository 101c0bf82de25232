use Rattle.std.proofs.Common.{arith}
use Rattle.std.proofs.lemmas.Result.{err_from_is_err_and}
use Rattle.board_shapes.specs.Moved.{shifted}
use Rattle.board_shapes.proofs.Shifts.{corner_placed, corner_leaves, one_more, placed_more, all_moved}
use Rattle.board_shapes.proofs.moved.moved_points.Goals as goal

pub moved_spot-requires-clause-placed : goal.moved_spot-requires-clause-placed
moved_spot-requires-clause-placed c = corner_placed c.args.area.now.points.items c.loop-i.i c.corner.result c.args.area.now.placed (omega arith) c.corner.ensures

pub returns-in_err-corner-clause-fault : goal.returns-in_err-corner-clause-fault
returns-in_err-corner-clause-fault c =
    let p = err_from_is_err_and c.from_residual.result c.from_residual.ensures.1 in
    rw (p.1, p.2) (corner_leaves c.args.by.x c.args.by.y c.args.area.now.points.items c.loop-i.i c.corner.result c.in_err-corner.field-0.0 (omega arith) c.corner.ensures c.in_err-corner.ensures.fault)

pub moved_spot-requires-2-clause-placed : goal.moved_spot-requires-2-clause-placed
moved_spot-requires-2-clause-placed c = corner_placed c.args.area.now.points.items 0 c.corner-2.result c.args.area.now.placed (omega arith) c.corner-2.ensures

pub returns-in_err-first-clause-fault : goal.returns-in_err-first-clause-fault
returns-in_err-first-clause-fault c =
    let p = err_from_is_err_and c.from_residual-in_err-first.result c.from_residual-in_err-first.ensures.1 in
    rw (p.1, p.2) (corner_leaves c.args.by.x c.args.by.y c.args.area.now.points.items 0 c.corner-2.result c.in_err-first.field-0.0 (omega arith) c.corner-2.ensures c.in_err-first.ensures.fault)

pub loop-i-preserved : goal.loop-i-preserved
loop-i-preserved c = (
  one_more (shifted c.args.by.x c.args.by.y) c.args.area.now.points.items c.loop-i.points.items c.push.new.self.items c.loop-i.i c.corner.result c.in_ok-corner.corner (omega arith) c.corner.ensures c.in_ok-corner.ensures.ok c.loop-i.invariant.0 c.in-Ok.ensures.items,
  placed_more c.loop-i.points.items c.push.new.self.items c.in_ok-corner.corner c.loop-i.invariant.1 c.in_ok-corner.ensures.placed c.in-Ok.ensures.items,
)

pub returns-clause-ok : goal.returns-clause-ok
returns-clause-ok c =
    all_moved (shifted c.args.by.x c.args.by.y) c.args.area.now.points.items c.loop-i.points.items c.push-2.new.self.items c.loop-i.i c.corner-2.result c.in_ok-first.first c.args.area.now.closed (omega arith) (omega arith) c.corner-2.ensures c.in_ok-first.ensures.ok c.loop-i.invariant.0 c.in-Ok-push.ensures.items
