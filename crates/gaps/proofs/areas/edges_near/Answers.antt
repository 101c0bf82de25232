use Rattle.std.proofs.Common.{pos}
use Rattle.gaps.proofs.Told.{edges_read, line_in_frame, rest_placed}
use Rattle.gaps.proofs.areas.edges_near.Goals as goal

pub lines_near-requires-clause-start_in_frame : goal.lines_near-requires-clause-start_in_frame
lines_near-requires-clause-start_in_frame c = (line_in_frame c.args.first.now.points.items c.line.result.0 c.line.result.1.now c.args.frame c.line.ensures c.requires.first_inside).0

pub lines_near-requires-clause-rest_in_frame : goal.lines_near-requires-clause-rest_in_frame
lines_near-requires-clause-rest_in_frame c = (line_in_frame c.args.first.now.points.items c.line.result.0 c.line.result.1.now c.args.frame c.line.ensures c.requires.first_inside).1

pub lines_near-requires-clause-others_placed : goal.lines_near-requires-clause-others_placed
lines_near-requires-clause-others_placed c = rest_placed c.args.second.now.points.items c.line-2.result.0 c.line-2.result.1.now c.line-2.ensures c.args.second.now.placed

pub lines_near-requires-clause-other_in_frame : goal.lines_near-requires-clause-other_in_frame
lines_near-requires-clause-other_in_frame c = (line_in_frame c.args.second.now.points.items c.line-2.result.0 c.line-2.result.1.now c.args.frame c.line-2.ensures c.requires.second_inside).0

pub lines_near-requires-clause-others_in_frame : goal.lines_near-requires-clause-others_in_frame
lines_near-requires-clause-others_in_frame c = (line_in_frame c.args.second.now.points.items c.line-2.result.0 c.line-2.result.1.now c.args.frame c.line-2.ensures c.requires.second_inside).1

pub returns : goal.returns
returns c =
    edges_read c.args.first.now.points.items c.line.result.0 c.line.result.1.now c.args.second.now.points.items c.line-2.result.0 c.line-2.result.1.now (pos c.args.reach) c.lines_near.result
    c.line.ensures c.line-2.ensures c.lines_near.ensures
