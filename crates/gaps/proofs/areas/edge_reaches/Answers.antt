use Rattle.gaps.proofs.Told.{line_in_frame}
use Rattle.gaps.proofs.areas.edge_reaches.Goals as goal

pub line_reaches-requires-clause-start_in_frame : goal.line_reaches-requires-clause-start_in_frame
line_reaches-requires-clause-start_in_frame c = (line_in_frame c.args.area.now.points.items c.line.result.0 c.line.result.1.now c.args.frame c.line.ensures c.requires.inside).0

pub line_reaches-requires-clause-rest_in_frame : goal.line_reaches-requires-clause-rest_in_frame
line_reaches-requires-clause-rest_in_frame c = (line_in_frame c.args.area.now.points.items c.line.result.0 c.line.result.1.now c.args.frame c.line.ensures c.requires.inside).1
