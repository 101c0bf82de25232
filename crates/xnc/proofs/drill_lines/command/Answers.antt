use Rattle.std.proofs.Common.{arith, codes}
use Rattle.xnc.proofs.Fronts.{front_long}
use Rattle.xnc.proofs.drill_lines.command.Goals as goal

pub slice_bounds-tool_line-count : goal.slice_bounds-tool_line-count
slice_bounds-tool_line-count c = let long = front_long c.begins.result c.args.text.now (codes "T") c.begins.ensures c.if-begins.true in omega (arith, long)

pub slice_bounds-tool_line-start : goal.slice_bounds-tool_line-start
slice_bounds-tool_line-start c = let long = front_long c.begins.result c.args.text.now (codes "T") c.begins.ensures c.if-begins.true in omega (arith, long)

pub slice_bounds-tool_line-end : goal.slice_bounds-tool_line-end
slice_bounds-tool_line-end c = let long = front_long c.begins.result c.args.text.now (codes "T") c.begins.ensures c.if-begins.true in omega (arith, long)
