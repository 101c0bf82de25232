use Rattle.std.proofs.Common.{arith, codes}
use Rattle.xnc.proofs.Fronts.{front_long}
use Rattle.xnc.proofs.drill_lines.body_line.Goals as goal

pub slice_bounds-coordinates-count : goal.slice_bounds-coordinates-count
slice_bounds-coordinates-count c = let long = front_long c.begins-2.result c.args.text.now (codes "G00") c.begins-2.ensures c.if-begins-3.true in omega (arith, long)

pub slice_bounds-coordinates-start : goal.slice_bounds-coordinates-start
slice_bounds-coordinates-start c = let long = front_long c.begins-2.result c.args.text.now (codes "G00") c.begins-2.ensures c.if-begins-3.true in omega (arith, long)

pub slice_bounds-coordinates-end : goal.slice_bounds-coordinates-end
slice_bounds-coordinates-end c = let long = front_long c.begins-2.result c.args.text.now (codes "G00") c.begins-2.ensures c.if-begins-3.true in omega (arith, long)

pub slice_bounds-coordinates-count-then-begins-4 : goal.slice_bounds-coordinates-count-then-begins-4
slice_bounds-coordinates-count-then-begins-4 c = let long = front_long c.begins-3.result c.args.text.now (codes "G01") c.begins-3.ensures c.if-begins-4.true in omega (arith, long)

pub slice_bounds-coordinates-start-then-begins-4 : goal.slice_bounds-coordinates-start-then-begins-4
slice_bounds-coordinates-start-then-begins-4 c = let long = front_long c.begins-3.result c.args.text.now (codes "G01") c.begins-3.ensures c.if-begins-4.true in omega (arith, long)

pub slice_bounds-coordinates-end-then-begins-4 : goal.slice_bounds-coordinates-end-then-begins-4
slice_bounds-coordinates-end-then-begins-4 c = let long = front_long c.begins-3.result c.args.text.now (codes "G01") c.begins-3.ensures c.if-begins-4.true in omega (arith, long)
