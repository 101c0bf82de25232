use Rattle.std.proofs.Common.{arith, codes}
use Rattle.xnc.proofs.Fronts.{front_long}
use Rattle.xnc.proofs.drill_lines.comment.Goals as goal

pub slice_bounds-file_function-count : goal.slice_bounds-file_function-count
slice_bounds-file_function-count c = let long = front_long c.begins.result c.args.text.now (codes "; #@! TF.FileFunction,") c.begins.ensures c.if-begins.true in omega (arith, long)

pub slice_bounds-file_function-start : goal.slice_bounds-file_function-start
slice_bounds-file_function-start c = let long = front_long c.begins.result c.args.text.now (codes "; #@! TF.FileFunction,") c.begins.ensures c.if-begins.true in omega (arith, long)

pub slice_bounds-file_function-end : goal.slice_bounds-file_function-end
slice_bounds-file_function-end c = let long = front_long c.begins.result c.args.text.now (codes "; #@! TF.FileFunction,") c.begins.ensures c.if-begins.true in omega (arith, long)
