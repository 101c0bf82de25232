use Rattle.std.proofs.Common.{rules}
use Rattle.planar.proofs.SpotWithin.{square_fits, square_decides, whole_from_zero}
use Rattle.planar.proofs.distance.spots_within.Goals as goal

pub overflow_mul-result : goal.overflow_mul-result
overflow_mul-result c = square_fits c.args.r c.requires.radius

pub returns : goal.returns
returns c = square_decides (search rules) (whole_from_zero c.args.o c.args.p) c.dot.ensures c.unsigned_abs.ensures.value
