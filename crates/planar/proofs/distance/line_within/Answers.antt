use Rattle.std.proofs.Common.{arith, refl, rules}
use Rattle.std.proofs.lemmas.Int.{ints}
use Rattle.planar.proofs.SpotWithin.{reach_fits, far_decides}
use Rattle.planar.proofs.distance.line_within.Goals as goal

pub returns-then-far : goal.returns-then-far
returns-then-far c = far_decides c.args.off c.args.whole c.args.r c.unsigned_abs-off.result _ refl (search rules) c.unsigned_abs-off.ensures.value (omega (arith, ints)) c.requires.radius c.requires.whole_small

pub overflow_mul-result-3 : goal.overflow_mul-result-3
overflow_mul-result-3 c = reach_fits c.args.r c.unsigned_abs.result c.requires.radius (omega (arith, ints))
