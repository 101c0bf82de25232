use Rattle.std.proofs.Common.{rules, arith}
use Rattle.std.proofs.lemmas.Int.{ints}
use Rattle.planar.specs.Plane.{cross_of}
use Rattle.slants.proofs.Read.{off_read}
use Rattle.slants.proofs.above.is_off.Goals as goal

pub returns-then-off-ge0 : goal.returns-then-off-ge0
returns-then-off-ge0 c = off_read c.unsigned_abs.result c.args.least c.args.root c.cross-off.result (cross_of c.args.b c.args.c c.args.q) c.is_over.result c.cross-off.ensures (omega (arith, ints)) (search rules) c.unsigned_abs.ensures.value c.is_over.ensures
