use Rattle.std.proofs.Common.{arith, rules}
use Rattle.std.proofs.lemmas.Int.{ints}
use Rattle.planar.specs.Plane.{dot_of}
use Rattle.planar.proofs.SpotWithin.{whole_from_zero}
use Rattle.arcs.proofs.Read.{abs_is}
use Rattle.arcs.proofs.Reaching.{reachable, small_abs}
use Rattle.arcs.proofs.rings.square_of.Goals as goal

pub returns-clause-value : goal.returns-clause-value
returns-clause-value c = abs_is c.unsigned_abs.result c.dot.result (dot_of c.args.a c.args.b c.args.b) c.dot.ensures (omega (arith, ints, c.dot.ensures, whole_from_zero c.args.a c.args.b)) (search rules) c.unsigned_abs.ensures.value

pub dot-requires-clause-o_reachable : goal.dot-requires-clause-o_reachable
dot-requires-clause-o_reachable c = reachable c.args.a c.requires.a_placed

pub returns-clause-small : goal.returns-clause-small
returns-clause-small c = small_abs c.unsigned_abs.result c.dot.result (dot_of c.args.a c.args.b c.args.b) c.dot.ensures (whole_from_zero c.args.a c.args.b) (search rules) c.unsigned_abs.ensures.value
