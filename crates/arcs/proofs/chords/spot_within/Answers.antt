use Rattle.std.proofs.Common.{arith, rules}
use Rattle.std.proofs.lemmas.Int.{ints}
use Rattle.planar.specs.Plane.{dot_of}
use Rattle.planar.proofs.SpotWithin.{whole_from_zero}
use Rattle.arcs.proofs.Read.{within_read}
use Rattle.arcs.proofs.chords.spot_within.Goals as goal

pub returns : goal.returns
returns c = within_read c.unsigned_abs.result c.args.far c.dot.result (dot_of c.args.c c.args.a c.args.a) c.square_within.result c.dot.ensures (omega (arith, ints, c.dot.ensures, whole_from_zero c.args.c c.args.a)) (search rules) c.unsigned_abs.ensures.value c.square_within.ensures
