use Rattle.std.proofs.Common.{rules}
use Rattle.planar.specs.Plane.{dot_of}
use Rattle.planar.proofs.Read.{from_zero_read}
use Rattle.slants.proofs.below.is_ahead.Goals as goal

pub returns : goal.returns
returns c = from_zero_read c.dot.result (dot_of c.args.o c.args.a c.args.q) c.dot.ensures (search rules)
