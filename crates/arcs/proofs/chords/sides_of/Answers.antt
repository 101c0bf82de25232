use Rattle.std.proofs.Common.{rules}
use Rattle.planar.specs.Plane.{cross_of}
use Rattle.planar.proofs.Read.{from_zero_read}
use Rattle.arcs.proofs.Read.{to_zero_read}
use Rattle.arcs.proofs.chords.sides_of.Goals as goal

pub returns-clause-left : goal.returns-clause-left
returns-clause-left c = from_zero_read c.cross.result (cross_of c.args.arc.now.centre c.args.arc.now.start c.args.a) c.cross.ensures (search rules)

pub returns-clause-right : goal.returns-clause-right
returns-clause-right c = to_zero_read c.cross-2.result (cross_of c.args.arc.now.centre c.args.arc.now.end c.args.a) c.cross-2.ensures (search rules)
