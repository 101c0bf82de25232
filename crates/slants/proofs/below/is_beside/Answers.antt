use Rattle.std.proofs.Common.{rules}
use Rattle.planar.specs.Plane.{cross_of}
use Rattle.slants.specs.Taken.{band}
use Rattle.slants.proofs.Read.{beside_read}
use Rattle.slants.proofs.below.is_beside.Goals as goal

pub returns : goal.returns
returns c = beside_read c.unsigned_abs.result c.args.most c.cross.result (cross_of c.args.slant.now.start c.args.slant.now.end c.args.q) (band c.args.slant.now) c.is_within.result c.cross.ensures (search rules) c.unsigned_abs.ensures.value c.requires.is c.is_within.ensures
