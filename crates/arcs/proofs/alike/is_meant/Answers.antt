use Rattle.std.proofs.Common.{rules}
use Rattle.arcs.specs.Copper.{apart, swing, unlike}
use Rattle.arcs.proofs.Read.{meant_read}
use Rattle.arcs.proofs.alike.is_meant.Goals as goal

pub returns : goal.returns
returns c = meant_read c.unlike_of.result c.square_of.result c.unsigned_abs.result c.cross-swing.result (swing c.args.arc.now) (unlike c.args.arc.now) (apart c.args.arc.now) c.are_alike.result c.cross-swing.ensures (search rules) c.unsigned_abs.ensures.value c.unlike_of.ensures c.square_of.ensures.value c.are_alike.ensures
