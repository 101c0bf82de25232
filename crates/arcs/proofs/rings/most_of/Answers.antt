use Rattle.std.proofs.Common.{arith}
use Rattle.arcs.specs.Copper.{greater, spread}
use Rattle.arcs.proofs.Roots.{root_some}
use Rattle.arcs.proofs.rings.most_of.Goals as goal

pub returns-in-Some : goal.returns-in-Some
returns-in-Some c = root_some c.in-Some.square c.squares_of.result.1 c.args.more c.root_up.result (greater c.args.arc.now) (spread c.args.arc.now) c.squares_of.ensures.far c.requires.is c.in-Some.ensures.1 (omega (arith, c.in-Some.ensures.0, c.in-Some.ensures.1)) c.root_up.ensures.over c.root_up.ensures.least
