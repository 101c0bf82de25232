use Rattle.std.proofs.Common.{get_or, refl, arith}
use Rattle.cell_index.specs.Among.{UnderAmong}
use Rattle.cell_index.proofs.Found.{first_is_least, none_is_least}
use Rattle.cell_index.proofs.cells.Cells.first_under.Goals as goal

pub returns-then-is_held-clause-least : goal.returns-then-is_held-clause-least
returns-then-is_held-clause-least g c = first_is_least (UnderAmong g.S.Closed.holds c.args.self.now.items.now c.args.at c.args.layer) c.args.list.now c.loop-k.k (get_or c.args.list.now c.loop-k.k 0) c.requires.rising c.loop-k-test.true refl c.loop-k.invariant (c.is_held.ensures.0 c.if-is_held.true)

pub returns-clause-least : goal.returns-clause-least
returns-clause-least g c = none_is_least (UnderAmong g.S.Closed.holds c.args.self.now.items.now c.args.at c.args.layer) c.args.list.now c.loop-k.k (omega arith) c.loop-k.invariant
