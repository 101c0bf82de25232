use Rattle.std.proofs.Common.{length}
use Rattle.cell_index.specs.Among.{TouchAmong}
use Rattle.cell_index.specs.Field.{IsNear}
use Rattle.cell_index.proofs.Whole.{wanted_listed}
use Rattle.cell_index.proofs.answers.CellsField.wanted_neighbours.Goals as goal

pub returns-clause-near : goal.returns-clause-near
returns-clause-near g c = wanted_listed (IsNear (length c.args.self.now.items.now) (TouchAmong g.S.Closed.holds c.args.self.now.items.now) c.args.i) (g.W.Wanted.wanted c.args.wanted.now) c.candidates.new.into.items c.keep_near.new.into.items (λ q asked near. c.in_ok-candidates.ensures.near q asked near) c.keep_near.ensures.near
