use Rattle.std.proofs.Common.{length}
use Rattle.cell_index.specs.Among.{TouchAmong}
use Rattle.cell_index.specs.Field.{IsNear}
use Rattle.cell_index.proofs.Whole.{all_listed}
use Rattle.cell_index.proofs.answers.CellsField.neighbours.Goals as goal

pub returns-clause-near : goal.returns-clause-near
returns-clause-near g c = all_listed (IsNear (length c.args.self.now.items.now) (TouchAmong g.S.Closed.holds c.args.self.now.items.now) c.args.i) c.wanted_neighbours.new.into.items c.in_ok-wanted_neighbours.ensures.near
