use Rattle.std.proofs.Common.{rules}
use Rattle.cell_index.specs.Stretched.{box_over}
use Rattle.cell_index.proofs.Stretching.{same_box}
use Rattle.cell_index.proofs.stretch.Stretch.bounds.Goals as goal

pub returns : goal.returns
returns c = same_box c.scaled.result c.scaled-2.result c.scaled-3.result c.scaled-4.result (box_over c.args.self.now c.args.b) (search rules) (search rules) (search rules) (search rules) (search rules) (search rules) (search rules) (search rules)
