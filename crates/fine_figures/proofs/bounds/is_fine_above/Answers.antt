use Rattle.board_shapes.specs.Figures.{figure_of}
use Rattle.fine_figures.proofs.Fine.{fine_above}
use Rattle.fine_figures.proofs.bounds.is_fine_above.Goals as goal

pub returns-clause-copper : goal.returns-clause-copper
returns-clause-copper c = λ yes p inside. fine_above c.args.fine.now (figure_of c.args.bound.now) p (c.is_outside.ensures.0 yes) inside
