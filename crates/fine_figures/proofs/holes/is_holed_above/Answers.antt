use Rattle.board_shapes.specs.Figures.{figure_of}
use Rattle.fine_figures.proofs.Pierced.{holed_above}
use Rattle.fine_figures.proofs.holes.is_holed_above.Goals as goal

pub returns-clause-copper : goal.returns-clause-copper
returns-clause-copper c = λ yes p inside. holed_above c.args.holed.now (figure_of c.args.bound.now) p (c.is_fine_above.ensures.taken.0 yes) inside
