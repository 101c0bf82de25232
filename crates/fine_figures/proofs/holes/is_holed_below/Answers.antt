use Rattle.board_shapes.specs.Figures.{figure_of}
use Rattle.fine_figures.proofs.Pierced.{holed_below}
use Rattle.fine_figures.proofs.holes.is_holed_below.Goals as goal

pub returns-clause-copper : goal.returns-clause-copper
returns-clause-copper g c = λ yes p inside. holed_below c.args.holed.now c.args.frame (figure_of c.args.bound.now) p (c.is_within.ensures.0 yes) inside
