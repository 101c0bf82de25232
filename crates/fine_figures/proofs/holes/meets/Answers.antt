use Rattle.board_shapes.specs.declared.shape.Shape.TheVariants.{Filled, Round}
use Rattle.fine_figures.proofs.Pierced.{of_shape}
use Rattle.fine_figures.proofs.holes.meets.Goals as goal

pub returns-in-Round : goal.returns-in-Round
returns-in-Round g c = of_shape c.args.bound.now (Round c.in-Round.capsule) c.args.disc.now.a c.args.disc.now.b c.args.disc.now.r c.meets.result c.in-Round.is c.meets.ensures.share

pub returns-in-Filled : goal.returns-in-Filled
returns-in-Filled g c = of_shape c.args.bound.now (Filled c.in-Filled.area) c.args.disc.now.a c.args.disc.now.b c.args.disc.now.r c.meets-in-Filled.result c.in-Filled.is c.meets-in-Filled.ensures.share
