use Rattle.board_shapes.specs.declared.shape.Shape.TheVariants.{Round, Filled}
use Rattle.board_shapes.proofs.Arms.{arm}
use Rattle.board_shapes.proofs.shape.ShapeMeets.meets.Goals as goal

pub returns-in-Round-Round-clause-share : goal.returns-in-Round-Round-clause-share
returns-in-Round-Round-clause-share g c = arm c.args.self.now c.args.other.now (Round c.in-Round-Round.first) (Round c.in-Round-Round.second) c.meets.result c.in-Round-Round.is-0 c.in-Round-Round.is-1 c.meets.ensures.share

pub returns-in-Round-Filled-clause-share : goal.returns-in-Round-Filled-clause-share
returns-in-Round-Filled-clause-share g c =
    arm c.args.self.now c.args.other.now (Round c.in-Round-Filled.first) (Filled c.in-Round-Filled.second) c.meets-in-Round-Filled.result c.in-Round-Filled.is-0 c.in-Round-Filled.is-1 c.meets-in-Round-Filled.ensures.share

pub returns-in-Filled-Round-clause-share : goal.returns-in-Filled-Round-clause-share
returns-in-Filled-Round-clause-share g c =
    arm c.args.self.now c.args.other.now (Filled c.in-Filled-Round.first) (Round c.in-Filled-Round.second) c.meets-in-Filled-Round.result c.in-Filled-Round.is-0 c.in-Filled-Round.is-1 c.meets-in-Filled-Round.ensures.share

pub returns-in-Filled-Filled-clause-share : goal.returns-in-Filled-Filled-clause-share
returns-in-Filled-Filled-clause-share g c =
    arm c.args.self.now c.args.other.now (Filled c.in-Filled-Filled.first) (Filled c.in-Filled-Filled.second) c.meets-in-Filled-Filled.result c.in-Filled-Filled.is-0 c.in-Filled-Filled.is-1 c.meets-in-Filled-Filled.ensures.share
