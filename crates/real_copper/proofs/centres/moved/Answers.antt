use Rattle.real_copper.proofs.Sums.{sum_within}
use Rattle.real_copper.proofs.centres.moved.Goals as goal
use Rattle.board_shapes.proofs.Halves.{sum}

pub returns-clause-value : goal.returns-clause-value
returns-clause-value c =
    let x = sum c.args.a.x c.args.way.x c.requires.spot.0 c.requires.way.0 in
    let y = sum c.args.a.y c.args.way.y c.requires.spot.1 c.requires.way.1 in
    cc

pub returns-clause-near : goal.returns-clause-near
returns-clause-near c =
    let x = sum_within c.args.a.x c.args.way.x c.requires.spot.0 c.requires.way.0 in
    let y = sum_within c.args.a.y c.args.way.y c.requires.spot.1 c.requires.way.1 in
    (x, y)
