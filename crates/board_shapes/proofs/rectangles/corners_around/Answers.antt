use Rattle.std.proofs.Common.{refl}
use Rattle.board_shapes.proofs.Halves.{less_half, plus_half}
use Rattle.board_shapes.proofs.rectangles.corners_around.Goals as goal

pub returns-clause-low : goal.returns-clause-low
returns-clause-low c =
    let x = less_half c.args.p.x c.half-across.result c.args.w c.requires.first.0 c.requires.width c.half-across.ensures in
    let y = less_half c.args.p.y c.half-up.result c.args.h c.requires.first.1 c.requires.height c.half-up.ensures in
    rw (x, y) refl

pub returns-clause-high : goal.returns-clause-high
returns-clause-high c =
    let x = plus_half c.args.q.x c.half-across.result c.args.w c.requires.second.0 c.requires.width c.half-across.ensures in
    let y = plus_half c.args.q.y c.half-up.result c.args.h c.requires.second.1 c.requires.height c.half-up.ensures in
    rw (x, y) refl
