use Rattle.std.proofs.Common.{rules}
use Rattle.fine_figures.proofs.Pierced.{held_read}
use Rattle.fine_figures.proofs.holes.foot.Goals as goal

pub returns : goal.returns
returns c =
    let x = held_read c.args.f.now.a.x c.args.s.x c.args.f.now.b.x c.min.result c.max.result (search rules) (search rules) (search rules) c.min.ensures.value c.max.ensures.value in
    let y = held_read c.args.f.now.a.y c.args.s.y c.args.f.now.b.y c.min-2.result c.max-2.result (search rules) (search rules) (search rules) c.min-2.ensures.value c.max-2.ensures.value in
    cc
