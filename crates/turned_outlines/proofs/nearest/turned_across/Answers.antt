use Rattle.std.proofs.Common.{pos, ◌+ℤ◌, ◌-ℤ◌, ◌*ℤ◌, ◌∙◌}
use Rattle.turned_outlines.proofs.Places.{across_sum, read_sum}
use Rattle.turned_outlines.proofs.nearest.turned_across.Goals as goal

pub returns-clause-value : goal.returns-clause-value
returns-clause-value c =
    read_sum c.sum.result c.along.result c.across.result (c.args.o.x *ℤ c.taken.result.x +ℤ c.args.o.y *ℤ c.taken.result.y) (c.args.s.x *ℤ c.flipped.result.y -ℤ c.args.s.y *ℤ c.flipped.result.x)
    c.sum.ensures.value c.along.ensures.value c.across.ensures.value c.along.ensures.small c.across.ensures.small
    ∙ rw (c.taken.ensures.across, c.taken.ensures.up, c.flipped.ensures.across, c.flipped.ensures.up) (across_sum (pos c.args.d.x) (pos c.args.d.y) (pos c.args.d.n) c.args.o.x c.args.o.y c.args.s.x c.args.s.y)
