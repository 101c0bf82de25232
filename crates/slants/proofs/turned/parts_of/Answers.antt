use Rattle.planar.specs.Plane.{cross_of, dot_of}
use Rattle.slants.proofs.Sums.{area_part, cross_within, dot_within, less_overflow, less_part, less_read}
use Rattle.slants.proofs.turned.parts_of.Goals as goal

pub overflow_sub-result : goal.overflow_sub-result
overflow_sub-result c = less_overflow c.cross-2.result c.cross-3.result (cross_of c.args.b c.args.c c.args.q) (cross_of c.args.b c.args.c c.args.m.now.from) c.cross-2.ensures c.cross-3.ensures
    (cross_within c.args.b c.args.c c.args.q c.requires.b_placed c.requires.c_placed c.requires.q_placed) (cross_within c.args.b c.args.c c.args.m.now.from c.requires.b_placed c.requires.c_placed c.requires.ready.from)

pub overflow_sub-result-2 : goal.overflow_sub-result-2
overflow_sub-result-2 c = less_overflow c.dot.result c.dot-2.result (dot_of c.args.b c.args.c c.args.q) (dot_of c.args.b c.args.c c.args.m.now.from) c.dot.ensures c.dot-2.ensures
    (dot_within c.args.b c.args.c c.args.q c.requires.b_placed c.requires.c_placed c.requires.q_placed) (dot_within c.args.b c.args.c c.args.m.now.from c.requires.b_placed c.requires.c_placed c.requires.ready.from)

pub returns-clause-across : goal.returns-clause-across
returns-clause-across c = less_read c.cross-2.result c.cross-3.result (cross_of c.args.b c.args.c c.args.q) (cross_of c.args.b c.args.c c.args.m.now.from) c.cross-2.ensures c.cross-3.ensures
    (cross_within c.args.b c.args.c c.args.q c.requires.b_placed c.requires.c_placed c.requires.q_placed) (cross_within c.args.b c.args.c c.args.m.now.from c.requires.b_placed c.requires.c_placed c.requires.ready.from)

pub returns-clause-along : goal.returns-clause-along
returns-clause-along c = less_read c.dot.result c.dot-2.result (dot_of c.args.b c.args.c c.args.q) (dot_of c.args.b c.args.c c.args.m.now.from) c.dot.ensures c.dot-2.ensures
    (dot_within c.args.b c.args.c c.args.q c.requires.b_placed c.requires.c_placed c.requires.q_placed) (dot_within c.args.b c.args.c c.args.m.now.from c.requires.b_placed c.requires.c_placed c.requires.ready.from)

pub returns-clause-bounded : goal.returns-clause-bounded
returns-clause-bounded c = (
  area_part c.cross.result (cross_of c.args.b c.args.c c.args.m.now.to) c.cross.ensures (cross_within c.args.b c.args.c c.args.m.now.to c.requires.b_placed c.requires.c_placed c.requires.ready.to),
  less_part c.cross-2.result c.cross-3.result (cross_of c.args.b c.args.c c.args.q) (cross_of c.args.b c.args.c c.args.m.now.from) c.cross-2.ensures c.cross-3.ensures
      (cross_within c.args.b c.args.c c.args.q c.requires.b_placed c.requires.c_placed c.requires.q_placed) (cross_within c.args.b c.args.c c.args.m.now.from c.requires.b_placed c.requires.c_placed c.requires.ready.from),
  less_part c.dot.result c.dot-2.result (dot_of c.args.b c.args.c c.args.q) (dot_of c.args.b c.args.c c.args.m.now.from) c.dot.ensures c.dot-2.ensures
      (dot_within c.args.b c.args.c c.args.q c.requires.b_placed c.requires.c_placed c.requires.q_placed) (dot_within c.args.b c.args.c c.args.m.now.from c.requires.b_placed c.requires.c_placed c.requires.ready.from),
)
