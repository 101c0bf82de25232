use Rattle.planar.specs.Plane.{cross_of}
use Rattle.slants.proofs.Sums.{cross_within, twice_overflow, twice_part, twice_read}
use Rattle.slants.proofs.discs.twice_across.Goals as goal

pub overflow_add-result : goal.overflow_add-result
overflow_add-result c = twice_overflow c.cross-product.result (cross_of c.args.o c.args.q c.args.s) c.cross-product.ensures (cross_within c.args.o c.args.q c.args.s c.requires.o_placed c.requires.q_placed c.requires.s_placed)

pub returns-clause-value : goal.returns-clause-value
returns-clause-value c = twice_read c.cross-product.result (cross_of c.args.o c.args.q c.args.s) c.cross-product.ensures (cross_within c.args.o c.args.q c.args.s c.requires.o_placed c.requires.q_placed c.requires.s_placed)

pub returns-clause-small : goal.returns-clause-small
returns-clause-small c = twice_part c.cross-product.result (cross_of c.args.o c.args.q c.args.s) c.cross-product.ensures (cross_within c.args.o c.args.q c.args.s c.requires.o_placed c.requires.q_placed c.requires.s_placed)
