use Rattle.slants.proofs.Sums.{first_overflow, product_overflow, whole_overflow, whole_read}
use Rattle.slants.proofs.turned.lean.Goals as goal

pub overflow_mul-result : goal.overflow_mul-result
overflow_mul-result c = product_overflow c.args.parts.still c.args.d.n c.requires.parts_bounded.0 c.requires.bounded.2

pub overflow_mul-result-2 : goal.overflow_mul-result-2
overflow_mul-result-2 c = product_overflow c.args.parts.across c.args.d.x c.requires.parts_bounded.1 c.requires.bounded.0

pub overflow_add-result : goal.overflow_add-result
overflow_add-result c = first_overflow c.args.parts.still c.args.parts.across c.args.parts.along c.args.d.n c.args.d.x c.args.d.y c.requires.parts_bounded.0 c.requires.parts_bounded.1 c.requires.parts_bounded.2 c.requires.bounded.2 c.requires.bounded.0 c.requires.bounded.1

pub overflow_mul-result-3 : goal.overflow_mul-result-3
overflow_mul-result-3 c = product_overflow c.args.parts.along c.args.d.y c.requires.parts_bounded.2 c.requires.bounded.1

pub overflow_add-result-2 : goal.overflow_add-result-2
overflow_add-result-2 c = whole_overflow c.args.parts.still c.args.parts.across c.args.parts.along c.args.d.n c.args.d.x c.args.d.y c.requires.parts_bounded.0 c.requires.parts_bounded.1 c.requires.parts_bounded.2 c.requires.bounded.2 c.requires.bounded.0 c.requires.bounded.1

pub returns : goal.returns
returns c = whole_read c.args.parts.still c.args.parts.across c.args.parts.along c.args.d.n c.args.d.x c.args.d.y c.requires.parts_bounded.0 c.requires.parts_bounded.1 c.requires.parts_bounded.2 c.requires.bounded.2 c.requires.bounded.0 c.requires.bounded.1
