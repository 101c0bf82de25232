use Rattle.std.proofs.Common.{arith, refl, rules}
use Rattle.fine_figures.proofs.Read.{thinner_read, thinner_refused}
use Rattle.fine_figures.proofs.strokes.is_thinner.Goals as goal

pub returns-then-fine-across : goal.returns-then-fine-across
returns-then-fine-across c = thinner_refused c.args.fine.now c.args.bound.now.a c.args.bound.now.b c.args.bound.now.r c.unsigned_abs-across.result (search rules) c.unsigned_abs-across.ensures.value _ refl (let less = c.if-fine-across.true in grind (arith, less))

pub returns : goal.returns
returns c = thinner_read c.args.fine.now c.args.bound.now.a c.args.bound.now.b c.args.bound.now.r c.unsigned_abs-across.result c.ends_near.result c.args.bound.now.radius.0 (search rules) c.unsigned_abs-across.ensures.value (let less = c.if-fine-across.false in grind (arith, less)) c.ends_near.ensures
