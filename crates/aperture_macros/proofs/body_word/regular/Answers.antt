use Rattle.std.proofs.Common.{◌∙◌, sym, arith}
use Rattle.aperture_macros.proofs.Steps.{regular_more}
use Rattle.aperture_macros.proofs.body_word.regular.Goals as goal

pub loop-n-preserved : goal.loop-n-preserved
loop-n-preserved c = sym (regular_more c.loop-n.n c.args.corners.now (omega (arith, c.loop-n-test.true)) (sym c.is_number.ensures ∙ c.if-is_number.false)) ∙ c.loop-n.invariant
