use Rattle.std.proofs.Common.{arith, sym}
use Rattle.std.proofs.lemmas.Int.{ints}
use Rattle.fine_figures.proofs.sides.hold_up.Goals as goal

pub returns-then-lower-sides : goal.returns-then-lower-sides
returns-then-lower-sides c = (λ h. (omega (arith, ints), omega (arith, ints)), λ h. sym (omega (arith, ints)))

pub returns-else-lower-sides : goal.returns-else-lower-sides
returns-else-lower-sides c = (λ h. (omega (arith, ints), omega (arith, ints)), λ h. sym (omega (arith, ints)))
