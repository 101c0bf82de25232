use Rattle.std.proofs.Common.{arith, sym}
use Rattle.std.proofs.lemmas.Int.{ints}
use Rattle.fine_figures.proofs.sides.is_between_across.Goals as goal

pub returns-then-sides-extent : goal.returns-then-sides-extent
returns-then-sides-extent c = (λ h. (omega (arith, ints), omega (arith, ints)), λ h. sym (omega (arith, ints)))

pub returns-else-sides-extent : goal.returns-else-sides-extent
returns-else-sides-extent c = (λ h. (omega (arith, ints), omega (arith, ints)), λ h. sym (omega (arith, ints)))
