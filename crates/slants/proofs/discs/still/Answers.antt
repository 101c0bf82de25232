use Rattle.std.proofs.Common.{◌∙◌, refl}
use Rattle.slants.proofs.Sums.{first_left_overflow, left_overflow, left_part, left_read}
use Rattle.slants.proofs.discs.still.Goals as goal

pub overflow_sub-result : goal.overflow_sub-result
overflow_sub-result c = first_left_overflow c.squared.result c.length_squared.result (c.squared.ensures.from_zero, c.squared.ensures.small) (c.length_squared.ensures.from_zero, c.length_squared.ensures.small)

pub overflow_sub-result-2 : goal.overflow_sub-result-2
overflow_sub-result-2 c = left_overflow c.squared.result c.length_squared.result c.length_squared-2.result (c.squared.ensures.from_zero, c.squared.ensures.small) (c.length_squared.ensures.from_zero, c.length_squared.ensures.small) (c.length_squared-2.ensures.from_zero, c.length_squared-2.ensures.small)

pub returns-clause-value : goal.returns-clause-value
returns-clause-value c = left_read c.squared.result c.length_squared.result c.length_squared-2.result (c.squared.ensures.from_zero, c.squared.ensures.small) (c.length_squared.ensures.from_zero, c.length_squared.ensures.small) (c.length_squared-2.ensures.from_zero, c.length_squared-2.ensures.small) ∙ rw (c.squared.ensures.value, c.length_squared.ensures.value, c.length_squared-2.ensures.value) refl

pub returns-clause-small : goal.returns-clause-small
returns-clause-small c = left_part c.squared.result c.length_squared.result c.length_squared-2.result (c.squared.ensures.from_zero, c.squared.ensures.small) (c.length_squared.ensures.from_zero, c.length_squared.ensures.small) (c.length_squared-2.ensures.from_zero, c.length_squared-2.ensures.small)
