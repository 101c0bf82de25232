use Rattle.std.proofs.Common.{length, arith}
use Rattle.lengths.specs.Decimal.{unsigned}
use Rattle.lengths.proofs.Digits.{eighteen_fit, number_parts}
use Rattle.lengths.proofs.decimal.whole_position.Goals as goal

pub digits_value-whole-requires-clause-digits : goal.digits_value-whole-requires-clause-digits
digits_value-whole-requires-clause-digits c = rw c.unsigned.ensures (number_parts (unsigned c.args.digits.now) c.requires.whole).1

pub digits_value-whole-requires-clause-fits : goal.digits_value-whole-requires-clause-fits
digits_value-whole-requires-clause-fits c = rw c.unsigned.ensures (eighteen_fit (length (unsigned c.args.digits.now)) (number_parts (unsigned c.args.digits.now) c.requires.whole).0)

pub invariant_of-number : goal.invariant_of-number
invariant_of-number c =
    let fits = eighteen_fit (length c.unsigned.result.now) (rw c.unsigned.ensures (number_parts (unsigned c.args.digits.now) c.requires.whole).0) in
    (omega (arith, fits, c.digits_value-whole.ensures.bound), omega arith)
