use Rattle.std.proofs.Common.{length, arith}
use Rattle.lengths.proofs.Digits.{digit_at, digits_value_after-more, room}
use Rattle.lengths.proofs.decimal.value_behind.Goals as goal

pub overflow_mul-value : goal.overflow_mul-value
overflow_mul-value c =
    let h = room c.args.before c.loop-digit.digit-index (length c.args.digits.now) c.loop-digit.value c.loop-digit-test.true c.requires.fits c.loop-digit.invariant.1 in
    omega (arith, h)

pub overflow_add-value : goal.overflow_add-value
overflow_add-value c =
    let h = room c.args.before c.loop-digit.digit-index (length c.args.digits.now) c.loop-digit.value c.loop-digit-test.true c.requires.fits c.loop-digit.invariant.1 in
    let d = digit_at c.args.digits.now c.loop-digit.digit-index c.requires.digits c.loop-digit-test.true in
    omega (arith, h, d)

pub loop-digit-preserved : goal.loop-digit-preserved
loop-digit-preserved c =
    let h = room c.args.before c.loop-digit.digit-index (length c.args.digits.now) c.loop-digit.value c.loop-digit-test.true c.requires.fits c.loop-digit.invariant.1 in
    let d = digit_at c.args.digits.now c.loop-digit.digit-index c.requires.digits c.loop-digit-test.true in
    let more = digits_value_after-more 10 c.args.before c.args.digits.now c.loop-digit.digit-index c.loop-digit-test.true in
    (omega (arith, more, d), omega (arith, h, d))
