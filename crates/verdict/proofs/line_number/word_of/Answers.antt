use Rattle.std.proofs.Common.{◌-◌, arith}
use Rattle.verdict.proofs.LineNumbers.{room}
use Rattle.verdict.proofs.line_number.word_of.Goals as goal

pub overflow_mul-word : goal.overflow_mul-word
overflow_mul-word c =
    let small = room c.args.bytes.now c.loop-at.at (λ i. (c.type_inv.bytes i).fits) c.requires (omega arith) in
    omega (arith, small, c.loop-at.invariant.1)

pub overflow_add-word : goal.overflow_add-word
overflow_add-word c =
    let small = room c.args.bytes.now c.loop-at.at (λ i. (c.type_inv.bytes i).fits) c.requires (omega arith) in
    let byte = (c.type_inv.bytes (c.loop-at.at - 1)).fits in
    omega (arith, small, c.loop-at.invariant.1, c.from.ensures, byte)
