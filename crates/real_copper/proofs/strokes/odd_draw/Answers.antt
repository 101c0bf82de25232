use Rattle.std.proofs.Common.{arith, refl}
use Rattle.real_copper.proofs.Near.{doubled_near}
use Rattle.real_copper.proofs.strokes.odd_draw.Goals as goal

pub invariant_of-result : goal.invariant_of-result
invariant_of-result c =
    let a = doubled_near c.args.from c.requires.from in
    let b = doubled_near c.args.to c.requires.to in
    record { near = rw (c.doubled.ensures.value, c.doubled-2.ensures.value, a, b) refl; settled = refl; few = omega arith }
