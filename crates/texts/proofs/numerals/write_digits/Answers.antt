use Rattle.std.proofs.Common.{◌≡◌, ℕ, ◌+◌, ◌-◌, ◌/◌, ◌%◌, ◌<◌, ◌≤◌, ◌^◌, ◌∷◌, [], length, arith, append_assoc, length-append, ap, ◌∙◌}
use Rattle.std.specs.Fmt.{decimal}
use Rattle.std.proofs.lemmas.Fmt.{decimal_digit, decimal_nonempty, decimal_step, length-decimal-le}
use Rattle.std.proofs.lemmas.List.{drop-set, length-set}
use Rattle.texts.proofs.numerals.write_digits.Goals as goal

-- Room is left for one digit more.
room : (n left at : ℕ) → n < 2 ^ 64 → left < 2 ^ 64 → at + length (decimal n) ≡ 21 + length (decimal left) → 2 ≤ at
room n left at h k e = omega (arith, length-decimal-le 20 n (omega arith) (omega arith) h, decimal_nonempty left k)

pub overflow_sub-at : goal.overflow_sub-at
overflow_sub-at c = omega (arith, room c.args.n c.loop-left.left c.loop-left.at c.ranges.n.fits c.loop-left.auto.left-fits.fits c.loop-left.invariant.2)

pub loop-left-preserved : goal.loop-left-preserved
loop-left-preserved c =
    let l = c.loop-left in
    let step = decimal_step l.left (omega arith) l.auto.left-fits.fits in
    let longer = ap length step ∙ length-append (decimal (l.left / 10)) ((48 + l.left % 10) ∷ []) in
    let some : 2 ≤ l.at = room c.args.n l.left l.at c.ranges.n.fits l.auto.left-fits.fits l.invariant.2 in
    let e : l.at - 1 + 1 ≡ l.at = omega arith in (
      omega arith,
      omega (arith, length-set l.buffer (l.at - 1) (48 + l.left % 10)),
      omega arith,
      rw (drop-set l.buffer (l.at - 1) (48 + l.left % 10) (omega arith), e) (rw (step, append_assoc) at l.invariant.3),
    )

pub overflow_sub-at-2 : goal.overflow_sub-at-2
overflow_sub-at-2 c = omega (arith, room c.args.n c.loop-left.left c.loop-left.at c.ranges.n.fits c.loop-left.auto.left-fits.fits c.loop-left.invariant.2)

pub returns-clause-written : goal.returns-clause-written
returns-clause-written c =
    let l = c.loop-left in
    let some : 2 ≤ l.at = room c.args.n l.left l.at c.ranges.n.fits l.auto.left-fits.fits l.invariant.2 in
    let e : l.at - 1 + 1 ≡ l.at = omega arith in
    rw (drop-set l.buffer (l.at - 1) (48 + l.left) (omega arith), e) (rw (decimal_digit l.left (omega arith)) at l.invariant.3)

pub returns-clause-start : goal.returns-clause-start
returns-clause-start c =
    let l = c.loop-left in
    let some : 2 ≤ l.at = room c.args.n l.left l.at c.ranges.n.fits l.auto.left-fits.fits l.invariant.2 in
    (omega arith, omega arith)
