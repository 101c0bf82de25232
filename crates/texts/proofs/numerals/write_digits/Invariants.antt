use Rattle.std.proofs.Common.{drop, length, ◌+◌, ◌++◌, ◌≡◌, ◌≤◌}
use Rattle.std.specs.Fmt.{decimal}
use Rattle.texts.proofs.numerals.write_digits.Given as goal

abbrev pub invariant-loop-left : goal.invariant-loop-left
invariant-loop-left l = (l.at ≤ 21) × (length l.buffer ≡ 21) × (l.at + length (decimal l.n) ≡ 21 + length (decimal l.left)) × (decimal l.left ++ drop l.at l.buffer ≡ decimal l.n)

abbrev pub decreases-loop-left : goal.decreases-loop-left
decreases-loop-left l = l.left
