use Rattle.std.proofs.Common.{◌≡◌, ◌≤◌, drop, length}
use Rattle.verdict.specs.LineNumbers.{worth}
use Rattle.verdict.proofs.line_number.word_of.Given as goal

abbrev pub invariant-loop-at : goal.invariant-loop-at
invariant-loop-at l = (l.at ≤ length l.bytes) × (l.word ≡ worth (drop l.at l.bytes))

abbrev pub decreases-loop-at : goal.decreases-loop-at
decreases-loop-at l = l.at
