use Rattle.std.proofs.Common.{◌≡◌, ◌≤◌, ◌+◌, ◌++◌, length, All}
use Rattle.arc_covers.specs.Counts.{IsCount, count_lines}
use Rattle.arc_covers.proofs.counts.read_lines.Given as goal

abbrev pub invariant-loop-rest : goal.invariant-loop-rest
invariant-loop-rest l = record {
  number : l.line ≡ length l.lower + 2;
  room : l.line + length l.rest ≤ length l.lines + 2;
  even : length l.lower ≡ length l.upper;
  below : All IsCount l.lower;
  above : All IsCount l.upper;
  whole : l.lines ≡ count_lines l.lower l.upper ++ l.rest;
}

abbrev pub decreases-loop-rest : goal.decreases-loop-rest
decreases-loop-rest l = length l.rest
