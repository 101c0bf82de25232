use Rattle.std.proofs.Common.{◌≡◌, take}
use Rattle.gaps.proofs.listing.rows.Given as goal

abbrev pub invariant-loop-line : goal.invariant-loop-line
invariant-loop-line l = l.rows ≡ take l.line-index l.lines
