use Rattle.std.proofs.Common.{◌≡◌, ◌++◌, length, take}
use Rattle.std.specs.List.{flat_map}
use Rattle.gaps.specs.GapsText.{gap_line, head_line}
use Rattle.gaps.proofs.text.write_gaps.Given as goal

abbrev pub invariant-loop-gap : goal.invariant-loop-gap
invariant-loop-gap l = l.out.items ≡ head_line l.nanometres (length l.gaps) ++ flat_map gap_line (take l.gap-index l.gaps)
