use Rattle.std.proofs.Common.{◌≢◌, All, take}
use Rattle.arc_covers.proofs.regions.length_to.Given as goal

abbrev pub invariant-loop-i : goal.invariant-loop-i
invariant-loop-i l = All (λ s. s ≢ l.end) (take l.i l.spots)
