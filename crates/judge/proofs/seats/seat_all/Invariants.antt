use Rattle.judge.specs.Seated.{AreSeated}
use Rattle.judge.proofs.FirstSeats.{AreSeatedTo}
use Rattle.judge.proofs.seats.seat_all.Given as goal

abbrev pub invariant-loop-i : goal.invariant-loop-i
invariant-loop-i l = AreSeated l.pairs.keys l.groups × AreSeatedTo l.lines l.i l.groups
