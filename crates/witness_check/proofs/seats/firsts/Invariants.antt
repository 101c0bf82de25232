use Rattle.std.proofs.Common.{◌+◌, length}
use Rattle.witness_check.proofs.Seating.{AreKeptTo, AreMarksOf}
use Rattle.witness_check.proofs.seats.firsts.Given as goal

abbrev pub invariant-loop-i : goal.invariant-loop-i
invariant-loop-i l = AreKeptTo l.seats (l.name + 1) (length l.initial.stamps) l.i l.row l.stamps × AreMarksOf l.name l.row l.initial.marks l.marks
