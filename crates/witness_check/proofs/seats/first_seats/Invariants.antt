use Rattle.std.proofs.Common.{length}
use Rattle.witness_check.proofs.Seating.{AreFirstTo, AreMarksTo}
use Rattle.witness_check.proofs.seats.first_seats.Given as goal

abbrev pub invariant-loop-name : goal.invariant-loop-name
invariant-loop-name l = AreFirstTo l.lines (length l.initial.marks) l.name l.groups.items l.stamps × AreMarksTo l.groups.items l.marks
