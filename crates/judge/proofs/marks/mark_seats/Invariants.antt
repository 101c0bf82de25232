use Rattle.std.proofs.Common.{◌≡◌, ℕ, ◌++◌, drop}
use Rattle.verdict.specs.Seats.{marks_at, marks_of_seats}
use Rattle.judge.proofs.marks.mark_seats.Given as goal

abbrev pub invariant-loop-seat : goal.invariant-loop-seat
invariant-loop-seat l = (net : ℕ) → marks_at l.marks net ++ marks_of_seats l.name net (drop l.seat-index l.seats) ≡ marks_at l.initial.marks net ++ marks_of_seats l.name net l.seats
