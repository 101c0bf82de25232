use Rattle.std.proofs.Common.{◌≡◌, ℕ, ◌++◌, drop}
use Rattle.verdict.specs.Seats.{marks_at, marks_from}
use Rattle.judge.proofs.marks.mark_all.Given as goal

abbrev pub invariant-loop-n : goal.invariant-loop-n
invariant-loop-n l = (net : ℕ) → marks_at l.marks net ++ marks_from net l.n (drop l.n l.groups) ≡ marks_at l.initial.marks net ++ marks_from net 0 l.groups
