-- The status of an answer, and the line about it.
use Rattle.std.specs.Prelude.{ℕ, Bool, true, false, List, if◌then◌else◌, codes}
use Rattle.reports.specs.Lines.{counted_line, plain_line, findings_line}
use Rattle.reports.specs.declared.answer.Note.{Note}
use Rattle.reports.specs.declared.answer.Note.TheVariants as note

-- the answer is one that finds no fault and leaves nothing undecided
abbrev pub is_good : Note → Bool
is_good note.Agrees = true
is_good (note.Differs opens shorts missing) = false
is_good note.AuditTrue = true
is_good (note.AuditUntrue clause) = false
is_good (note.TrialDone agrees) = agrees
is_good note.NetlistWritten = true
is_good note.NoGaps = true
is_good (note.Gaps count) = false
is_good note.Flattened = true
is_good (note.Undecided opens shorts missing) = false

-- the status of an answer
abbrev pub status_of : Note → ℕ
status_of n = if is_good n then 0 else 1

-- the line about an answer
abbrev pub line_of : Note → List ℕ
line_of note.Agrees = plain_line (codes "agrees")
line_of (note.Differs opens shorts missing) = findings_line (codes "differs") opens shorts missing
line_of note.AuditTrue = plain_line (codes "audit true")
line_of (note.AuditUntrue clause) = counted_line (codes "audit untrue ") clause
line_of (note.TrialDone agrees) = plain_line (codes "trial done")
line_of note.NetlistWritten = plain_line (codes "netlist written")
line_of note.NoGaps = plain_line (codes "no gaps")
line_of (note.Gaps count) = counted_line (codes "gaps ") count
line_of note.Flattened = plain_line (codes "flattened")
line_of (note.Undecided opens shorts missing) = findings_line (codes "undecided") opens shorts missing
