use Rattle.std.proofs.Common.{ℕ, codes, subst, sym}
use Rattle.reports.specs.Notes.{line_of}
use Rattle.reports.specs.Lines.{Says, counted_line}
use Rattle.reports.proofs.answer.Note.put.Goals as goal

pub returns-in-Differs : goal.returns-in-Differs
returns-in-Differs g c = subst (λ note. Says g.N.Sink.got g.N.Sink.faults c.args.notes.now c.findings.new.notes (line_of note)) (sym c.in-Differs.is) c.findings.ensures

pub returns-in-Undecided : goal.returns-in-Undecided
returns-in-Undecided g c = subst (λ note. Says g.N.Sink.got g.N.Sink.faults c.args.notes.now c.findings-in-Undecided.new.notes (line_of note)) (sym c.in-Undecided.is) c.findings-in-Undecided.ensures

pub returns-in-AuditTrue : goal.returns-in-AuditTrue
returns-in-AuditTrue g c = subst (λ note. Says g.N.Sink.got g.N.Sink.faults c.args.notes.now c.plain-in-AuditTrue.new.notes (line_of note)) (sym c.in-AuditTrue.is) c.plain-in-AuditTrue.ensures

pub returns-in-AuditUntrue : goal.returns-in-AuditUntrue
returns-in-AuditUntrue g c = subst (λ note. Says g.N.Sink.got g.N.Sink.faults c.args.notes.now c.counted.new.notes (line_of note)) (sym c.in-AuditUntrue.is)
    (subst (λ (n : ℕ). Says g.N.Sink.got g.N.Sink.faults c.args.notes.now c.counted.new.notes (counted_line (codes "audit untrue ") n)) c.from.ensures c.counted.ensures)

pub returns-in-TrialDone : goal.returns-in-TrialDone
returns-in-TrialDone g c = subst (λ note. Says g.N.Sink.got g.N.Sink.faults c.args.notes.now c.plain-in-TrialDone.new.notes (line_of note)) (sym c.in-TrialDone.is) c.plain-in-TrialDone.ensures

pub returns-in-NetlistWritten : goal.returns-in-NetlistWritten
returns-in-NetlistWritten g c = subst (λ note. Says g.N.Sink.got g.N.Sink.faults c.args.notes.now c.plain-in-NetlistWritten.new.notes (line_of note)) (sym c.in-NetlistWritten.is) c.plain-in-NetlistWritten.ensures

pub returns-in-NoGaps : goal.returns-in-NoGaps
returns-in-NoGaps g c = subst (λ note. Says g.N.Sink.got g.N.Sink.faults c.args.notes.now c.plain-in-NoGaps.new.notes (line_of note)) (sym c.in-NoGaps.is) c.plain-in-NoGaps.ensures

pub returns-in-Gaps : goal.returns-in-Gaps
returns-in-Gaps g c = subst (λ note. Says g.N.Sink.got g.N.Sink.faults c.args.notes.now c.counted-in-Gaps.new.notes (line_of note)) (sym c.in-Gaps.is) c.counted-in-Gaps.ensures
