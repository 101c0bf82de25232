use Rattle.std.proofs.Common.{List, ℕ, codes, subst, sym}
use Rattle.reports.specs.Lines.{Says, file_line, label_line, manifest_frame_line}
use Rattle.boardnet.specs.Outcome.{fault_line, reason_line}
use Rattle.boardnet.proofs.refusing.put_reason.Goals as goal

pub returns-in-Stopped : goal.returns-in-Stopped
returns-in-Stopped g c =
    subst (λ why. Says g.N.Sink.got g.N.Sink.faults c.args.notes.now c.put_fault.new.notes (reason_line c.args.subject.now c.args.report.now why)) (sym c.in-Stopped.is)
    (subst (λ (z : List ℕ). Says g.N.Sink.got g.N.Sink.faults c.args.notes.now c.put_fault.new.notes (fault_line z c.in-Stopped.fault)) c.as_bytes.ensures.value c.put_fault.ensures)

pub returns-in-NotAReport : goal.returns-in-NotAReport
returns-in-NotAReport g c =
    subst (λ why. Says g.N.Sink.got g.N.Sink.faults c.args.notes.now c.about_file.new.notes (reason_line c.args.subject.now c.args.report.now why)) (sym c.in-NotAReport.is)
    (subst (λ (z : List ℕ). Says g.N.Sink.got g.N.Sink.faults c.args.notes.now c.about_file.new.notes (file_line z (codes "not a report"))) c.as_bytes-in-NotAReport.ensures.value c.about_file.ensures)

pub returns-in-SizeTooLarge : goal.returns-in-SizeTooLarge
returns-in-SizeTooLarge g c = subst (λ why. Says g.N.Sink.got g.N.Sink.faults c.args.notes.now c.plain.new.notes (reason_line c.args.subject.now c.args.report.now why)) (sym c.in-SizeTooLarge.is) c.plain.ensures

pub returns-in-GrownTooLarge : goal.returns-in-GrownTooLarge
returns-in-GrownTooLarge g c = subst (λ why. Says g.N.Sink.got g.N.Sink.faults c.args.notes.now c.frame.new.notes (reason_line c.args.subject.now c.args.report.now why)) (sym c.in-GrownTooLarge.is) c.frame.ensures

pub returns-in-Mislabelled : goal.returns-in-Mislabelled
returns-in-Mislabelled g c =
    subst (λ why. Says g.N.Sink.got g.N.Sink.faults c.args.notes.now c.mislabelled.new.notes (reason_line c.args.subject.now c.args.report.now why)) (sym c.in-Mislabelled.is)
    (subst (λ (z : List ℕ). Says g.N.Sink.got g.N.Sink.faults c.args.notes.now c.mislabelled.new.notes (label_line z c.in-Mislabelled.command c.in-Mislabelled.at)) c.as_bytes-in-Mislabelled.ensures.value c.mislabelled.ensures)

pub returns-in-NotJson : goal.returns-in-NotJson
returns-in-NotJson g c =
    subst (λ why. Says g.N.Sink.got g.N.Sink.faults c.args.notes.now c.about_file-in-NotJson.new.notes (reason_line c.args.subject.now c.args.report.now why)) (sym c.in-NotJson.is)
    (subst (λ (z : List ℕ). Says g.N.Sink.got g.N.Sink.faults c.args.notes.now c.about_file-in-NotJson.new.notes (file_line z (codes "not JSON"))) c.as_bytes-in-NotJson.ensures.value c.about_file-in-NotJson.ensures)

pub returns-in-NotAManifest : goal.returns-in-NotAManifest
returns-in-NotAManifest g c =
    subst (λ why. Says g.N.Sink.got g.N.Sink.faults c.args.notes.now c.about_file-in-NotAManifest.new.notes (reason_line c.args.subject.now c.args.report.now why)) (sym c.in-NotAManifest.is)
    (subst (λ (z : List ℕ). Says g.N.Sink.got g.N.Sink.faults c.args.notes.now c.about_file-in-NotAManifest.new.notes (file_line z (codes "not a manifest"))) c.as_bytes-in-NotAManifest.ensures.value c.about_file-in-NotAManifest.ensures)

pub returns-in-BoundTooLarge : goal.returns-in-BoundTooLarge
returns-in-BoundTooLarge g c =
    subst (λ why. Says g.N.Sink.got g.N.Sink.faults c.args.notes.now c.frame_of.new.notes (reason_line c.args.subject.now c.args.report.now why)) (sym c.in-BoundTooLarge.is)
    (subst (λ (z : List ℕ). Says g.N.Sink.got g.N.Sink.faults c.args.notes.now c.frame_of.new.notes (manifest_frame_line z c.in-BoundTooLarge.bounds)) c.as_bytes-in-BoundTooLarge.ensures.value c.frame_of.ensures)
