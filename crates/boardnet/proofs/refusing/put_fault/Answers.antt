use Rattle.std.proofs.Common.{List, ℕ, codes, subst, sym}
use Rattle.boardnet.specs.Outcome.{fault_line}
use Rattle.reports.specs.Lines.{Says, file_line}
use Rattle.boardnet.proofs.refusing.put_fault.Goals as goal

pub returns-in-NotJson : goal.returns-in-NotJson
returns-in-NotJson g c = subst (λ why. Says g.N.Sink.got g.N.Sink.faults c.args.notes.now c.about_file.new.notes (fault_line c.args.manifest.now why)) (sym c.in-NotJson.is) c.about_file.ensures

pub returns-in-BadManifest : goal.returns-in-BadManifest
returns-in-BadManifest g c = subst (λ why. Says g.N.Sink.got g.N.Sink.faults c.args.notes.now c.about_file-in-BadManifest.new.notes (fault_line c.args.manifest.now why)) (sym c.in-BadManifest.is) c.about_file-in-BadManifest.ensures

pub returns-in-Longer : goal.returns-in-Longer
returns-in-Longer g c =
    subst (λ why. Says g.N.Sink.got g.N.Sink.faults c.args.notes.now c.about_file-in-Longer.new.notes (fault_line c.args.manifest.now why)) (sym c.in-Longer.is)
    (subst (λ (z : List ℕ). Says g.N.Sink.got g.N.Sink.faults c.args.notes.now c.about_file-in-Longer.new.notes (file_line z (codes "longer than 67108864 bytes"))) c.as_bytes.ensures.value c.about_file-in-Longer.ensures)

pub returns-in-CannotRead : goal.returns-in-CannotRead
returns-in-CannotRead g c =
    subst (λ why. Says g.N.Sink.got g.N.Sink.faults c.args.notes.now c.about_file-in-CannotRead.new.notes (fault_line c.args.manifest.now why)) (sym c.in-CannotRead.is)
    (subst (λ (z : List ℕ). Says g.N.Sink.got g.N.Sink.faults c.args.notes.now c.about_file-in-CannotRead.new.notes (file_line z (codes "cannot be read"))) c.as_bytes-in-CannotRead.ensures.value c.about_file-in-CannotRead.ensures)

pub returns-in-FrameTooLarge : goal.returns-in-FrameTooLarge
returns-in-FrameTooLarge g c = subst (λ why. Says g.N.Sink.got g.N.Sink.faults c.args.notes.now c.frame.new.notes (fault_line c.args.manifest.now why)) (sym c.in-FrameTooLarge.is) c.frame.ensures

pub returns-in-NoMemory : goal.returns-in-NoMemory
returns-in-NoMemory g c = subst (λ why. Says g.N.Sink.got g.N.Sink.faults c.args.notes.now c.plain.new.notes (fault_line c.args.manifest.now why)) (sym c.in-NoMemory.is) c.plain.ensures
