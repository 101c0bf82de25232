use Rattle.std.proofs.Common.{◌+◌, ◌≤◌, length}
use Rattle.texts.specs.Stepping.{ahead}
use Rattle.xnc.specs.Reader.{IsLawfulReader}
use Rattle.drill_forms.proofs.ReadSoFar.{ReadSoFar}
use Rattle.drill_forms.proofs.form_file.read_forms.Given as goal

abbrev pub invariant-loop-reader : goal.invariant-loop-reader
invariant-loop-reader l = record {
  read : ReadSoFar l.file (record { from = l.fn.span.from; to = l.fn.span.to; file = l.fn.file_number; room = l.fn.room.pieces }) (ahead l.lines) l.reader;
  lawful : IsLawfulReader l.reader.reader;
  few : l.reader.reader.lines + length (ahead l.lines).bytes ≤ length l.file;
}

abbrev pub decreases-loop-reader : goal.decreases-loop-reader
decreases-loop-reader l = length (ahead l.lines).bytes
