use Rattle.std.proofs.Common.{◌+◌, ◌≤◌, length}
use Rattle.gerber_words.specs.Stepping.{ahead}
use Rattle.gerber_reading.specs.Reader.{IsLawfulReader}
use Rattle.gerber_reading.proofs.ReadSoFar.{ReadSoFar}
use Rattle.gerber_reading.proofs.file.read_by.Given as goal

abbrev pub invariant-loop-word : goal.invariant-loop-word
invariant-loop-word g l = record {
  read : ReadSoFar g.D.Dialect.plain g.D.Dialect.dialect l.file l.fn.place (ahead l.words) l.reader;
  lawful : IsLawfulReader g.D.Dialect.plain g.D.Dialect.handling g.D.Dialect.Fits g.D.Dialect.Keeps l.reader;
  few : l.reader.commands + length (ahead l.words).bytes ≤ length l.file;
}

abbrev pub decreases-loop-word : goal.decreases-loop-word
decreases-loop-word g l = length (ahead l.words).bytes
