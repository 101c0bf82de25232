use Rattle.std.proofs.Common.{length}
use Rattle.ipc356_records.specs.Records.{ahead}
use Rattle.ipc356_records.specs.Reader.{IsLawfulReader}
use Rattle.net_forms.proofs.ReadSoFar.{ReadSoFar}
use Rattle.net_forms.proofs.net_file.read_forms.Given as goal

abbrev pub invariant-loop-record : goal.invariant-loop-record
invariant-loop-record l = record {
  read : ReadSoFar l.file l.fn.layers (ahead l.records) l.reader;
  lawful : IsLawfulReader l.reader;
}

abbrev pub decreases-loop-record : goal.decreases-loop-record
decreases-loop-record l = length (ahead l.records).bytes
