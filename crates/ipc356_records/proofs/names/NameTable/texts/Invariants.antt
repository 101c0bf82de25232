use Rattle.std.proofs.Common.{◌≡◌, take}
use Rattle.ipc356_records.specs.NameTable.{names_in}
use Rattle.ipc356_records.proofs.names.NameTable.texts.Given as goal

abbrev pub invariant-loop-name : goal.invariant-loop-name
invariant-loop-name l = l.rows ≡ take l.name-index (names_in l.self)
