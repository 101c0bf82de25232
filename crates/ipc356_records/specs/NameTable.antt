-- What a table of names holds.
use Rattle.std.specs.Prelude.{ℕ, List, map}
use Rattle.ipc356_records.specs.declared.names.NameTable.{NameTable}

-- the names in the order in which they came
abbrev pub names_in : NameTable → List (List ℕ)
names_in t = map (λ name. name.now) t.names.keys
