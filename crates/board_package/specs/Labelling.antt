-- What the naming of pieces keeps.
use Rattle.std.specs.Prelude.{ℕ, List}
use Rattle.board_shapes.specs.declared.probe.Probe.{Probe}
use Rattle.board_package.specs.LabelledBoard.{Named}

-- these probes with these names
abbrev pub named_as : List Probe → List (List ℕ) → Named
named_as probes names = record { probes = probes; names = names }
