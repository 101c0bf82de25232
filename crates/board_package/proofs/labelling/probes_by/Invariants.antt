use Rattle.std.proofs.Common.{◌≡◌, take, reverse, All}
use Rattle.board_shapes.specs.Pieces.{plain_pieces}
use Rattle.ipc356_records.specs.NameTable.{names_in}
use Rattle.lengths.specs.Text.{IsText}
use Rattle.board_package.specs.LabelledBoard.{named_by}
use Rattle.board_package.specs.Labelling.{named_as}
use Rattle.board_package.proofs.labelling.probes_by.Given as goal

abbrev pub invariant-loop-i : goal.invariant-loop-i
invariant-loop-i l = record {
  named : named_as l.probes (names_in l.names) ≡ named_by l.tables (reverse (take l.i (plain_pieces l.pieces)));
  lawful : All IsText (names_in l.names);
}
