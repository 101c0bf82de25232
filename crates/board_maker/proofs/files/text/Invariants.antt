use Rattle.std.proofs.Common.{◌≡◌, ◌++◌}
use Rattle.board_maker.specs.MadeBoard.{cells, cell_of}
use Rattle.board_maker.proofs.files.text.Given as goal

abbrev pub invariant-loop-i : goal.invariant-loop-i
invariant-loop-i l = l.out.items ≡ l.initial.out.items ++ cells (cell_of l.part l.seed l.size) l.i
