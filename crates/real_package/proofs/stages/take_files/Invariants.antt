use Rattle.std.proofs.Common.{◌≡◌, take}
use Rattle.board_io.specs.Package.{IsFaultless}
use Rattle.board_package.specs.Causes.{Leaves}
use Rattle.board_package.specs.PackageBoard.{WalksBy}
use Rattle.board_package.specs.HandedBoard.{GoesHanded, course}
use Rattle.board_package.specs.Parts.{IsLawfulParts}
use Rattle.real_package.specs.HandedReal.{as_real_board}
use Rattle.real_package.specs.RealBoards.{plain_real_board}
use Rattle.real_package.proofs.stages.take_files.Given as goal

abbrev pub invariant-loop-entry : goal.invariant-loop-entry
invariant-loop-entry g l = record {
  leaves : Leaves g.P.Package.held g.P.Package.handed g.P.Package.faults l.initial.package l.package;
  faultless : IsFaultless (g.P.Package.faults l.initial.package) (g.P.Package.lost l.initial.package) (g.P.Package.faults l.package) (g.P.Package.lost l.package);
  handed : WalksBy (GoesHanded as_real_board) (take l.entry-index l.entries) (course (g.P.Package.handed l.initial.package) (plain_real_board l.initial.board)) (course (g.P.Package.handed l.package) (plain_real_board l.board));
  lawful : IsLawfulParts l.board;
  layers : l.board.layers ≡ l.initial.board.layers;
}
