use Rattle.std.proofs.Common.{◌≡◌, take, All}
use Rattle.std.specs.List.{filter}
use Rattle.board_io.specs.Package.{IsFaultless}
use Rattle.board_package.specs.Causes.{Leaves}
use Rattle.board_package.specs.HandedBoard.{GoesHanded, course}
use Rattle.board_package.specs.HandedLabelled.{as_labelled}
use Rattle.board_package.specs.LabelledBoard.{is_taken}
use Rattle.board_package.specs.LabelledCauses.{labelled_so_far}
use Rattle.board_package.specs.PackageBoard.{WalksBy}
use Rattle.board_package.specs.Parts.{IsLawfulParts}
use Rattle.x2_nets.specs.Labels.{Rise}
use Rattle.board_package.proofs.stages.take_files.Given as goal

abbrev pub invariant-loop-entry : goal.invariant-loop-entry
invariant-loop-entry g l = record {
  leaves : Leaves g.P.Package.held g.P.Package.handed g.P.Package.faults l.initial.package l.package;
  faultless : IsFaultless (g.P.Package.faults l.initial.package) (g.P.Package.lost l.initial.package) (g.P.Package.faults l.package) (g.P.Package.lost l.package);
  handed : WalksBy (GoesHanded (as_labelled l.naming)) (filter (λ e. is_taken l.naming e.role) (take l.entry-index l.entries)) (course (g.P.Package.handed l.initial.package) (labelled_so_far l.initial.parts l.initial.tables)) (course (g.P.Package.handed l.package) (labelled_so_far l.parts l.tables));
  parts : IsLawfulParts l.parts;
  layers : l.parts.layers ≡ l.initial.parts.layers;
  rise : All Rise l.tables;
}
