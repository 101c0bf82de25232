-- Why a package gives no labelled board.
use Rattle.std.specs.Prelude.{◌≡◌, ℕ, List}
use Rattle.board_package.specs.Causes.{Fault, Faults, own, shared}
use Rattle.board_package.specs.LabelledBoard.{Labelled, LabelledStop, Mislabels, mislabelled, unbuilt}
use Rattle.board_package.specs.Parts.{board_so_far}
use Rattle.board_package.specs.declared.entry.Naming.{Naming}
use Rattle.board_package.specs.declared.entry.Role.{Role}
use Rattle.board_package.specs.declared.fault.BuildFault.TheVariants as build
use Rattle.board_package.specs.declared.fault.LabelledFault.{LabelledFault}
use Rattle.board_package.specs.declared.fault.LabelledFault.TheVariants as fault
use Rattle.board_package.specs.declared.parts.Parts.{Parts}
use Rattle.board_shapes.specs.declared.shape.Shape.{Shape}
use Rattle.x2_nets.specs.declared.label_table.Label.{Label}

-- what a fault tells
abbrev pub labelled_told : LabelledFault → Fault LabelledStop
labelled_told (fault.Build why) = shared why
labelled_told (fault.Label name command at) = own (mislabelled name command at)

-- Why there is no labelled board: as there would be no board without labels, or a label that is amiss.
abbrev pub labelled_faults : Faults LabelledStop LabelledFault
labelled_faults = record { unbuilt = λ stop. unbuilt stop; told = labelled_told }

-- why the labels of a file are not listed
abbrev pub IsMislabelling : Naming → Role → List ℕ → List ℕ → LabelledFault → Type 0
IsMislabelling naming role name bytes (fault.Build why) = why ≡ build.NoMemory
IsMislabelling naming role name bytes (fault.Label file command at) = (file ≡ name) × Mislabels naming role bytes command at

-- what the files so far give, with the labels of each copper file
abbrev pub labelled_so_far : Parts Shape → List (List Label) → Labelled
labelled_so_far parts tables = record { board = board_so_far parts; tables = tables }
