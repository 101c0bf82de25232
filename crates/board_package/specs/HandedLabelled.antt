-- What is made of the files that a package hands over in a call where labels may name the nets, and their first stop.
use Rattle.std.specs.Prelude.{◌≡◌, ℕ, List, Option, Some, None}
use Rattle.std.specs.List.{filter}
use Rattle.board_io.specs.Handed.{Handed}
use Rattle.board_shapes.specs.Plain.{PlainBoard, common_box, Fits}
use Rattle.board_package.specs.Contents.{Reads}
use Rattle.board_package.specs.HandedBoard.{IsMadeHanded, IsNextHanded, IsStopHanded, Reading, RefusesFile}
use Rattle.board_package.specs.LabelledBoard.{Labelled, LabelledStop, Lists, Mislabels, OfBuild, is_taken, labelled_board_of, mislabelled, nothing_labelled, unbuilt}
use Rattle.board_package.specs.PackageBoard.{Stop, StopsAtFrame, order_of}
use Rattle.board_package.specs.declared.entry.Entry.{Entry}
use Rattle.board_package.specs.declared.entry.Naming.{Naming}
use Rattle.board_package.specs.declared.entry.Naming.TheVariants.{ByLabels}

-- the file of an entry is read, and so are its labels
abbrev pub ReadsLabelled : Naming → Entry → List ℕ → Labelled → Labelled → Type 0
ReadsLabelled naming e bytes before after = Reads e.role e.number bytes before.board after.board × Lists naming e.role bytes before.tables after.tables

-- it is refused, or is read, and then a label is amiss
abbrev pub RefusesLabelled : Naming → Entry → List ℕ → Labelled → LabelledStop → Type 0
RefusesLabelled naming e bytes before (unbuilt stop) = RefusesFile e bytes before.board stop
RefusesLabelled naming e bytes before (mislabelled name command at) = (name ≡ e.name) × ((board : PlainBoard) × Reads e.role e.number bytes before.board board) × Mislabels naming e.role bytes command at

-- the stop of a board that a stop is
abbrev pub built_of : LabelledStop → Option Stop
built_of (unbuilt stop) = Some stop
built_of (mislabelled name command at) = None

abbrev pub as_labelled : Naming → Reading Labelled PlainBoard LabelledStop
as_labelled naming = record {
  start = nothing_labelled;
  order = λ m. filter (λ e. is_taken naming e.role) (order_of m);
  reads = ReadsLabelled naming;
  refuses = RefusesLabelled naming;
  makes = λ end board. (board ≡ labelled_board_of end.tables end.board) × Fits (common_box end.board.pieces);
  ends = λ end stop. OfBuild (StopsAtFrame end.board) stop;
  shared = built_of;
}

abbrev pub IsLabelledBoardHanded : List Handed → List Handed → List ℕ → PlainBoard → Type 0
IsLabelledBoardHanded before after name board = IsMadeHanded (as_labelled ByLabels) before after name board

abbrev pub IsFirstLabelledStopHanded : List Handed → List Handed → List ℕ → LabelledStop → Type 0
IsFirstLabelledStopHanded before after name stop = IsStopHanded (as_labelled ByLabels) before after name stop

-- the name is that of the manifest or of a file of its order but the netlist, which comes next
abbrev pub LabelledComesHanded : List Handed → List Handed → List ℕ → List ℕ → Type 0
LabelledComesHanded before after manifest name = IsNextHanded (as_labelled ByLabels) before after manifest name
