-- The laws of packages.
use Rattle.std.specs.Prelude.{◌≡◌, ◌⊎◌, ℕ, ◌-◌, if◌then◌else◌, List, take, Some, slice_get, option_map}
use Rattle.board_io.specs.Package.{Files}
use Rattle.board_shapes.specs.LawfulBoard.{IsLawfulBoard}
use Rattle.board_shapes.specs.Plain.{PlainBoard}
use Rattle.board_shapes.specs.Touching.{UnderAt}
use Rattle.board_shapes.specs.declared.probe.Probe.{Probe}
use Rattle.gerber_layer.specs.Layer as layer_file
use Rattle.gerber_reading.specs.declared.place.Place.{Place as LayerPlace}
use Rattle.ipc356_records.specs.NetlistFile as netlist_file
use Rattle.xnc.specs.DrillFile as drill_file
use Rattle.xnc.specs.Places.{Place as DrillPlace}
use Rattle.board_package.specs.LabelledBoard.{IsFirstLabelledStop, IsLabelledBoardOf, LabelledStop, labelled_board_of, unbuilt}
use Rattle.texts.specs.Words.{is_word}
use Rattle.x2_nets.specs.declared.label_table.Label.{Label}
use Rattle.board_package.specs.PackageBoard.{Stop, absent, IsBoardOf, IsFirstStop}

-- Each file has one answer: copper files, drill files and netlists.
pub record FilesHaveOneAnswer : Type 0 where
  pub layer : (file : List ℕ) (p : LayerPlace) → layer_file.HasOneAnswer file p
  pub drill : (file : List ℕ) (p : DrillPlace) → drill_file.HasOneAnswer file p
  pub netlist : (file : List ℕ) (layers : ℕ) → netlist_file.HasOneAnswer file layers

-- A package has at most one board or one first stop, and not both.
pub record HasOneOutcome (files : Files) (manifest : List ℕ) : Type 0 where
  pub one_board : (board other : PlainBoard) → IsBoardOf files manifest board → IsBoardOf files manifest other → board ≡ other
  pub not_both : (board : PlainBoard) (stop : Stop) → IsBoardOf files manifest board → IsFirstStop files manifest stop → ⊥
  pub one_stop : (stop other : Stop) → IsFirstStop files manifest stop → IsFirstStop files manifest other → stop ≡ other

-- A package has at most one labelled board or one first stop of it, and not both.
pub record HasOneLabelledOutcome (files : Files) (manifest : List ℕ) : Type 0 where
  pub one_board : (board other : PlainBoard) → IsLabelledBoardOf files manifest board → IsLabelledBoardOf files manifest other → board ≡ other
  pub not_both : (board : PlainBoard) (stop : LabelledStop) → IsLabelledBoardOf files manifest board → IsFirstLabelledStop files manifest stop → ⊥
  pub one_stop : (stop other : LabelledStop) → IsFirstLabelledStop files manifest stop → IsFirstLabelledStop files manifest other → stop ≡ other

-- Each probe of a labelled board has its piece under it: that of its record's number less 1.
abbrev pub LabelledPiecesAreUnder : Type 0
LabelledPiecesAreUnder = (tables : List (List Label)) (b : PlainBoard) → IsLawfulBoard (labelled_board_of tables b) → (k : ℕ) (probe : Probe) → slice_get (labelled_board_of tables b).probes k ≡ Some probe → UnderAt (labelled_board_of tables b) k (probe.number - 1)

-- The package in which the file of this name, where it is held, has only its first n bytes.
abbrev pub cut_off : Files → List ℕ → ℕ → Files
cut_off files name n other = if is_word other name then option_map (take n) (files other) else files other

-- the stop is a refusal, and no file that is not there
abbrev pub IsRefusing : Stop → Type 0
IsRefusing (absent name) = ⊥
IsRefusing stop = Unit {0}

-- Of a package with a board: cutting one file off, the manifest or another, at any place is a refusal or leaves the same board.
abbrev pub CutIsRefusedOrTheSame : Files → List ℕ → Type 0
CutIsRefusedOrTheSame files manifest =
    (board : PlainBoard) → IsBoardOf files manifest board → (name : List ℕ) (n : ℕ) →
    ((stop : Stop) × IsRefusing stop × IsFirstStop (cut_off files name n) manifest stop) ⊎ IsBoardOf (cut_off files name n) manifest board

-- Of a package with a labelled board: cutting one of its files off at any place is a refusal, which is never that of a label, or
-- leaves the same labelled board.
abbrev pub LabelledCutIsRefusedOrTheSame : Files → List ℕ → Type 0
LabelledCutIsRefusedOrTheSame files manifest =
    (board : PlainBoard) → IsLabelledBoardOf files manifest board → (name : List ℕ) (n : ℕ) →
    ((stop : Stop) × IsRefusing stop × IsFirstLabelledStop (cut_off files name n) manifest (unbuilt stop)) ⊎ IsLabelledBoardOf (cut_off files name n) manifest board
