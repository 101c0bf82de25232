-- What is made of the files that a package hands over in a call where draws may be arcs, and their first stop.
use Rattle.std.specs.Prelude.{◌≡◌, ℕ, List, Option, Some, None}
use Rattle.board_io.specs.Handed.{Handed}
use Rattle.board_package.specs.HandedBoard.{IsMadeHanded, IsNextHanded, IsStopHanded, Reading}
use Rattle.board_package.specs.PackageBoard.{Stop, order_of, refused}
use Rattle.board_package.specs.declared.entry.Entry.{Entry}
use Rattle.real_package.specs.RealBoards.{PlainRealBoard, empty_real}
use Rattle.real_package.specs.RealFiles.{ReadsReal, RefusesArc, RefusesReal}
use Rattle.real_package.specs.RealPackage.{RealStop, bent, unbuilt}

-- the file of an entry is refused, and the stop names it
abbrev pub RefusesRealFile : Entry → List ℕ → PlainRealBoard → RealStop → Type 0
RefusesRealFile e bytes before (unbuilt (refused name why)) = (name ≡ e.name) × RefusesReal e.role e.number bytes before why
RefusesRealFile e bytes before (unbuilt stop) = ⊥
RefusesRealFile e bytes before (bent name kind command at) = (name ≡ e.name) × RefusesArc e.role e.number bytes before kind command at

-- the stop of a board that a stop is
abbrev pub built_of : RealStop → Option Stop
built_of (unbuilt stop) = Some stop
built_of (bent name kind command at) = None

abbrev pub as_real_board : Reading PlainRealBoard PlainRealBoard RealStop
as_real_board = record {
  start = empty_real;
  order = order_of;
  reads = λ e bytes before after. ReadsReal e.role e.number bytes before after;
  refuses = RefusesRealFile;
  makes = λ end board. board ≡ end;
  ends = λ end stop. ⊥;
  shared = built_of;
}

abbrev pub IsRealBoardHanded : List Handed → List Handed → List ℕ → PlainRealBoard → Type 0
IsRealBoardHanded before after name board = IsMadeHanded as_real_board before after name board

abbrev pub IsFirstRealStopHanded : List Handed → List Handed → List ℕ → RealStop → Type 0
IsFirstRealStopHanded before after name stop = IsStopHanded as_real_board before after name stop

abbrev pub RealComesHanded : List Handed → List Handed → List ℕ → List ℕ → Type 0
RealComesHanded before after manifest name = IsNextHanded as_real_board before after manifest name
