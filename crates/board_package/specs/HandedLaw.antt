-- That what is said of what was handed over holds of all files that agree with it.
use Rattle.std.specs.Prelude.{ℕ, List}
use Rattle.board_io.specs.Handed.{AgreeWith, Grows, Handed}
use Rattle.board_io.specs.Package.{Files}
use Rattle.board_shapes.specs.Plain.{PlainBoard}
use Rattle.board_package.specs.HandedBoard.{ComesHanded, IsBoardHanded, IsFirstStopHanded, IsHanded, StopsHanding}
use Rattle.board_package.specs.HandedLabelled.{IsFirstLabelledStopHanded, IsLabelledBoardHanded, LabelledComesHanded}
use Rattle.board_package.specs.LabelledBoard.{IsFirstLabelledStop, IsLabelledBoardOf, LabelledComes, LabelledStop}
use Rattle.board_package.specs.PackageBoard.{Comes, IsBoardOf, IsFirstStop, IsHeld, Stop, StopsTaking}

-- Of files that agree with what was handed over from one point to another: they hold the file, its stop is theirs, their board
-- is the one that was handed over, and so on.
pub record HoldsWhatWasHanded (files : Files) (before after : List Handed) (name : List ℕ) : Type 0 where
  pub held : (bytes : List ℕ) → IsHanded before after name bytes → IsHeld files name bytes
  pub untaken : (stop : Stop) → StopsHanding before after name stop → StopsTaking files name stop
  pub board : (board : PlainBoard) → IsBoardHanded before after name board → IsBoardOf files name board
  pub stop : (stop : Stop) → IsFirstStopHanded before after name stop → IsFirstStop files name stop
  pub comes : (other : List ℕ) → ComesHanded before after name other → Comes files name other
  pub labelled : (board : PlainBoard) → IsLabelledBoardHanded before after name board → IsLabelledBoardOf files name board
  pub labelled_stop : (stop : LabelledStop) → IsFirstLabelledStopHanded before after name stop → IsFirstLabelledStop files name stop
  pub labelled_comes : (other : List ℕ) → LabelledComesHanded before after name other → LabelledComes files name other

pub record HandedIsHeld : Type 0 where
  pub holds : (files : Files) (before after : List Handed) (name : List ℕ) → AgreeWith files before after → HoldsWhatWasHanded files before after name
  -- a board that was handed over stands behind all that was handed over before
  pub grows : (before after : List Handed) (name : List ℕ) (board : PlainBoard) → IsBoardHanded before after name board → Grows before after
