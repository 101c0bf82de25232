-- The laws of packages whose draws may be arcs.
use Rattle.std.specs.Prelude.{◌≡◌, ℕ, List}
use Rattle.board_io.specs.Handed.{AgreeWith, Handed}
use Rattle.board_io.specs.Package.{Files}
use Rattle.real_package.specs.HandedReal.{IsFirstRealStopHanded, IsRealBoardHanded, RealComesHanded}
use Rattle.real_package.specs.RealBoards.{PlainRealBoard}
use Rattle.real_package.specs.RealPackage.{IsFirstRealStop, IsRealBoardOf, RealComes, RealStop}

-- A package has at most one real board or one first stop of it, and not both.
pub record HasOneRealOutcome (files : Files) (manifest : List ℕ) : Type 0 where
  pub one_board : (board other : PlainRealBoard) → IsRealBoardOf files manifest board → IsRealBoardOf files manifest other → board ≡ other
  pub not_both : (board : PlainRealBoard) (stop : RealStop) → IsRealBoardOf files manifest board → IsFirstRealStop files manifest stop → ⊥
  pub one_stop : (stop other : RealStop) → IsFirstRealStop files manifest stop → IsFirstRealStop files manifest other → stop ≡ other

-- Of files that agree with what was handed over from one point to another: their real board is the one that was handed over, and so on.
pub record HoldsWhatWasHanded (files : Files) (before after : List Handed) (name : List ℕ) : Type 0 where
  pub board : (board : PlainRealBoard) → IsRealBoardHanded before after name board → IsRealBoardOf files name board
  pub stop : (stop : RealStop) → IsFirstRealStopHanded before after name stop → IsFirstRealStop files name stop
  pub comes : (other : List ℕ) → RealComesHanded before after name other → RealComes files name other

abbrev pub HandedIsHeld : Type 0
HandedIsHeld = (files : Files) (before after : List Handed) (name : List ℕ) → AgreeWith files before after → HoldsWhatWasHanded files before after name
