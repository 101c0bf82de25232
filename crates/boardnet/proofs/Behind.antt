-- What fits by what was handed over fits by files that agree with it, and so does what was read behind it.
use Rattle.std.proofs.Common.{ℕ, List}
use Rattle.board_io.proofs.Agreeing.{agree_back, agree_front}
use Rattle.board_io.specs.Handed.{AgreeWith, Handed}
use Rattle.board_io.specs.Package.{Files}
use Rattle.board_package.specs.HandedLaw.{HandedIsHeld}
use Rattle.board_shapes.specs.Plain.{PlainBoard}
use Rattle.boardnet.specs.Source.{FitsBy, FitsThenBy, HandedOver, Held, IsBoardBy, Source}

pub board_held : HandedIsHeld → (f : Files) (a : List Handed) (manifest : List ℕ) (built : List Handed) (board : PlainBoard) → AgreeWith f a built → IsBoardBy (HandedOver a built) manifest board → IsBoardBy (Held f) manifest board
board_held law f a manifest built board w is = (law.holds f a built manifest w).board board is

module _ {B : Type 0} (Is : Source → B → Type 0) (f : Files) (a b : List Handed) (first : (built : List Handed) (board : B) → AgreeWith f a built → Is (HandedOver a built) board → Is (Held f) board) (Then : Source → Type 0) (w : AgreeWith f a b)
    (next : (built : List Handed) → AgreeWith f built b → Then (HandedOver built b) → Then (Held f)) where
  pub held_fits : (board : B) → FitsBy Is (HandedOver a b) board Then → FitsBy Is (Held f) board Then
  held_fits board (built, (g, h), is, x) = (first built board (agree_front f a built b g h w) is, next built (agree_back f a built b g h w) x)

  pub held_then : FitsThenBy Is (HandedOver a b) Then → FitsThenBy Is (Held f) Then
  held_then x = record { board = x.board; behind = held_fits x.board x.behind }
