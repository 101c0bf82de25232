-- Why parts are no board.
use Rattle.std.specs.Prelude.{Option, Some, ◌≡◌}
use Rattle.contact.specs.declared.Bounds.{Bounds}
use Rattle.board_shapes.specs.CommonBox.{FitsFrame}
use Rattle.board_shapes.specs.declared.board.BoardFault.{BoardFault}
use Rattle.board_shapes.specs.declared.board.BoardFault.TheVariants.{FrameTooLarge}

-- the fault has the common box, and the box does not fit
abbrev pub IsBoardFault : Option Bounds → BoardFault → Type 0
IsBoardFault common (FrameTooLarge b) = (common ≡ Some b) × ¬ FitsFrame b
