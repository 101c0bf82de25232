-- The board of a made package.
use Rattle.std.specs.Prelude.{◌≡◌, ℕ, ◌≤◌, ◌++◌, map, codes}
use Rattle.board_maker.specs.MadePackage.{made_files}
use Rattle.board_maker.specs.declared.files.Part.TheVariants.{Top, Bottom}
use Rattle.board_maker.specs.declared.TheConstants.{MOST_CELLS}
use Rattle.board_package.specs.PackageBoard.{IsBoardOf}
use Rattle.board_shapes.specs.Plain.{PlainBoard}
use Rattle.made_files.specs.MadeFiles.{bores, copper, names, points}

-- The made package of a seed and a size has a board, which is of the copper, the holes, the points and the names of its cells: so
-- no file of it is refused, and its pieces fit in a frame.
pub record HasBoard (seed size : ℕ) : Type 0 where
  pub board : PlainBoard
  pub is : IsBoardOf (made_files seed size) (codes "m.json") board
  pub figures : map (λ piece. piece.figure) board.pieces ≡ copper Top seed size size ++ copper Bottom seed size size ++ bores size
  pub probes : board.probes ≡ points size
  pub named : board.names ≡ names size

-- every made package of at most 10,000 cells fits
abbrev pub MadePackagesFit : Type 0
MadePackagesFit = (seed size : ℕ) → size ≤ MOST_CELLS → HasBoard seed size
