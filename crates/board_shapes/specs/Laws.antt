-- Laws over the definitions.
use Rattle.std.specs.Prelude.{ℕ, ◌≡◌, ◌⊎◌, ◌↔◌}
use Rattle.tables.specs.Consistent.{AreConsistent, ArePointsJoined}
use Rattle.tables.specs.Tables.{Tables}
use Rattle.board_shapes.specs.declared.board.Board.{Board}
use Rattle.board_shapes.specs.LawfulBoard.{IsLawfulBoard}
use Rattle.board_shapes.specs.Plain.{PlainBoard, plain_board}
use Rattle.board_shapes.specs.Tables.{IsTables}
use Rattle.board_shapes.specs.Touching.{ProbesJoined, TouchAt, UnderAt}

-- Every board keeps what its type says
abbrev pub BoardsAreLawful : Type 0
BoardsAreLawful = (b : Board) → IsLawfulBoard (plain_board b)

-- the board has tables, and no others
pub record HasOneTables (b : PlainBoard) : Type 0 where
  pub tables : Tables
  pub are : IsTables b tables
  pub only : (other : Tables) → IsTables b other → other ≡ tables

-- Every board has exactly one set of tables
abbrev pub TablesAreUnique : Type 0
TablesAreUnique = (b : PlainBoard) → IsLawfulBoard b → HasOneTables b

-- Two pieces under one probe are the same or touch
abbrev pub PiecesUnderOneProbeTouch : Type 0
PiecesUnderOneProbeTouch = (b : PlainBoard) (k i j : ℕ) → UnderAt b k i → UnderAt b k j → (i ≡ j) ⊎ TouchAt b i j

-- The tables of a board are consistent
abbrev pub TablesAreConsistent : Type 0
TablesAreConsistent = (b : PlainBoard) (t : Tables) → IsTables b t → AreConsistent t

-- The tables of a board join two test points exactly where the board joins the probes
abbrev pub TablesJoinProbes : Type 0
TablesJoinProbes = (b : PlainBoard) (t : Tables) → IsTables b t → (k l : ℕ) → ProbesJoined b k l ↔ ArePointsJoined t k l
