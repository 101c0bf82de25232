-- Nets and homes over a list of placed shapes are those of every board with these pieces.
use Rattle.std.specs.Prelude.{◌≡◌, ℕ, List, length, Option}
use Rattle.board_shapes.specs.Plain.{PlainBoard, plain_pieces}
use Rattle.board_shapes.specs.Shapes.{InShape}
use Rattle.board_shapes.specs.Tables.{IsNear as IsNearOn}
use Rattle.board_shapes.specs.Touching.{UnderAt}
use Rattle.board_shapes.specs.declared.placed.Placed.{Placed}
use Rattle.board_shapes.specs.declared.shape.Shape.{Shape}
use Rattle.cell_index.specs.Among.{TouchAmong, UnderAmong}
use Rattle.cell_index.specs.Field.{IsNear}
use Rattle.cell_index.specs.Homes.{UnderProbe}
use Rattle.tables.specs.Lists.{AreLeast}
use Rattle.verdict.specs.Forest.{IsForest}
use Rattle.verdict.specs.declared.verdict.Twig.{Twig}

-- The nets of placed shapes are those of the board, where its pieces are these shapes.
abbrev pub NetsAreOfTheBoard : PlainBoard → List (Placed Shape) → List (List Twig) → Type 0
NetsAreOfTheBoard b items nets = b.pieces ≡ plain_pieces items → IsForest (length items) (IsNear (length items) (TouchAmong InShape items)) nets → IsForest (length b.pieces) (IsNearOn b) nets

-- So are the least pieces under its probes.
abbrev pub HomesAreOfTheBoard : PlainBoard → List (Placed Shape) → List (Option ℕ) → Type 0
HomesAreOfTheBoard b items homes = b.pieces ≡ plain_pieces items → AreLeast (length b.probes) (UnderProbe (UnderAmong InShape items) b.probes) homes → AreLeast (length b.probes) (UnderAt b) homes
