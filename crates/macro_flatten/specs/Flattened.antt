-- What a copper file that may have macros is flattened to.
use Rattle.std.specs.Prelude.{◌≡◌, ℕ, ◌≤◌, List}
use Rattle.board_shapes.specs.Pieces.{PlainPiece}
use Rattle.gerber_layer.specs.MacroLayer.{IsReadWithMacros}
use Rattle.macro_flatten.specs.FlatText.{figures_in, flat_text_of}
use Rattle.macro_flatten.specs.Laws.{ReadsAs, flat_room}
use Rattle.board_shapes.specs.declared.TheConstants.{MOST_LAYERS}

-- the file has an image, and this is the text of its figures
pub record IsFlattened (file text : List ℕ) : Type 0 where
  pub pieces : List PlainPiece
  pub image : IsReadWithMacros file pieces
  pub text_is : text ≡ flat_text_of (figures_in pieces)

-- Each layer to MOST_LAYERS, in a room of MOST_PIECES pieces and MOST_FLAT_EDGES edges, reads the text as the figures of the file's image, in order, and without a refusal.
pub record IsReadBack (file text : List ℕ) : Type 0 where
  pub pieces : List PlainPiece
  pub image : IsReadWithMacros file pieces
  pub reads : (layer number : ℕ) → 1 ≤ layer → layer ≤ MOST_LAYERS → ReadsAs text (record { layer = layer; file = number; room = flat_room }) (figures_in pieces)
