-- What the reader of copper files reads from a flattened text.
use Rattle.std.specs.Prelude.{◌≡◌, ℕ, ◌≤◌, ◌⊎◌, List, length, sum_by, take, pos, ◌<ℤ◌, ◌≤ℤ◌}
use Rattle.std.specs.List.{AllByRecursion}
use Rattle.planar.specs.Plane.{IsPlaced}
use Rattle.contact.specs.declared.TheConstants.{MOST_RADIUS}
use Rattle.area_contact.specs.Contour.{IsContour}
use Rattle.board_shapes.specs.Figures.{Figure, round, filled, figure_edges}
use Rattle.board_shapes.specs.Pieces.{PlainPiece}
use Rattle.board_shapes.specs.declared.placed.Room.{Room}
use Rattle.gerber_reading.specs.declared.kind.GerberKind.{GerberKind}
use Rattle.gerber_layer.specs.declared.macro_kind.FlattenKind.{FlattenKind}
use Rattle.gerber_reading.specs.declared.place.Place.{Place}
use Rattle.gerber_layer.specs.Layer.{IsRead, IsRefused}
use Rattle.gerber_layer.specs.MacroLayer.{IsReadWithMacros, IsRefusedWithMacros}
use Rattle.macro_flatten.specs.FlatText.{figures_in, flat_text_of, pens_of}
use Rattle.board_shapes.specs.declared.TheConstants.{MOST_LAYERS, MOST_PIECES}
use Rattle.gerber_reading.specs.declared.TheConstants.{MOST_APERTURES}
use Rattle.gerber_layer.specs.declared.TheConstants.{MOST_FLAT_EDGES}
use Rattle.texts.specs.declared.TheConstants.{MOST_BYTES}

-- ends within one metre, and a radius over 0 and of at most 25 mm; or the points of a contour
abbrev pub IsDrawn : Figure → Type 0
IsDrawn (round s) = IsPlaced s.a × IsPlaced s.b × (pos 0 <ℤ s.r) × (s.r ≤ℤ MOST_RADIUS)
IsDrawn (filled points) = IsContour points

-- the most pieces and edges of a flattened file
abbrev pub flat_room : Room
flat_room = record { pieces = MOST_PIECES; edges = MOST_FLAT_EDGES }

-- the figures of an image that can be flattened
pub record IsFlat (figures : List Figure) : Type 0 where
  pub drawn : AllByRecursion IsDrawn figures
  pub few_pieces : length figures ≤ MOST_PIECES
  pub few_edges : sum_by figure_edges figures ≤ MOST_FLAT_EDGES
  pub few_pens : length (pens_of figures) ≤ MOST_APERTURES

-- the file is read as pieces with these figures, in order, and has no refusal
pub record ReadsAs (file : List ℕ) (p : Place) (figures : List Figure) : Type 0 where
  pub pieces : List PlainPiece
  pub read : IsRead file p pieces
  pub are : figures_in pieces ≡ figures
  pub unrefused : (why : GerberKind) (number at : ℕ) → ¬ IsRefused file p why number at

-- every layer reads a flattened text as pieces with exactly its figures
abbrev pub FlatTextReads : Type 0
FlatTextReads = (figures : List Figure) (layer file : ℕ) → 1 ≤ layer → layer ≤ MOST_LAYERS → IsFlat figures → ReadsAs (flat_text_of figures) (record { layer = layer; file = file; room = flat_room }) figures

-- the figures of a copper file that is read in this room can be flattened, where few pens draw them
abbrev pub ImagesAreFlat : Type 0
ImagesAreFlat = (file : List ℕ) (layer number : ℕ) (pieces : List PlainPiece) → IsRead file (record { layer = layer; file = number; room = flat_room }) pieces → length (pens_of (figures_in pieces)) ≤ MOST_APERTURES → IsFlat (figures_in pieces)

-- and those of a copper file that is read with macros always can: its end counts the pens
abbrev pub MacroImagesAreFlat : Type 0
MacroImagesAreFlat = (file : List ℕ) (pieces : List PlainPiece) → IsReadWithMacros file pieces → IsFlat (figures_in pieces)

-- a flattened text is no longer than a copper file may be
abbrev pub FlatTextsAreShort : Type 0
FlatTextsAreShort = (figures : List Figure) → IsFlat figures → length (flat_text_of figures) ≤ MOST_BYTES

-- of a copper file that is read with macros: cutting it off at any place is a refusal, or leaves the same image
abbrev pub CutIsRefusedOrTheSame : Type 0
CutIsRefusedOrTheSame = (file : List ℕ) (pieces : List PlainPiece) (n : ℕ) → IsReadWithMacros file pieces →
    ((why : FlattenKind) × (number : ℕ) × (place : ℕ) × IsRefusedWithMacros (take n file) why number place) ⊎ IsReadWithMacros (take n file) pieces
