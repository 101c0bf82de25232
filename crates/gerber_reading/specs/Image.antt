-- The image of the commands: the pieces that they make.
use Rattle.std.specs.Prelude.{ℕ, ◌+◌, List, [], ◌∷◌, ◌++◌, length, map, Result, Ok, Err}
use Rattle.board_shapes.specs.Pieces.{PieceOf}
use Rattle.gerber_reading.specs.Command.{Command}
use Rattle.gerber_reading.specs.CommandEffects.{Place, Known, Effect, Meaning, Profile, performs, closes, leaves, steps, concludes, listed}
use Rattle.gerber_reading.specs.Settings.{settings_before, defined_before, definitions_before, macros_before, contour_before}

-- the piece that the command of this number makes of a figure
abbrev pub piece_of : {G : Type 0} → Place → ℕ → G → PieceOf G
piece_of p number figure =
    record { figure = figure; top = p.layer; bottom = p.layer; origin = record { file = p.file; command = number; copy = 0 } }

-- the pieces that it makes of figures, in order
abbrev pub made : {G : Type 0} → Place → ℕ → List G → List (PieceOf G)
made p number figures = map (piece_of p number) figures

-- the pieces behind the command of this number
abbrev pub pieces_after : {G E A : Type 0} → Place → ℕ → List (PieceOf G) → (Effect G E A) → List (PieceOf G)
pieces_after p number pieces (steps next all) = all
pieces_after p number pieces (concludes all) = all
pieces_after p number pieces (performs to figures) = pieces ++ made p number figures
pieces_after p number pieces (closes to figure) = pieces ++ made p number (listed figure)
pieces_after p number pieces (leaves figure) = pieces ++ made p number (listed figure)
pieces_after p number pieces other = pieces

-- how many pieces stand before the open block then
abbrev pub start_after : {G E A : Type 0} → ℕ → (Effect G E A) → ℕ
start_after start (steps next all) = length all
start_after start other = start

-- the pieces so far, and how many of them stand before the open block
pub record Image (G : Type 0) : Type 0 where
  pub pieces : List (PieceOf G)
  pub start : ℕ

-- the image behind the command of this number; one with a fault makes nothing
abbrev pub with_effect : {G E A W : Type 0} → Place → ℕ → (Image G) → Result (Effect G E A) W → (Image G)
with_effect p number image (Ok e) = record { pieces = pieces_after p number image.pieces e; start = start_after image.start e }
with_effect p number image (Err fault) = image

-- what is known before the next command, with the image so far
abbrev pub known_with : {G E A : Type 0} → Meaning E A → Place → List Command → (Image G) → (Known G E A)
known_with m p earlier image = record {
  settings = settings_before earlier;
  defined = defined_before m.aperture earlier;
  definitions = definitions_before earlier;
  macros = macros_before m.primitive earlier;
  contour = contour_before m.edge earlier;
  pieces = image.pieces;
  start = image.start;
  place = p;
}

-- The image of the commands, by a table: the pieces that they make, in order. Those of a block give way to its copies where it
-- ends.
unfoldable pub image_by : {G E A W : Type 0} → Profile G E A W → Place → List Command → (Image G)
image_by f p [] = record { pieces = []; start = 0 }
image_by f p (c ∷ earlier) = with_effect p (length earlier + 1) (image_by f p earlier) (f.does (known_with f.means p earlier (image_by f p earlier)) c)

-- what is known before a command then, and what the command does
abbrev pub known_by : {G E A W : Type 0} → Profile G E A W → Place → List Command → (Known G E A)
known_by f p earlier = known_with f.means p earlier (image_by f p earlier)

abbrev pub effect_by : {G E A W : Type 0} → Profile G E A W → Place → List Command → Command → Result (Effect G E A) W
effect_by f p earlier c = f.does (known_by f p earlier) c

-- the pieces of the image
abbrev pub pieces_by : {G E A W : Type 0} → Profile G E A W → Place → List Command → List (PieceOf G)
pieces_by f p earlier = (image_by f p earlier).pieces
