-- The history of commands that the lines of a flattened text make.
use Rattle.std.proofs.Common.{◌≡◌, ℕ, ◌+◌, true, false, List, [], ◌∷◌, ◌++◌, length, map, Some, None, Result, Ok, refl, sym, ap, ◌∙◌, subst, append-nil}
use Rattle.std.proofs.lemmas.List.{map-append}
use Rattle.planar.specs.Plane.{IsPlaced}
use Rattle.planar.specs.declared.Spot.{Spot}
use Rattle.lengths.specs.declared.decimal.Unit.TheVariants.{Mm}
use Rattle.board_shapes.specs.Figures.{Figure}
use Rattle.board_shapes.specs.Pieces.{PlainPiece}
use Rattle.gerber_reading.specs.Command.{Command}
use Rattle.gerber_reading.specs.declared.command.Code.{Code}
use Rattle.gerber_layer.specs.WordCommands.{plain, command_of}
use Rattle.gerber_layer.specs.CommandEffects.{Effect, effect}
use Rattle.gerber_reading.specs.declared.place.Place.{Place}
use Rattle.gerber_reading.specs.Settings.{format_before, unit_before, block_open, has_ended, point_before, x_before, y_before}
use Rattle.gerber_reading.specs.declared.kind.GerberKind.{GerberKind}
use Rattle.gerber_layer.specs.Image.{image_of, with_effect, known_before, effect_before, pieces_of, pieces_after, made}
use Rattle.file_reading.specs.Reading.{Clean}
use Rattle.macro_flatten.specs.FlatText.{Line, word, extended}
use Rattle.macro_flatten.proofs.Operations.{seven, coordinate_is}
use Rattle.macro_flatten.proofs.Effects.{IsSet, at_spot}
use Rattle.gerber_reading.specs.Image.{image_by}

-- the command that a line is read as
abbrev pub told : Line → Command
told (word text) = plain text
told (extended text) = command_of (record { at = 0; text = text; extended = true; body = false })

-- the history behind more lines; the last command is first
abbrev pub behind : List Command → List Line → List Command
behind h [] = h
behind h (l ∷ lines) = behind (told l ∷ h) lines

pub behind-append : (h : List Command) (xs ys : List Line) → behind h (xs ++ ys) ≡ behind (behind h xs) ys
behind-append h [] ys = refl
behind-append h (x ∷ xs) ys = behind-append (told x ∷ h) xs ys

-- what holds behind the command holds behind its line
pub as_read : (P : List Command → Type 0) (h : List Command) (l : Line) (c : Command) → told l ≡ c → P (c ∷ h) → P (told l ∷ h)
as_read P h l c e k = subst (λ (d : Command). P (d ∷ h)) (sym e) k

abbrev pub figure_in : PlainPiece → Figure
figure_in piece = piece.figure

-- the text's settings are in force, no command has a fault, and none ends the text
pub record Stands (p : Place) (h : List Command) : Type 0 where
  pub clean : Clean (effect_before p) h
  pub format : format_before h ≡ Some seven
  pub unit : unit_before h ≡ Some Mm
  pub block : block_open h ≡ None
  pub ended : has_ended h ≡ false

pub is_set : (p : Place) (h : List Command) → Stands p h → IsSet (known_before p h)
is_set p h s = record { format = s.format; unit = s.unit; block = s.block; ended = s.ended }

-- a command with an effect has no fault
pub clean_then : (p : Place) (h : List Command) (c : Command) (e : Effect) → Clean (effect_before p) h → effect (known_before p h) c ≡ Ok e → Clean (effect_before p) (c ∷ h)
clean_then p h c e clean is = ((rw is refl), clean)

-- and these pieces stand behind it
pub pieces_then : (p : Place) (h : List Command) (c : Command) (e : Effect) → effect (known_before p h) c ≡ Ok e → pieces_of p (c ∷ h) ≡ pieces_after p (length h + 1) (pieces_of p h) e
unfolding image_by
pieces_then p h c e is = ap (λ (r : Result Effect GerberKind). (with_effect p (length h + 1) (image_of p h) r).pieces) is

pub no_pieces : (p : Place) → pieces_of p [] ≡ []
unfolding image_by
no_pieces p = refl

-- the figures with that of one more piece
pub figures-none : (p : Place) (n : ℕ) (pieces : List PlainPiece) (figures : List Figure) → map figure_in pieces ≡ figures → map figure_in (pieces ++ made p n []) ≡ figures
figures-none p n pieces figures e = ap (map figure_in) (append-nil pieces) ∙ e

pub figures-more : (p : Place) (n : ℕ) (pieces : List PlainPiece) (figures : List Figure) (f : Figure) → map figure_in pieces ≡ figures → map figure_in (pieces ++ made p n (f ∷ [])) ≡ figures ++ f ∷ []
figures-more p n pieces figures f e = map-append figure_in pieces (made p n (f ∷ [])) ∙ ap (λ (fs : List Figure). fs ++ f ∷ []) e

-- the current point behind an operation
pub point_then : (p : Place) (h : List Command) (to : Spot) (code : Code) → Stands p h → IsPlaced to → point_before (at_spot to code ∷ h) ≡ to
point_then p h to code s placed =
    let x = (coordinate_is to.x placed.0).value (x_before h) in
    let y = (coordinate_is to.y placed.1).value (y_before h) in
    rw (s.format, s.unit, x, y) refl
