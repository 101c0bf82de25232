-- What the reader keeps, and how it goes on, where pieces are shapes.
use Rattle.std.specs.Prelude.{◌≡◌, ℕ, ◌+◌, Bool, true, false, List, [], ◌++◌, get_or, slice_get, Option, Some, None, Result, Ok, Err, IfSome, IsSomeAnd}
use Rattle.planar.specs.Plane.{IsPlaced}
use Rattle.planar.specs.declared.Spot.{Spot}
use Rattle.contact.specs.declared.Capsule.{Capsule}
use Rattle.board_shapes.specs.Figures.{Figure, figure_of}
use Rattle.board_shapes.specs.Pieces.{PlainPiece, plain_pieces}
use Rattle.board_shapes.specs.declared.shape.Shape.{Shape}
use Rattle.board_shapes.specs.declared.shape.Shape.TheVariants.{Round}
use Rattle.board_shapes.specs.declared.placed.Origin.{Origin}
use Rattle.board_shapes.specs.declared.placed.Placed.{Placed}
use Rattle.step_repeat.specs.Figures.{shape_handling}
use Rattle.step_repeat.specs.Repeats.{IsLawful as IsLawfulRepeat}
use Rattle.step_repeat.specs.declared.repeat.Repeat.{Repeat}
use Rattle.aperture_macros.specs.BodyWord.{PlainPrimitive}
use Rattle.aperture_macros.specs.Flashes.{IsBlank}
use Rattle.aperture_macros.specs.Seen.{plain}
use Rattle.aperture_macros.specs.declared.fault.FigureFault.{FigureFault}
use Rattle.aperture_macros.specs.declared.fault.FigureFault.TheVariants as figure
use Rattle.apertures.specs.Flash.{IsLawful}
use Rattle.apertures.specs.declared.aperture.Aperture.{Aperture}
use Rattle.lengths.specs.Decimal.{Fraction}
use Rattle.lengths.specs.declared.decimal.Unit.{Unit as Measure}
use Rattle.file_reading.specs.declared.halt.Halt.{Halt}
use Rattle.file_reading.specs.declared.halt.Halt.TheVariants as halt
use Rattle.gerber_reading.specs.Command.{Command}
use Rattle.gerber_reading.specs.Image.{made}
use Rattle.gerber_reading.specs.Reader as reading
pub use Rattle.gerber_reading.specs.Reader.{Adds, HasClosed, HasMacros, KeepsTools, Lacks, Stops, Turns, body_of, contour_of, defined_in, halt_of_copy, halt_of_flash, kept_in, macros_in, place_of, size_of, tool_of}
use Rattle.gerber_reading.specs.declared.kind.GerberKind.{GerberKind}
use Rattle.gerber_reading.specs.declared.kind.GerberKind.TheVariants as kind
use Rattle.gerber_reading.specs.declared.dictionary.Dictionary as declared
use Rattle.gerber_reading.specs.declared.reader.Reader as kept
use Rattle.gerber_reading.specs.declared.tool.Tool as tool
use Rattle.gerber_reading.specs.declared.tool.Tool.TheVariants as given
use Rattle.gerber_layer.specs.declared.effect.Effect.{Effect as Seen}
use Rattle.gerber_layer.specs.declared.effect.Effect.TheVariants as seen
use Rattle.gerber_layer.specs.Tools.{Macros, macro_named}
use Rattle.gerber_layer.specs.CommandEffects.{Place, Known, Effect, ◌>>=◌, stays, makes, begins_macro, fills_macro, performs, closes, opens, leaves, steps, concludes, closing, ended_block, extend, flash, listed, room_for}

-- the reader, its dictionary and what that keeps, where pieces are shapes
abbrev pub Reader : Type 0
Reader = kept.Reader Shape (Unit {0}) Aperture

abbrev pub Dictionary : Type 0
Dictionary = declared.Dictionary Aperture

abbrev pub Given : Type 0
Given = tool.Tool Aperture

abbrev pub known_of : Reader → Known
known_of r = reading.known_of figure_of r

-- each primitive that is marked has no image with these parameters
abbrev pub AreBlank : List PlainPrimitive → List Fraction → Measure → List Bool → Type 0
AreBlank body parameters unit marks = (i : ℕ) → get_or marks i false ≡ true → IsSomeAnd (slice_get body i) (λ p. IsBlank p parameters unit)

-- and there is such a macro
abbrev pub AreBlankIn : Option (List PlainPrimitive) → List Fraction → Measure → List Bool → Type 0
AreBlankIn body parameters unit marks = IsSomeAnd body (λ b. AreBlank b parameters unit marks)

-- a standard aperture is lawful, and the marks of one of a macro are right where a file has these macros
abbrev pub Fits : Macros → Given → Type 0
Fits m (given.Standard aperture) = IsLawful aperture
Fits m (given.Composed name parameters unit marks) = AreBlankIn (macro_named m name.now) parameters.items unit marks.items

-- nothing is kept of an edge beside its end
abbrev pub KeepsStraight : Unit {0} → Type 0
KeepsStraight e = Unit {0}

-- so of each aperture that is kept
abbrev pub AllFit : Dictionary → Type 0
AllFit d = reading.AllFit Fits d

-- what an effect comes to, by the conditions that are tried when it is carried out
abbrev pub shown : Known → Seen → Result Effect GerberKind
shown k seen.Stays = Ok stays
shown k (seen.Makes n tool) = Ok (makes n (tool_of tool))
shown k (seen.Begins name) = Ok (begins_macro name.now)
shown k (seen.Fills primitive) = Ok (fills_macro (plain primitive))
shown k (seen.Moves to) = Ok (performs to [])
shown k (seen.Draws to stroke) = room_for k (Some (figure_of (Round stroke))) >>= λ figure. Ok (performs to (listed figure))
shown k (seen.Flashes to) = flash k to
shown k (seen.Extends to) = extend k to
shown k (seen.Closes to) = closing k >>= λ area. Ok (closes to area)
shown k (seen.Repeats next) = ended_block k >>= λ pieces. Ok (steps next pieces)
shown k seen.Ends = ended_block k >>= λ pieces. Ok (concludes pieces)
shown k seen.Opens = Ok opens
shown k seen.Leaves = closing k >>= λ area. Ok (leaves area)

-- and the fault of a command stays
abbrev pub showing : Known → Result Seen GerberKind → Result Effect GerberKind
showing k (Ok e) = shown k e
showing k (Err fault) = Err fault

-- what a draw comes to, by its stroke
abbrev pub drawn_by : Known → Spot → Result (Option Capsule) GerberKind → Result Effect GerberKind
drawn_by k to (Ok None) = Ok (performs to [])
drawn_by k to (Ok (Some stroke)) = room_for k (Some (figure_of (Round stroke))) >>= λ figure. Ok (performs to (listed figure))
drawn_by k to (Err fault) = Err fault

-- where an effect leads, and the block that it opens
abbrev pub leads : Seen → Option Spot
leads (seen.Moves to) = Some to
leads (seen.Draws to stroke) = Some to
leads (seen.Flashes to) = Some to
leads (seen.Extends to) = Some to
leads (seen.Closes to) = Some to
leads other = None

abbrev pub opens_block : Seen → Option Repeat
opens_block (seen.Repeats next) = next
opens_block other = None

-- The reader has obeyed a command that comes to this, which is no fault.
abbrev pub Obeys : {W : Type 0} → Reader → Command → Result Effect W → Reader → Type 0
Obeys old c what new = reading.Obeys figure_of old c what new

-- the edges are counted, and the pieces have room
abbrev pub AreCounted : Reader → Type 0
AreCounted r = reading.AreCounted figure_of shape_handling r

-- what a reader keeps between two commands
abbrev pub IsLawfulReader : Reader → Type 0
IsLawfulReader r = reading.IsLawfulReader figure_of shape_handling Fits KeepsStraight r

-- an effect that the reader can carry out
abbrev pub IsFit : Dictionary → Seen → Type 0
IsFit d (seen.Makes n tool) = Fits (macros_in d) tool × (defined_in d n ≡ None)
IsFit d (seen.Begins name) = macro_named (macros_in d) name.now ≡ None
IsFit d (seen.Moves to) = IsPlaced to
IsFit d (seen.Draws to stroke) = IsPlaced to
IsFit d (seen.Flashes to) = IsPlaced to
IsFit d (seen.Extends to) = IsPlaced to
IsFit d (seen.Closes to) = IsPlaced to
IsFit d (seen.Repeats next) = IfSome next IsLawfulRepeat
IsFit d other = Unit {0}

-- the reader has carried an effect out
abbrev pub Carries : Reader → Effect → Reader → Type 0
Carries old e new = reading.Carries figure_of old e new

abbrev pub CarriesOut : Reader → Result Effect GerberKind → Reader → Type 0
CarriesOut old what new = reading.CarriesOut figure_of old what new

-- the reader has these pieces more, or one, if there is a figure
abbrev pub TakesOn : Reader → List PlainPiece → Reader → Type 0
TakesOn old more new = reading.TakesOn figure_of old more new

abbrev pub Places : Reader → Option Figure → Reader → Type 0
Places old figure new = reading.Places figure_of old figure new

-- the reader has the pieces where its open block has ended
abbrev pub EndsBlock : Reader → Reader → Type 0
EndsBlock old new = reading.EndsBlock figure_of shape_handling old new

-- pieces are what the command of this number makes of the figures of a flash
pub record FlashesAll (what : Result (List Figure) GerberKind) (p : Place) (number : ℕ) (pieces : List (Placed Shape)) : Type 0 where
  pub figures : List Figure
  pub is : what ≡ Ok figures
  pub are : plain_pieces pieces ≡ made p number figures

-- the layer and the file of an origin, with no room
abbrev pub origin_place : ℕ → Origin → Place
origin_place layer origin = record { layer = layer; file = origin.file; room = record { pieces = 0; edges = 0 } }

-- what stops the reader where a primitive has no figure
abbrev pub halt_of_figure : FigureFault → Halt GerberKind
halt_of_figure (figure.Macro fault) = halt.Fault kind.OutOfRange
halt_of_figure figure.NoMemory = halt.NoMemory

-- The reader has closed its contour, and has its area as a piece more, if it had an edge.
pub record Closes (old new : Reader) : Type 0 where
  pub area : Option Figure
  pub is : closing (known_of old) ≡ Ok area
  pub settings : new.settings ≡ old.settings
  pub dictionary : new.dictionary ≡ old.dictionary
  pub contour : contour_of new.contour ≡ None
  pub pieces : plain_pieces new.pieces.items ≡ plain_pieces old.pieces.items ++ made (place_of old) (old.commands + 1) (listed area)
  pub start : new.start ≡ old.start
  pub counts : new.commands ≡ old.commands
  pub place : place_of new ≡ place_of old
