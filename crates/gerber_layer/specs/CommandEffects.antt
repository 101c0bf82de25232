-- What a command does, or its fault, by what is known before it, where pieces are shapes and contours are straight.
use Rattle.std.specs.Prelude.{ℕ, ◌&&◌, not, Bool, if◌then◌else◌, List, [], ◌∷◌, ◌++◌, Option, Some, None, is_none, Result, Ok, Err}
use Rattle.planar.specs.declared.Spot.{Spot}
use Rattle.lengths.specs.Decimal.{Fraction, other_unit}
use Rattle.lengths.specs.declared.decimal.Unit.{Unit as Measure}
use Rattle.board_shapes.specs.Figures.{Figure, round, filled}
use Rattle.board_shapes.specs.Pieces.{PlainPiece}
use Rattle.board_shapes.specs.Pieces as plain
use Rattle.board_shapes.specs.declared.placed.Room.{Room}
use Rattle.regions.specs.Contours.{Flaw, stays_open, too_short, close_of, points_of}
use Rattle.apertures.specs.declared.aperture.Aperture.{Aperture}
use Rattle.apertures.specs.Definition.{aperture_at, is_zero}
use Rattle.apertures.specs.Flash.{NoFlash, flash_of, half}
use Rattle.aperture_macros.specs.BodyWord.{PlainPrimitive, primitive_at}
use Rattle.aperture_macros.specs.Flashes.{figure_at}
use Rattle.aperture_macros.specs.declared.fault.MacroFault.{MacroFault}
use Rattle.aperture_macros.specs.declared.primitive.Copper.TheVariants.{Exact}
use Rattle.step_repeat.specs.Figures.{shape_handling}
use Rattle.step_repeat.specs.declared.repeat.Repeat.{Repeat}
use Rattle.gerber_reading.specs.Command.{Command, nothing, refused, formats, counts_in, defines, selects, curves, quarters, repeats, functions, opens_region, closes_region, operates, ends, names_macro, body_word, breaks, finishes}
use Rattle.gerber_reading.specs.declared.kind.GerberKind.{GerberKind}
use Rattle.gerber_reading.specs.declared.kind.GerberKind.TheVariants as kind
use Rattle.gerber_reading.specs.declared.command.Code.{Code}
use Rattle.gerber_reading.specs.declared.command.Code.TheVariants.{Draw, Move, Flash}
use Rattle.gerber_reading.specs.CommandEffects as reading
pub use Rattle.gerber_reading.specs.CommandEffects.{Meaning, stays, makes, begins_macro, fills_macro, performs, extends, closes, opens, leaves, steps, concludes, kind_of_aperture, kind_of_word, other_format, read, define_as, define_by, code_of, is_drawing, gridded, coordinate, target, lookup, selected, room_for, room_or, edges_in, listed, kind_of_repeat, as_repeat, next_block, kind_of_copy, as_copies, layer_text, is_of_layer, is_finish}
pub use Rattle.file_reading.specs.Conditions.{◌>>=◌, unless, needed}
pub use Rattle.gerber_reading.specs.declared.place.Place.{Place}
pub use Rattle.regions.specs.Contours.{Outline}
use Rattle.gerber_layer.specs.Tools.{Tool, standard, composed, macro_named, pen_with}

-- what is known before a command, and what it does, where pieces are figures of shapes, an edge keeps nothing beside its end, and apertures
-- are standard ones
abbrev pub Known : Type 0
Known = reading.Known Figure (Unit {0}) Aperture

abbrev pub Effect : Type 0
Effect = reading.Effect Figure (Unit {0}) Aperture

-- a table of commands, and what their words mean
abbrev pub Profile : Type 0 → Type 0
Profile W = reading.Profile Figure (Unit {0}) Aperture W

-- by the standard apertures, and by primitives that are taken exactly
abbrev pub exact_meaning : Meaning (Unit {0}) Aperture
exact_meaning = record { edge = λ s c. tt; aperture = aperture_at; primitive = primitive_at Exact }

-- the edges of all areas among the pieces
abbrev pub edges_of : List PlainPiece → ℕ
edges_of pieces = plain.edges_in pieces

-- that many edges more are too many
abbrev pub exceed : Known → ℕ → Bool
exceed k more = reading.exceed shape_handling k more

-- a figure, if there is room for its edges, and figures, if there is room for all of them
abbrev pub edges_for : Known → Option Figure → Result (Option Figure) GerberKind
edges_for k figure = reading.edges_for shape_handling k figure

abbrev pub lacks_room : Known → ℕ → ℕ → Option GerberKind
lacks_room k pieces edges = reading.lacks_room shape_handling k pieces edges

abbrev pub room_for_all : Known → List Figure → Result (List Figure) GerberKind
room_for_all k figures = reading.room_for_all shape_handling k figures

-- the row of a definition (Gerber Layer Format Specification, 4.3)
unfoldable pub define : Known → List ℕ → Result Effect GerberKind
define k text = define_by aperture_at k text

-- a `D01` outside a region: a capsule with half the pen, and nothing for a pen of diameter 0
unfoldable pub draw : Known → Spot → Result Effect GerberKind
draw k to = do
  aperture ← needed kind.NoAperture (selected k)
  pen ← needed kind.PenNotCircle (pen_with aperture)
  figure ← room_for k (if is_zero pen then None else Some (round (record { a = k.settings.at; b = to; r = half pen })))
  Ok (performs to (listed figure))

-- a `D01` in a region adds an edge to the contour
abbrev pub extend : Known → Spot → Result Effect GerberKind
extend k to = reading.extend_by shape_handling k to tt

-- how a contour that bounds no area is refused
abbrev pub kind_of_closing : Flaw → GerberKind
kind_of_closing stays_open = kind.OpenContour
kind_of_closing too_short = kind.ShortContour

-- the points of the area that a contour bounds, or its refusal
abbrev pub closed : Result (Option (List Spot)) Flaw → Result (Option (List Spot)) GerberKind
closed (Ok points) = Ok points
closed (Err flaw) = Err (kind_of_closing flaw)

-- the area of points, if there are any
abbrev pub area_if : Option (List Spot) → Option Figure
area_if None = None
area_if (Some points) = Some (filled points)

-- what the contour so far bounds: nothing where it has no edge
abbrev pub contour_closed : Option (Outline (Unit {0})) → Result (Option (List Spot)) Flaw
contour_closed None = Ok None
contour_closed (Some o) = close_of (points_of o)

-- the area of the contour that ends, if it has an edge
unfoldable pub closing : Known → Result (Option Figure) GerberKind
closing k = closed (contour_closed k.contour) >>= λ points. room_for k (area_if points)

-- the flash, or its refusal: an end or a corner is over 1 m from 0
abbrev pub flashed : Result (Option Figure) NoFlash → Result (Option Figure) GerberKind
flashed (Ok figure) = Ok figure
flashed (Err flaw) = Err kind.OutOfRange

-- the figure of a flash, if there is room for it
abbrev pub flash_in_room : Known → Spot → Option Figure → Result Effect GerberKind
flash_in_room k to flash = do
  piece ← room_for k flash
  figure ← edges_for k piece
  Ok (performs to (listed figure))

-- a flash of a standard aperture
unfoldable pub flash_by : Known → Aperture → Spot → Result Effect GerberKind
flash_by k aperture to = flashed (flash_of aperture to) >>= λ flash. flash_in_room k to flash

-- what the primitives of a macro flash, in order
unfoldable pub figures_of : List PlainPrimitive → List Fraction → Measure → Spot → Result (List Figure) MacroFault
figures_of [] parameters unit to = Ok []
figures_of (p ∷ body) parameters unit to =
    figure_at p parameters unit to >>= λ figure. figures_of body parameters unit to >>= λ more. Ok (listed figure ++ more)

-- and nothing where there is no macro
abbrev pub macro_figures : Option (List PlainPrimitive) → List Fraction → Measure → Spot → Result (List Figure) MacroFault
macro_figures None parameters unit to = Ok []
macro_figures (Some body) parameters unit to = figures_of body parameters unit to

-- Their lengths were judged at the definition, so that a fault is an end or a corner over 1 m from 0.
abbrev pub all_flashed : Result (List Figure) MacroFault → Result (List Figure) GerberKind
all_flashed (Ok figures) = Ok figures
all_flashed (Err fault) = Err kind.OutOfRange

-- a flash of an aperture
unfoldable pub flash_with : Known → Tool → Spot → Result Effect GerberKind
flash_with k (standard aperture) to = flash_by k aperture to
flash_with k (composed name parameters unit) to = do
  all ← all_flashed (macro_figures (macro_named k.macros name) parameters unit to)
  figures ← room_for_all k all
  Ok (performs to figures)

-- a `D03` outside a region
unfoldable pub flash : Known → Spot → Result Effect GerberKind
flash k to = needed kind.NoAperture (selected k) >>= λ aperture. flash_with k aperture to

-- what an operation does outside a region
unfoldable pub perform : Known → Code → Spot → Result Effect GerberKind
perform k Draw to = draw k to
perform k Move to = Ok (performs to [])
perform k Flash to = flash k to

-- and in a region: a `D02` closes the contour
unfoldable pub perform_in_region : Known → Code → Spot → Result Effect GerberKind
perform_in_region k Draw to = extend k to
perform_in_region k Move to = closing k >>= λ area. Ok (closes to area)
perform_in_region k Flash to = Err kind.NotInRegion

-- the rows of operations (Gerber Layer Format Specification, 4.2, 4.8 and 4.10)
unfoldable pub operate : Known → Option (List ℕ) → Option (List ℕ) → Option Code → Result Effect GerberKind
operate k x y code =
    unless (is_none code && not (is_drawing k.settings.last)) kind.NoOperation (target k.settings x y >>= λ to.
    (if k.settings.region then perform_in_region k (code_of code) to else perform k (code_of code) to))

-- the room that the pieces before the open block leave, and the pieces where a block ends
abbrev pub left : Known → Room
left k = reading.left_by shape_handling k

abbrev pub with_copies : Known → Option Repeat → Result (List PlainPiece) GerberKind
with_copies k block = reading.with_copies_by shape_handling k block

abbrev pub ended_block : Known → Result (List PlainPiece) GerberKind
ended_block k = reading.ended_block_by shape_handling k

-- the row of step and repeat (Gerber Layer Format Specification, 4.12): the word ends the open block and opens one
unfoldable pub repeat : Known → List ℕ → Result Effect GerberKind
repeat k text =
    unless k.settings.region kind.NotInRegion (next_block k.settings.unit text >>= λ next. ended_block k >>= λ pieces. Ok (steps next pieces))

-- the row of `G37`
unfoldable pub leave : Known → Result Effect GerberKind
leave k = unless (not k.settings.region) kind.NotInRegion (closing k >>= λ area. Ok (leaves area))

-- The rows of the table of commands: the conditions of each in order, and its effect (Gerber Layer Format Specification, in its
-- order; above a row stands the section's number, or its title where numbers differ between revisions).
unfoldable pub row : Known → Command → Result Effect GerberKind
-- Comment and others: what changes nothing, and what is refused by itself
row k nothing = Ok stays
row k (refused why) = Err why
-- 4.2.1, MO
row k (counts_in unit) = unless (other_unit k.settings.unit unit) kind.UnitConflict (Ok stays)
-- 4.2.2, FS
row k (formats format) = unless (other_format k.settings.format format) kind.BadFormat (Ok stays)
-- 4.3, AD
row k (defines text) = define k text
-- 4.5, AM and the words behind it: only `MacroTable` reads macros
row k (names_macro name) = Err kind.Macro
row k (body_word text) = Err kind.Macro
-- Set current aperture, Dnn
row k (selects n) = unless (is_none (k.defined n)) kind.NoAperture (Ok stays)
-- 4.8, D01, D02 and D03
row k (operates x y code b) = operate k x y code
-- 4.7: the words of lines alone say nothing here, and those of arcs are refused by themselves
row k (curves curve) = Ok stays
row k (quarters quadrants) = Ok stays
-- 4.10, G36
row k opens_region = unless k.settings.region kind.NotInRegion (Ok opens)
-- 4.10, G37
row k closes_region = leave k
-- 4.12, SR
row k (repeats text) = repeat k text
-- End-of-file, M02; a word that breaks off, and a file that ends without an end word
row k ends = unless k.settings.region kind.NotInRegion (ended_block k >>= λ pieces. Ok (concludes pieces))
row k (breaks fault) = Err (kind_of_word fault)
row k finishes = Err kind.NotEnded
-- 5.6.3, the file's function
row k (functions function layer) = unless (not (is_of_layer function layer k.place.layer)) kind.WrongLayer (Ok stays)

-- behind the end nothing may stand but the file's end
unfoldable pub effect : Known → Command → Result Effect GerberKind
effect k c =
    if k.settings.ended then (if is_finish c then Ok stays else Err kind.AfterEnd)
    else row k c

-- the table of the standard apertures alone
abbrev pub plain_table : Profile GerberKind
plain_table = record { does = effect; means = exact_meaning }
