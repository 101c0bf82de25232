-- The rows of real copper that make pieces: of draws, of flashes, of contours, and of blocks (Gerber Layer Format Specification, 4.4, 4.5, 4.8,
-- 4.10 and 4.12).
use Rattle.std.specs.Prelude.{ℕ, Bool, ◌+◌, ◌&&◌, ◌||◌, not, nat_le, nat_lt, if◌then◌else◌, List, [], ◌∷◌, ◌++◌, length, Option, Some, None, is_none, Result, Ok, Err}
use Rattle.planar.specs.Plane.{same_spot}
use Rattle.planar.specs.declared.Spot.{Spot}
use Rattle.apertures.specs.Flash.{NoFlash}
use Rattle.aperture_macros.specs.BodyWord.{PlainPrimitive}
use Rattle.aperture_macros.specs.declared.fault.MacroFault.{MacroFault}
use Rattle.area_contact.specs.declared.TheConstants.{MOST_CONTOUR_EDGES}
use Rattle.file_reading.specs.Conditions.{◌>>=◌, unless, needed}
use Rattle.gerber_reading.specs.Command.{Bending}
use Rattle.gerber_reading.specs.CommandEffects.{Effect, Known, closes, code_of, concludes, edges_for, edges_in, ended_block_by, exceed, extends, is_drawing, leaves, listed, next_block, opens, performs, room_for, room_for_all, selected, steps, target}
use Rattle.gerber_reading.specs.Tools.{Tool, composed, macro_named, standard}
use Rattle.gerber_reading.specs.declared.command.Code.{Code}
use Rattle.gerber_reading.specs.declared.command.Code.TheVariants.{Draw, Move, Flash}
use Rattle.gerber_reading.specs.declared.kind.GerberKind.TheVariants as kind
use Rattle.regions.specs.Contours.{Outline}
use Rattle.lengths.specs.Decimal.{Fraction}
use Rattle.lengths.specs.declared.decimal.Unit.{Unit as Measure}
use Rattle.real_copper.specs.Apertures.{pen_of}
use Rattle.real_copper.specs.Arcs.{as_real, bend_of, no_arc}
use Rattle.real_copper.specs.Contours.{area_of, end_of, is_too_short}
use Rattle.real_copper.specs.Draws.{draw_of}
use Rattle.real_copper.specs.Figures.{RealFigure, real_handling}
use Rattle.real_copper.specs.Flashes.{real_flash}
use Rattle.real_copper.specs.Kinds.{gerber}
use Rattle.real_copper.specs.Primitives.{primitive_figure}
use Rattle.real_copper.specs.declared.aperture.RealAperture.{RealAperture}
use Rattle.real_copper.specs.declared.draw.Bend.{Bend}
use Rattle.real_copper.specs.declared.kind.RealKind.{RealKind}

-- what is known before a command, and what one does: contours keep the bends of their edges
abbrev pub RealKnown : Type 0
RealKnown = Known RealFigure (Option Bend) RealAperture

abbrev pub RealEffect : Type 0
RealEffect = Effect RealFigure (Option Bend) RealAperture

-- ---- Draws

-- the pen that an aperture is: one of a macro is none
abbrev pub pen_with : Tool RealAperture → Option ℕ
pen_with (standard aperture) = pen_of aperture
pen_with (composed name parameters unit) = None

-- there is no room for one piece more
abbrev pub is_full : RealKnown → Bool
is_full k = nat_le k.place.room.pieces (length k.pieces)

-- the pen that is selected
abbrev pub pen_selected : RealKnown → Result ℕ RealKind
pen_selected k = needed (gerber kind.NoAperture) (selected k) >>= λ tool. needed (gerber kind.PenNotCircle) (pen_with tool)

-- a pen of diameter 0 draws nothing (own)
abbrev pub drawn : Option Bend → Spot → Spot → ℕ → Option RealFigure
drawn bend from to pen = if nat_lt 0 pen then Some (draw_of bend from to pen) else None

-- the stroke of a `D01` outside a region (4.8): its arc comes behind the pen and the room
unfoldable pub stroke : RealKnown → Bending → Spot → Result (Option RealFigure) RealKind
stroke k b to =
    pen_selected k >>= λ pen. unless (nat_lt 0 pen && is_full k) (gerber kind.TooManyPieces)
    (bend_of k.settings b to >>= λ bend. Ok (drawn bend k.settings.at to pen))

unfoldable pub draw : RealKnown → Bending → Spot → Result RealEffect RealKind
draw k b to = stroke k b to >>= λ figure. Ok (performs to (listed figure))

-- ---- Flashes

-- an end, a corner or a middle is over 1 m from 0
abbrev pub as_flash : Result (Option RealFigure) NoFlash → Result (Option RealFigure) RealKind
as_flash (Ok figure) = Ok figure
as_flash (Err why) = Err (gerber kind.OutOfRange)

-- a figure, if there is room for it
abbrev pub flash_in_room : RealKnown → Option RealFigure → Result (List RealFigure) RealKind
flash_in_room k flash = as_real (room_for k flash) >>= λ piece. as_real (edges_for real_handling k piece) >>= λ figure. Ok (listed figure)

-- what the primitives of a macro flash, in order
unfoldable pub figures_of : List PlainPrimitive → List Fraction → Measure → Spot → Result (List RealFigure) MacroFault
figures_of [] parameters unit to = Ok []
figures_of (p ∷ body) parameters unit to =
    primitive_figure p parameters unit to >>= λ figure. figures_of body parameters unit to >>= λ more. Ok (listed figure ++ more)

-- and nothing where there is no macro
abbrev pub macro_figures : Option (List PlainPrimitive) → List Fraction → Measure → Spot → Result (List RealFigure) MacroFault
macro_figures None parameters unit to = Ok []
macro_figures (Some body) parameters unit to = figures_of body parameters unit to

-- Their lengths were judged at the definition, so that a fault is an end, a corner or a middle over 1 m from 0.
abbrev pub all_flashed : Result (List RealFigure) MacroFault → Result (List RealFigure) RealKind
all_flashed (Ok figures) = Ok figures
all_flashed (Err fault) = Err (gerber kind.OutOfRange)

unfoldable pub flash_with : RealKnown → Tool RealAperture → Spot → Result (List RealFigure) RealKind
flash_with k (standard aperture) to = as_flash (real_flash aperture to) >>= λ flash. flash_in_room k flash
flash_with k (composed name parameters unit) to =
    all_flashed (macro_figures (macro_named k.macros name) parameters unit to) >>= λ all. as_real (room_for_all real_handling k all)

-- what the selected aperture flashes
unfoldable pub flashed : RealKnown → Spot → Result (List RealFigure) RealKind
flashed k to = needed (gerber kind.NoAperture) (selected k) >>= λ tool. flash_with k tool to

-- a `D03` outside a region
unfoldable pub flash : RealKnown → Bending → Spot → Result RealEffect RealKind
flash k b to = flashed k to >>= λ figures. no_arc b >>= λ none. Ok (performs to figures)

-- what an operation does outside a region; one that is no draw has no offsets, behind all else (own)
unfoldable pub perform : RealKnown → Code → Bending → Spot → Result RealEffect RealKind
perform k Draw b to = draw k b to
perform k Move b to = no_arc b >>= λ none. Ok (performs to [])
perform k Flash b to = flash k b to

-- ---- Contours

-- a `D01` in a region adds an edge with its bend
unfoldable pub extend : RealKnown → Bending → Spot → Result RealEffect RealKind
extend k b to =
    unless (nat_le MOST_CONTOUR_EDGES (edges_in k.contour) || exceed real_handling k (edges_in k.contour + 1)) (gerber kind.TooManyVertices)
    (bend_of k.settings b to >>= λ bend. Ok (extends to bend))

-- what the contour that ends bounds, if it has an edge: it is closed, of edges enough, and there is room for one piece
abbrev pub closed : RealKnown → Option (Outline (Option Bend)) → Result (Option RealFigure) RealKind
closed k None = Ok None
closed k (Some o) =
    unless (not (same_spot (end_of o.first o.legs) o.first)) (gerber kind.OpenContour)
    (unless (is_too_short o) (gerber kind.ShortContour)
    (unless (is_full k) (gerber kind.TooManyPieces) (Ok (Some (area_of o)))))

unfoldable pub closing : RealKnown → Result (Option RealFigure) RealKind
closing k = closed k k.contour

-- what an operation does in a region: a `D02` closes the contour
unfoldable pub perform_in_region : RealKnown → Code → Bending → Spot → Result RealEffect RealKind
perform_in_region k Draw b to = extend k b to
perform_in_region k Move b to = closing k >>= λ area. no_arc b >>= λ none. Ok (closes to area)
perform_in_region k Flash b to = Err (gerber kind.NotInRegion)

-- ---- Operations

-- by whether a region is open
abbrev pub operate_at : RealKnown → Code → Bending → Spot → Result RealEffect RealKind
operate_at k code b to = if k.settings.region then perform_in_region k code b to else perform k code b to

unfoldable pub operate : RealKnown → Option (List ℕ) → Option (List ℕ) → Option Code → Bending → Result RealEffect RealKind
operate k x y code b =
    unless (is_none code && not (is_drawing k.settings.last)) (gerber kind.NoOperation) (as_real (target k.settings x y) >>= λ to.
    operate_at k (code_of code) b to)

-- the row of `G36`
abbrev pub enter : RealKnown → Result RealEffect RealKind
enter k = unless k.settings.region (gerber kind.NotInRegion) (Ok opens)

-- the row of `G37`
unfoldable pub leave : RealKnown → Result RealEffect RealKind
leave k = unless (not k.settings.region) (gerber kind.NotInRegion) (closing k >>= λ area. Ok (leaves area))

-- ---- Blocks: each arc and each turned figure is copied as a whole

unfoldable pub repeat : RealKnown → List ℕ → Result RealEffect RealKind
repeat k text =
    unless k.settings.region (gerber kind.NotInRegion) (as_real (next_block k.settings.unit text) >>= λ next.
    as_real (ended_block_by real_handling k) >>= λ pieces. Ok (steps next pieces))

unfoldable pub end : RealKnown → Result RealEffect RealKind
end k = unless k.settings.region (gerber kind.NotInRegion) (as_real (ended_block_by real_handling k) >>= λ pieces. Ok (concludes pieces))
