-- What is judged of primitives, and what they flash where copper is taken exactly.
use Rattle.std.specs.Prelude.{◌≡◌, ◌≢◌, ℕ, Bool, true, false, ◌&&◌, not, nat_lt, if◌then◌else◌, List, Option, Some, None, Result, Ok, Err}
use Rattle.planar.specs.declared.Spot.{Spot}
use Rattle.board_shapes.specs.Figures.{Figure}
use Rattle.lengths.specs.Decimal.{Fraction}
use Rattle.lengths.specs.declared.decimal.Unit.{Unit as Measure}
use Rattle.aperture_macros.specs.declared.degrees.Turn.{Turn}
use Rattle.aperture_macros.specs.declared.primitive.Form.{Form}
use Rattle.aperture_macros.specs.declared.primitive.Form.TheVariants.{Circle, VectorLine, CentreLine}
use Rattle.aperture_macros.specs.declared.primitive.Copper.{Copper}
use Rattle.aperture_macros.specs.declared.primitive.Copper.TheVariants.{Real}
use Rattle.aperture_macros.specs.declared.primitive.Turning.{Turning}
use Rattle.aperture_macros.specs.declared.primitive.Turning.TheVariants.{Quarters, Degrees}
use Rattle.aperture_macros.specs.declared.images.Sketch.{Sketch}
use Rattle.aperture_macros.specs.declared.images.Sketch.TheVariants.{Stroke as Line}
use Rattle.aperture_macros.specs.declared.fault.MacroFault.{MacroFault}
use Rattle.aperture_macros.specs.declared.fault.MacroFault.TheVariants.{OffGrid, Turn as Turned}
use Rattle.aperture_macros.specs.BodyWord.{◌>>=◌, PlainPrimitive, count, part}
use Rattle.aperture_macros.specs.Degrees.{turn_at}
use Rattle.aperture_macros.specs.Fine.{fine_at, is_central}
use Rattle.aperture_macros.specs.declared.fine.FineSketch.{FineSketch}
use Rattle.aperture_macros.specs.Images.{centre_at, circle_at, figure_by, judged_by, line_at}

-- the turn that the expression behind the lengths says
abbrev pub turn_behind : Form → List ℕ → List Fraction → Result Turn MacroFault
turn_behind form text parameters = turn_at (part (count form) text) parameters

-- a figure that other turns than quarter turns would slant: a stroke
abbrev pub is_slanted : Result (Option Sketch) MacroFault → Bool
is_slanted (Ok (Some (Line p q w))) = true
is_slanted other = false

-- the primitive flashes such a one
unfoldable pub needs_quarters : Form → List ℕ → List Fraction → Measure → Bool
needs_quarters VectorLine text parameters unit = is_slanted (line_at Real text parameters unit)
needs_quarters other text parameters unit = false

-- what is judged of how a primitive is turned: such a one is turned by quarter turns alone
unfoldable pub turn_judged : Turning → Form → List ℕ → List Fraction → Measure → Result (Unit {0}) MacroFault
turn_judged (Quarters rotation) form text parameters unit = Ok tt
turn_judged Degrees form text parameters unit =
    turn_behind form text parameters >>= λ turn. if nat_lt 0 turn.rest && needs_quarters form text parameters unit then Err Turned else Ok tt

-- a sketch that has none, since a length is off the grid
abbrev pub is_off_grid : Result (Option Sketch) MacroFault → Bool
is_off_grid (Err OffGrid) = true
is_off_grid other = false

-- A circle or a line of real copper with a length off the grid of even sizes is judged anew as a fine one.
unfoldable pub is_fine : Turning → Form → List ℕ → List Fraction → Measure → Bool
is_fine Degrees Circle text parameters unit = is_off_grid (circle_at text parameters unit)
is_fine Degrees VectorLine text parameters unit = is_off_grid (line_at Real text parameters unit)
is_fine Degrees CentreLine text parameters unit = is_off_grid (centre_at text parameters unit)
is_fine turning form text parameters unit = false

-- a fine figure that other turns than quarter turns would turn
abbrev pub is_stiff : Option FineSketch → Bool
is_stiff None = false
is_stiff (Some f) = not (is_central f.kind f.start)

-- what is judged of a fine one: its lengths, and then its turn
unfoldable pub fine_judged : Form → List ℕ → List Fraction → Measure → Result (Unit {0}) MacroFault
fine_judged form text parameters unit =
    fine_at form text parameters unit >>= λ f. turn_behind form text parameters >>= λ turn. if nat_lt 0 turn.rest && is_stiff f then Err Turned else Ok tt

-- and of another
abbrev pub plainly_judged : Copper → PlainPrimitive → List Fraction → Measure → Result (Unit {0}) MacroFault
plainly_judged copper p parameters unit = judged_by copper p.form p.lengths parameters unit >>= λ done. turn_judged p.rotation p.form p.lengths parameters unit

-- the primitive's first fault with these parameters, if it has one: of its lengths, and then of its turn
abbrev pub judged : Copper → PlainPrimitive → List Fraction → Measure → Result (Unit {0}) MacroFault
judged copper p parameters unit = if is_fine p.rotation p.form p.lengths parameters unit then fine_judged p.form p.lengths parameters unit else plainly_judged copper p parameters unit

-- what a primitive flashes at a spot where copper is taken exactly: it is turned by quarter turns alone
unfoldable pub figure_turned : Turning → Form → List ℕ → List Fraction → Measure → Spot → Result (Option Figure) MacroFault
figure_turned (Quarters rotation) form text parameters unit at = figure_by form rotation text parameters unit at
figure_turned Degrees form text parameters unit at = Err Turned

abbrev pub figure_at : PlainPrimitive → List Fraction → Measure → Spot → Result (Option Figure) MacroFault
figure_at p parameters unit at = figure_turned p.rotation p.form p.lengths parameters unit at

-- the primitive has no image with these parameters: it flashes nothing, wherever that is
abbrev pub IsBlank : PlainPrimitive → List Fraction → Measure → Type 0
IsBlank p parameters unit = (at : Spot) → figure_at p parameters unit at ≡ Ok None

-- the primitive has an image with these parameters: wherever it is flashed, there is a figure or a fault
abbrev pub HasImage : PlainPrimitive → List Fraction → Measure → Type 0
HasImage p parameters unit = (at : Spot) → figure_at p parameters unit at ≢ Ok None
