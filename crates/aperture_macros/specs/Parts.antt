-- What a primitive of real copper is about the origin of its macro, before it is turned and set down.
use Rattle.std.specs.Prelude.{◌≡◌, ℕ, List, map, Option, None, Result, Ok, Err}
use Rattle.planar.specs.declared.Spot.{Spot}
use Rattle.lengths.specs.Decimal.{Fraction}
use Rattle.lengths.specs.declared.decimal.Unit.{Unit as Measure}
use Rattle.aperture_macros.specs.BodyWord.{PlainPrimitive}
use Rattle.aperture_macros.specs.Flashes.{turn_behind}
use Rattle.aperture_macros.specs.Images.{centre_at, circle_at, line_at, polygon_at, set_down}
use Rattle.aperture_macros.specs.declared.degrees.Turn.{Turn}
use Rattle.aperture_macros.specs.declared.fault.FigureFault.{FigureFault}
use Rattle.aperture_macros.specs.declared.fault.FigureFault.TheVariants.{Macro, NoMemory}
use Rattle.aperture_macros.specs.declared.fault.MacroFault.{MacroFault}
use Rattle.aperture_macros.specs.declared.images.Sketch.{Sketch}
use Rattle.aperture_macros.specs.declared.primitive.Copper.TheVariants.{Real}
use Rattle.aperture_macros.specs.declared.primitive.Form.{Form}
use Rattle.aperture_macros.specs.declared.primitive.Form.TheVariants.{Circle, Outline, VectorLine, CentreLine, Polygon}
use Rattle.aperture_macros.specs.declared.primitive.Rotation.{Rotation}
use Rattle.aperture_macros.specs.declared.primitive.Turning.{Turning}
use Rattle.aperture_macros.specs.declared.primitive.Turning.TheVariants.{Quarters, Degrees}

-- how it is turned: by quarter turns, or by the degrees behind its lengths
abbrev pub turn_by : Turning → Form → List ℕ → List Fraction → Result Turn MacroFault
turn_by (Quarters rotation) form text parameters = Ok (record { quarters = rotation; rest = 0 })
turn_by Degrees form text parameters = turn_behind form text parameters

abbrev pub turn_of : PlainPrimitive → List Fraction → Result Turn MacroFault
turn_of p parameters = turn_by p.rotation p.form p.lengths parameters

-- by its form and the text of its lengths; an outline has its points
abbrev pub sketch_of : Form → List ℕ → List Fraction → Measure → Result (Option Sketch) MacroFault
sketch_of Circle text parameters unit = circle_at text parameters unit
sketch_of (Outline n) text parameters unit = Ok None
sketch_of VectorLine text parameters unit = line_at Real text parameters unit
sketch_of CentreLine text parameters unit = centre_at text parameters unit
sketch_of (Polygon n) text parameters unit = polygon_at n text parameters unit

-- the spots are those points, set down
pub record IsPoints (rotation : Rotation) (at : Spot) (what : Result (List Spot) MacroFault) (spots : List Spot) : Type 0 where
  pub points : List Spot
  pub is : what ≡ Ok points
  pub are : spots ≡ map (set_down rotation at) points

-- why there are none
abbrev pub IsPointsFault : Result (List Spot) MacroFault → FigureFault → Type 0
IsPointsFault what (Macro fault) = what ≡ Err fault
IsPointsFault what NoMemory = Unit {0}
