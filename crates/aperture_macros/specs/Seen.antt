-- The answers as plain data.
use Rattle.std.specs.Prelude.{Bool, true, false, List, ◌≡◌, ◌≢◌, Option, Some, option_map, Result, Ok, Err}
use Rattle.planar.specs.declared.Spot.{Spot}
use Rattle.board_shapes.specs.declared.shape.Shape.{Shape}
use Rattle.board_shapes.specs.Figures.{Figure, filled, seen_shape}
use Rattle.aperture_macros.specs.declared.primitive.Form.{Form}
use Rattle.aperture_macros.specs.declared.primitive.Form.TheVariants.{Circle}
use Rattle.aperture_macros.specs.declared.primitive.Primitive.{Primitive}
use Rattle.aperture_macros.specs.declared.fault.MacroFault.{MacroFault}
use Rattle.aperture_macros.specs.declared.fault.FigureFault.{FigureFault}
use Rattle.aperture_macros.specs.declared.fault.FigureFault.TheVariants.{Macro, NoMemory}
use Rattle.aperture_macros.specs.BodyWord.{PlainPrimitive}

-- a primitive without where its bytes lie in memory
abbrev pub plain : Primitive → PlainPrimitive
plain p = record { form = p.form; rotation = p.rotation; lengths = p.lengths.now }

-- whether a primitive is a circle
abbrev pub is_circle : Form → Bool
is_circle Circle = true
is_circle other = false

-- a primitive, where there may be none or a fault
abbrev pub seen_body : Result (Option Primitive) MacroFault → Result (Option PlainPrimitive) MacroFault
seen_body (Ok p) = Ok (option_map plain p)
seen_body (Err fault) = Err fault

abbrev pub seen_one : Result Primitive MacroFault → Result PlainPrimitive MacroFault
seen_one (Ok p) = Ok (plain p)
seen_one (Err fault) = Err fault

-- the answer is the figure
abbrev pub IsMade : Result (Option Shape) FigureFault → Result (Option Figure) MacroFault → Type 0
IsMade (Ok shape) figure = Ok (seen_shape shape) ≡ figure
IsMade (Err (Macro fault)) figure = Err fault ≡ figure
IsMade (Err NoMemory) figure = ⊥

-- the answer is the figure, unless memory is wanted
abbrev pub Makes : Result (Option Shape) FigureFault → Result (Option Figure) MacroFault → Type 0
Makes (Ok shape) figure = Ok (seen_shape shape) ≡ figure
Makes (Err (Macro fault)) figure = Err fault ≡ figure
Makes (Err NoMemory) figure = Unit {0}

-- the figure is no area
abbrev pub IsNoArea : Result (Option Figure) MacroFault → Type 0
IsNoArea figure = (points : List Spot) → figure ≢ Ok (Some (filled points))

-- why the points are not there
abbrev pub IsRefusal : Result (List Spot) MacroFault → FigureFault → Type 0
IsRefusal points (Macro fault) = points ≡ Err fault
IsRefusal points NoMemory = Unit {0}
