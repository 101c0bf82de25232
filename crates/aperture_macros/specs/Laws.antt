-- Laws of the strokes and areas that primitives flash.
use Rattle.std.specs.Prelude.{◌≡◌, ◌≢◌, List, Some, Ok}
use Rattle.board_shapes.specs.Figures.{Stroke, round}
use Rattle.lengths.specs.Decimal.{Fraction}
use Rattle.lengths.specs.declared.decimal.Unit.{Unit as Measure}
use Rattle.planar.specs.declared.Spot.{Spot}
use Rattle.aperture_macros.specs.declared.primitive.Form.TheVariants.{VectorLine}
use Rattle.aperture_macros.specs.declared.primitive.Copper.TheVariants.{Exact}
use Rattle.aperture_macros.specs.BodyWord.{PlainPrimitive}
use Rattle.aperture_macros.specs.Flashes.{figure_at, judged}

-- Where copper is taken exactly, each stroke that a primitive flashes is a disc.
abbrev pub FlashesDiscsAlone : Type 0
FlashesDiscsAlone = (p : PlainPrimitive) (parameters : List Fraction) (unit : Measure) (at : Spot) (s : Stroke) → judged Exact p parameters unit ≡ Ok tt → figure_at p parameters unit at ≡ Ok (Some (round s)) → s.a ≡ s.b

-- a stroke that runs along no axis
abbrev pub IsSlanted : Stroke → Type 0
IsSlanted s = (s.a.x ≢ s.b.x) × (s.a.y ≢ s.b.y)

-- A stroke that is no disc is that of a vector line along no axis.
abbrev pub StrokesAreSlantedLines : Type 0
StrokesAreSlantedLines = (p : PlainPrimitive) (parameters : List Fraction) (unit : Measure) (at : Spot) (s : Stroke) → figure_at p parameters unit at ≡ Ok (Some (round s)) → s.a ≢ s.b → (p.form ≡ VectorLine) × IsSlanted s
