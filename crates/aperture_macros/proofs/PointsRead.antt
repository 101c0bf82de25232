-- What the points of an outline are, where they are read.
use Rattle.std.proofs.Common.{ℕ, ◌≡◌, ◌+◌, List, [], Result, Ok, Err}
use Rattle.std.specs.Prelude.{IfErr, IfOk}
use Rattle.planar.specs.declared.Spot.{Spot}
use Rattle.lengths.specs.Decimal.{Fraction}
use Rattle.lengths.specs.declared.decimal.Unit.{Unit as Measure}
use Rattle.aperture_macros.specs.Images.{outline_at, set_down}
use Rattle.aperture_macros.specs.Outlines.{closing_at, moved_from}
use Rattle.aperture_macros.specs.Parts.{IsPoints, IsPointsFault}
use Rattle.aperture_macros.specs.Seen.{IsRefusal}
use Rattle.aperture_macros.specs.declared.fault.FigureFault.{FigureFault}
use Rattle.aperture_macros.specs.declared.fault.FigureFault.TheVariants.{Macro, NoMemory}
use Rattle.aperture_macros.specs.declared.primitive.Rotation.{Rotation}
use Rattle.aperture_macros.proofs.Closings.{outline_refused, outlined_by}

-- what follows of a value follows of an answer
pub if_ok : {A E : Type 0} (P Q : A → Type 0) → ((x : A) → P x → Q x) → (r : Result A E) → IfOk r P → IfOk r Q
if_ok P Q f (Ok x) h = f x h
if_ok P Q f (Err e) h = tt

pub if_err : {A E : Type 0} (P Q : E → Type 0) → ((e : E) → P e → Q e) → (r : Result A E) → IfErr r P → IfErr r Q
if_err P Q f (Ok x) h = tt
if_err P Q f (Err e) h = f e h

pub points_are : (rotation : Rotation) (at : Spot) (n : ℕ) (text : List ℕ) (given : List Fraction) (unit : Measure) (moved : List Spot) → closing_at n text given unit ≡ Ok tt → moved_from (set_down rotation at) [] (n + 1) text given unit ≡ Ok moved → IsPoints rotation at (outline_at n text given unit) moved
points_are rotation at n text given unit moved judged made =
    let o = outlined_by (set_down rotation at) n text given unit moved judged made in
    record { points = o.points; is = o.outline; are = o.each }

pub points_fault : (rotation : Rotation) (at : Spot) (n : ℕ) (text : List ℕ) (given : List Fraction) (unit : Measure) (fault : FigureFault) → IsRefusal (moved_from (set_down rotation at) [] (n + 1) text given unit) fault → IsPointsFault (outline_at n text given unit) fault
points_fault rotation at n text given unit (Macro e) h = outline_refused (set_down rotation at) n text given unit e h
points_fault rotation at n text given unit NoMemory h = tt
