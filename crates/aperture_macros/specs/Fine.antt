-- Fine primitives: circles, vector lines and centre lines of real copper with a size that is an odd number of u (Gerber Layer Format Specification, 4.5.1, codes 1, 20 and 21).
use Rattle.std.specs.Prelude.{ℕ, Bool, false, ◌||◌, ◌==◌, nat_lt, if◌then◌else◌, List, pos, ◌+ℤ◌, Option, Some, None, Result, Ok, Err}
use Rattle.planar.specs.declared.Spot.{Spot}
use Rattle.contact.specs.declared.TheConstants.{MOST_DIAMETER}
use Rattle.lengths.specs.Decimal.{Fraction}
use Rattle.lengths.specs.declared.decimal.Unit.{Unit as Measure}
use Rattle.aperture_macros.specs.declared.fine.FineKind.{FineKind}
use Rattle.aperture_macros.specs.declared.fine.FineKind.TheVariants.{Disc, Rectangle, Line}
use Rattle.aperture_macros.specs.declared.fine.FineSketch.{FineSketch}
use Rattle.aperture_macros.specs.declared.primitive.Form.{Form}
use Rattle.aperture_macros.specs.declared.primitive.Form.TheVariants.{Circle, VectorLine, CentreLine}
use Rattle.aperture_macros.specs.declared.fault.MacroFault.{MacroFault}
use Rattle.aperture_macros.specs.declared.fault.MacroFault.TheVariants.{OffGrid, OutOfRange}
use Rattle.aperture_macros.specs.BodyWord.{◌>>=◌, part, past}
use Rattle.planar.specs.Plane.{IsReachable, same_spot}
use Rattle.aperture_macros.specs.Images.{right_of}
use Rattle.aperture_macros.specs.Values.{extent_at, point_at}

-- so far above a spot
abbrev pub above : Spot → ℕ → Spot
above p far = record { x = p.x; y = p.y +ℤ pos far }

-- a diameter, or the width of a vector line
unfoldable pub breadth_at : List ℕ → List Fraction → Measure → Result ℕ MacroFault
breadth_at text parameters unit = extent_at text parameters unit >>= λ n. if nat_lt MOST_DIAMETER n then Err OutOfRange else Ok n

-- `d,x,y`: a disc by its middle, and the spot as far to the right of it as it is wide
unfoldable pub fine_circle : List ℕ → List Fraction → Measure → Result (Option FineSketch) MacroFault
fine_circle text parameters unit =
    breadth_at (part 0 text) parameters unit >>= λ d. point_at (past 1 text) parameters unit >>= λ p.
    Ok (if d == 0 then None else Some (record { kind = Disc; start = p; end = right_of p d; side = p }))

-- `w,x,y,x,y`: a line in any direction by its ends, and the spot as far to the right of its start as it is wide
unfoldable pub fine_line : List ℕ → List Fraction → Measure → Result (Option FineSketch) MacroFault
fine_line text parameters unit =
    breadth_at (part 0 text) parameters unit >>= λ w. point_at (past 1 text) parameters unit >>= λ p. point_at (past 3 text) parameters unit >>= λ q.
    Ok (if w == 0 || same_spot p q then None else Some (record { kind = Line; start = p; end = q; side = right_of p w }))

-- `w,h,x,y`: a rectangle by its middle, and the spots as far to the right of it and above it as it is wide and high
unfoldable pub fine_centre : List ℕ → List Fraction → Measure → Result (Option FineSketch) MacroFault
fine_centre text parameters unit =
    extent_at (part 0 text) parameters unit >>= λ w. extent_at (part 1 text) parameters unit >>= λ h. point_at (past 2 text) parameters unit >>= λ p.
    Ok (if w == 0 || h == 0 then None else Some (record { kind = Rectangle; start = p; end = right_of p w; side = above p h }))

-- by the form of a primitive and the text of its lengths; outlines and polygons tell no sizes so
unfoldable pub fine_at : Form → List ℕ → List Fraction → Measure → Result (Option FineSketch) MacroFault
fine_at Circle text parameters unit = fine_circle text parameters unit
fine_at VectorLine text parameters unit = fine_line text parameters unit
fine_at CentreLine text parameters unit = fine_centre text parameters unit
fine_at other text parameters unit = Err OffGrid

-- Other turns than quarter turns leave a disc about the origin as it is; all else they would turn.
abbrev pub is_central : FineKind → Spot → Bool
is_central Disc p = same_spot p (record { x = pos 0; y = pos 0 })
is_central other p = false

-- its spots are at most two metres from 0
abbrev pub IsNearFine : Option FineSketch → Type 0
IsNearFine None = Unit {0}
IsNearFine (Some f) = IsReachable f.start × IsReachable f.end × IsReachable f.side
