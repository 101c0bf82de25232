-- What primitives of macros flash: figures about the origin, turned by quarter turns and what is left, and set down (Gerber Layer Format
-- Specification, 4.5.1).
use Rattle.std.specs.Prelude.{ℕ, ◌+◌, ◌*◌, ◌/◌, ◌==◌, ◌||◌, if◌then◌else◌, List, map, Option, Some, None, Result, Ok, Err, ◌-ℤ◌, unsigned_abs}
use Rattle.planar.specs.Plane.{same_spot}
use Rattle.planar.specs.declared.Spot.{Spot}
use Rattle.board_shapes.specs.Figures.{filled, round}
use Rattle.board_shapes.specs.Rectangles.{halved, rectangle}
use Rattle.contact.specs.declared.Bounds.{Bounds}
use Rattle.lengths.specs.Decimal.{Fraction}
use Rattle.lengths.specs.declared.decimal.Unit.{Unit as Measure}
use Rattle.aperture_macros.specs.BodyWord.{◌>>=◌, PlainPrimitive}
use Rattle.aperture_macros.specs.Fine.{fine_at}
use Rattle.aperture_macros.specs.Flashes.{is_fine}
use Rattle.aperture_macros.specs.Images.{outline_at, set_down}
use Rattle.aperture_macros.specs.Parts.{sketch_of, turn_of}
use Rattle.aperture_macros.specs.declared.degrees.Turn.{Turn}
use Rattle.aperture_macros.specs.declared.fault.MacroFault.{MacroFault}
use Rattle.aperture_macros.specs.declared.fault.MacroFault.TheVariants.{OutOfRange}
use Rattle.aperture_macros.specs.declared.fine.FineKind.{FineKind}
use Rattle.aperture_macros.specs.declared.fine.FineKind.TheVariants as fine
use Rattle.aperture_macros.specs.declared.fine.FineSketch.{FineSketch}
use Rattle.aperture_macros.specs.declared.images.Sketch.{Sketch}
use Rattle.aperture_macros.specs.declared.images.Sketch.TheVariants.{Disc, Rectangle, Regular, Stroke}
use Rattle.aperture_macros.specs.declared.primitive.Form.{Form}
use Rattle.aperture_macros.specs.declared.primitive.Form.TheVariants.{Outline}
use Rattle.aperture_macros.specs.declared.primitive.Rotation.{Rotation}
use Rattle.aperture_macros.specs.declared.primitive.Rotation.TheVariants.{Unturned, Quarter, Half, ThreeQuarters}
use Rattle.fine_figures.specs.declared.FineFigure.TheVariants as odd_figure
use Rattle.slants.specs.declared.cones.TheConstants.{RIGHT_ANGLE}
use Rattle.slants.specs.declared.polygons.RegularPolygon.{RegularPolygon}
use Rattle.real_copper.specs.Figures.{RealFigure, exact, is_real_placed, line, odd, polygon, turned, turned_disc}
use Rattle.real_copper.specs.Flashes.{sides_about, stroke_about}

-- a contour that is turned about a spot by what is left, if anything is
abbrev pub contour_turned : Spot → ℕ → List Spot → RealFigure
contour_turned about rest contour = if rest == 0 then exact (filled contour) else turned contour about rest

-- a disc that is: one about that spot stays as it is
abbrev pub disc : Spot → ℕ → RealFigure
disc p d = exact (round (record { a = p; b = p; r = halved d }))

abbrev pub disc_turned : Spot → ℕ → Spot → ℕ → RealFigure
disc_turned about rest p d =
    if rest == 0 || same_spot p about then disc p d
    else turned_disc (record { centre = p; radius = d / 2; about = about; angle = rest })

-- how many quarter turns it is
abbrev pub quarters_of : Rotation → ℕ
quarters_of Unturned = 0
quarters_of Quarter = 1
quarters_of Half = 2
quarters_of ThreeQuarters = 3

-- A polygon by its middle, the diameter of its circle in parts of a u, and its corners: the first is in the direction of the turn. Its middle is
-- turned with it about the flash; with nothing left to turn it stays, as one that is turned by 0 about itself.
abbrev pub polygon_turned : Turn → Spot → Spot → ℕ → ℕ → RealFigure
polygon_turned turn about p d n =
    let g : RegularPolygon = record { centre = p; corners = n; diameter = d; angle = quarters_of turn.quarters * RIGHT_ANGLE + turn.rest } in
    polygon (record { polygon = g; about = if turn.rest == 0 then p else about; angle = turn.rest })

-- a figure about the origin: by quarter turns, set down at a spot, and turned by what is left about it. A vector line along no axis has quarter turns alone.
abbrev pub sketch_at : Turn → Spot → Sketch → RealFigure
sketch_at turn at (Disc p d) = disc_turned at turn.rest (set_down turn.quarters at p) d
sketch_at turn at (Stroke p q w) = line (record { start = set_down turn.quarters at p; end = set_down turn.quarters at q; width = w })
sketch_at turn at (Rectangle low high) = contour_turned at turn.rest (map (set_down turn.quarters at) (rectangle low high))
sketch_at turn at (Regular p d n) = polygon_turned turn at (set_down turn.quarters at p) d n

-- and the points of an outline (code 4)
abbrev pub outlined_at : Turn → Spot → List Spot → RealFigure
outlined_at turn at points = contour_turned at turn.rest (map (set_down turn.quarters at) points)

-- ---- Those of an odd size, by quarter turns

-- the sides of a rectangle change places at a quarter turn
abbrev pub sides_turned : Rotation → Spot → ℕ → ℕ → Bounds
sides_turned Unturned m w h = sides_about m w h
sides_turned Quarter m w h = sides_about m h w
sides_turned Half m w h = sides_about m w h
sides_turned ThreeQuarters m w h = sides_about m h w

-- a disc (code 1), a rectangle (code 21), and a line (code 20), whose first spot comes to lie at p
abbrev pub width_of : FineSketch → ℕ
width_of f = unsigned_abs (f.end.x -ℤ f.start.x)

abbrev pub odd_kind : FineKind → Rotation → Spot → Spot → FineSketch → RealFigure
odd_kind fine.Disc rotation at p f = odd (odd_figure.Round (stroke_about p (width_of f) (width_of f)))
odd_kind fine.Rectangle rotation at p f = odd (odd_figure.Rectangle (sides_turned rotation p (width_of f) (unsigned_abs (f.side.y -ℤ f.start.y))))
odd_kind fine.Line rotation at p f = line (record { start = p; end = set_down rotation at f.end; width = unsigned_abs (f.side.x -ℤ f.start.x) })

abbrev pub odd_sketch_at : Rotation → Spot → FineSketch → RealFigure
odd_sketch_at rotation at f = odd_kind f.kind rotation at (set_down rotation at f.start) f

-- ---- A primitive

-- each end, corner and middle is at most 1 m from 0, before the turn that quarter turns leave (own)
abbrev pub within : RealFigure → Result (Option RealFigure) MacroFault
within f = if is_real_placed f then Ok (Some f) else Err OutOfRange

abbrev pub sketched : Turn → Spot → Option Sketch → Result (Option RealFigure) MacroFault
sketched turn at None = Ok None
sketched turn at (Some sketch) = within (sketch_at turn at sketch)

abbrev pub odd_sketched : Turn → Spot → Option FineSketch → Result (Option RealFigure) MacroFault
odd_sketched turn at None = Ok None
odd_sketched turn at (Some f) = within (odd_sketch_at turn.quarters at f)

-- of an odd size
abbrev pub odd_primitive : Turn → Form → List ℕ → List Fraction → Measure → Spot → Result (Option RealFigure) MacroFault
odd_primitive turn form text parameters unit at = fine_at form text parameters unit >>= λ f. odd_sketched turn at f

-- of even sizes: what the points of an outline bound, or its sketch
abbrev pub outline_figure : Turn → ℕ → List ℕ → List Fraction → Measure → Spot → Result (Option RealFigure) MacroFault
outline_figure turn n text parameters unit at = outline_at n text parameters unit >>= λ points. within (outlined_at turn at points)

abbrev pub even_figure : Turn → Form → List ℕ → List Fraction → Measure → Spot → Result (Option RealFigure) MacroFault
even_figure turn (Outline n) text parameters unit at = outline_figure turn n text parameters unit at
even_figure turn form text parameters unit at = sketch_of form text parameters unit >>= λ s. sketched turn at s

-- what a primitive flashes at a spot: one with a length off the grid of even sizes is judged anew
unfoldable pub primitive_figure : PlainPrimitive → List Fraction → Measure → Spot → Result (Option RealFigure) MacroFault
primitive_figure p parameters unit at =
    turn_of p parameters >>= λ turn.
    (if is_fine p.rotation p.form p.lengths parameters unit then odd_primitive turn p.form p.lengths parameters unit at
    else even_figure turn p.form p.lengths parameters unit at)
