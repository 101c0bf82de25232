-- The figures of primitives: about the origin of the macro, and where they are flashed.
use Rattle.std.specs.Prelude.{ℕ, zero, suc, ◌+◌, Bool, true, ◌&&◌, ◌||◌, ◌==◌, nat_lt, if◌then◌else◌, List, [], ◌∷◌, ◌++◌, map, ◌+ℤ◌, neg_ℤ, int_lt, pos, Option, Some, None, Result, Ok, Err}
use Rattle.std.specs.List.{list_all}
use Rattle.std.specs.Ordering.{int_eq}
use Rattle.planar.specs.Plane.{is_placed, same_spot}
use Rattle.planar.specs.declared.Spot.{Spot}
use Rattle.contact.specs.declared.TheConstants.{MOST_DIAMETER}
use Rattle.area_contact.specs.Contour.{end_from}
use Rattle.board_shapes.specs.Figures.{Figure, filled, round}
use Rattle.board_shapes.specs.Rectangles.{halved, lower, rectangle, upper}
use Rattle.lengths.specs.Decimal.{Fraction}
use Rattle.lengths.specs.declared.decimal.Unit.{Unit as Measure}
use Rattle.aperture_macros.specs.declared.primitive.Form.{Form}
use Rattle.aperture_macros.specs.declared.primitive.Form.TheVariants.{Circle, Outline, VectorLine, CentreLine, Polygon}
use Rattle.aperture_macros.specs.declared.primitive.Copper.{Copper}
use Rattle.aperture_macros.specs.declared.primitive.Copper.TheVariants.{Exact, Real}
use Rattle.aperture_macros.specs.declared.primitive.Rotation.{Rotation}
use Rattle.aperture_macros.specs.declared.primitive.Rotation.TheVariants.{Unturned, Quarter, Half, ThreeQuarters}
use Rattle.aperture_macros.specs.declared.images.Sketch.{Sketch}
use Rattle.aperture_macros.specs.declared.images.Sketch.TheVariants.{Disc, Rectangle, Regular, Stroke}
use Rattle.aperture_macros.specs.declared.fault.MacroFault.{MacroFault}
use Rattle.aperture_macros.specs.declared.fault.MacroFault.TheVariants.{BadMacro, OutOfRange, Slanted}
use Rattle.aperture_macros.specs.BodyWord.{◌>>=◌, part, past}
use Rattle.aperture_macros.specs.Values.{across_at, diameter_at, point_at, size_at}

-- `d,x,y`: a circle is a disc (Gerber Layer Format Specification, 4.5.1, code 1); none with diameter 0
unfoldable pub circle_at : List ℕ → List Fraction → Measure → Result (Option Sketch) MacroFault
circle_at text parameters unit =
    diameter_at (part 0 text) parameters unit >>= λ d. point_at (past 1 text) parameters unit >>= λ p.
    Ok (if d == 0 then None else Some (Disc p d))

-- the rectangle from a lower left spot to an upper right one, with so much more, by halves
abbrev pub between : Spot → Spot → ℕ → ℕ → Sketch
between p q w h = Rectangle (lower p w h) (upper q w h)

-- the one end of a line along an axis is to the left of the other, or below it
abbrev pub is_first : Spot → Spot → Bool
is_first p q = int_lt p.x q.x || int_lt p.y q.y

-- what a line along an axis is between its ends, with half its width, across or up, to each side
abbrev pub strip : ℕ → Spot → Spot → ℕ → ℕ → Option Sketch
strip w p q across up =
    if w == 0 || same_spot p q then None
    else (if is_first p q then Some (between p q across up) else Some (between q p across up))

-- A line along no axis is refused, or is known by the stroke of its width between its ends, which its copper lies in; none with width 0.
abbrev pub slanted : Copper → ℕ → Spot → Spot → Result (Option Sketch) MacroFault
slanted Exact w p q = Err Slanted
slanted Real w p q = if nat_lt MOST_DIAMETER w then Err OutOfRange else Ok (if w == 0 then None else Some (Stroke p q w))

-- A line from one point to the other: along an axis it is a rectangle, and none with width or length 0.
unfoldable pub line_between : Copper → ℕ → Spot → Spot → Result (Option Sketch) MacroFault
line_between copper w p q =
    if int_eq p.x q.x then Ok (strip w p q w 0)
    else (if int_eq p.y q.y then Ok (strip w p q 0 w) else slanted copper w p q)

-- `w,x,y,x,y`: a vector line has flat ends (code 20)
unfoldable pub line_at : Copper → List ℕ → List Fraction → Measure → Result (Option Sketch) MacroFault
line_at copper text parameters unit =
    size_at (part 0 text) parameters unit >>= λ w. point_at (past 1 text) parameters unit >>= λ p. point_at (past 3 text) parameters unit >>= λ q.
    line_between copper w p q

-- so far to each side of a point, by halves
abbrev pub centred : ℕ → ℕ → Spot → Option Sketch
centred w h p = if w == 0 || h == 0 then None else Some (between p p w h)

-- `w,h,x,y`: a centre line (code 21) is a rectangle about its point; none with width or height 0
unfoldable pub centre_at : List ℕ → List Fraction → Measure → Result (Option Sketch) MacroFault
centre_at text parameters unit =
    size_at (part 0 text) parameters unit >>= λ w. size_at (part 1 text) parameters unit >>= λ h. point_at (past 2 text) parameters unit >>= λ p.
    Ok (centred w h p)

-- `x,y,d`: a polygon (code 5) has its corners on a circle about its point; none with diameter 0
unfoldable pub polygon_at : ℕ → List ℕ → List Fraction → Measure → Result (Option Sketch) MacroFault
polygon_at n text parameters unit =
    point_at text parameters unit >>= λ p. across_at (part 2 text) parameters unit >>= λ d. Ok (if d == 0 then None else Some (Regular p d n))

-- some points, and n further ones of the text behind them
unfoldable pub points_from : List Spot → ℕ → List ℕ → List Fraction → Measure → Result (List Spot) MacroFault
points_from points zero text parameters unit = Ok points
points_from points (suc n) text parameters unit =
    point_at text parameters unit >>= λ p. points_from (points ++ p ∷ []) n (past 2 text) parameters unit

-- the last point is the first
abbrev pub is_closed : List Spot → Bool
is_closed [] = true
is_closed (p ∷ points) = same_spot (end_from p points) p

-- n + 1 points: an outline is the area that they bound (code 4)
unfoldable pub outline_at : ℕ → List ℕ → List Fraction → Measure → Result (List Spot) MacroFault
outline_at n text parameters unit =
    points_from [] (n + 1) text parameters unit >>= λ points. if is_closed points then Ok points else Err BadMacro

-- what is judged has no fault
abbrev pub is_done : {A : Type 0} → Result A MacroFault → Result (Unit {0}) MacroFault
is_done (Ok x) = Ok tt
is_done (Err fault) = Err fault

-- by the form of a primitive and the text of its lengths
unfoldable pub judged_by : Copper → Form → List ℕ → List Fraction → Measure → Result (Unit {0}) MacroFault
judged_by copper Circle text parameters unit = is_done (circle_at text parameters unit)
judged_by copper (Outline n) text parameters unit = is_done (outline_at n text parameters unit)
judged_by copper VectorLine text parameters unit = is_done (line_at copper text parameters unit)
judged_by copper CentreLine text parameters unit = is_done (centre_at text parameters unit)
judged_by copper (Polygon n) text parameters unit = is_done (polygon_at n text parameters unit)

-- the spot turned counterclockwise about the origin
abbrev pub turned : Rotation → Spot → Spot
turned Unturned p = p
turned Quarter p = record { x = neg_ℤ p.y; y = p.x }
turned Half p = record { x = neg_ℤ p.x; y = neg_ℤ p.y }
turned ThreeQuarters p = record { x = p.y; y = neg_ℤ p.x }

-- turned, and then moved as far as from 0 to the spot
abbrev pub set_down : Rotation → Spot → Spot → Spot
set_down rotation at p = record { x = at.x +ℤ (turned rotation p).x; y = at.y +ℤ (turned rotation p).y }

-- the figure where all its ends or corners are placed
abbrev pub disc_at : Spot → ℕ → Result (Option Figure) MacroFault
disc_at p d = if is_placed p then Ok (Some (round (record { a = p; b = p; r = halved d }))) else Err OutOfRange

abbrev pub stroke_at : Spot → Spot → ℕ → Result (Option Figure) MacroFault
stroke_at p q w = if is_placed p && is_placed q then Ok (Some (round (record { a = p; b = q; r = halved w }))) else Err OutOfRange

abbrev pub area_at : List Spot → Result (Option Figure) MacroFault
area_at points = if list_all is_placed points then Ok (Some (filled points)) else Err OutOfRange

-- so far to the right of a spot
abbrev pub right_of : Spot → ℕ → Spot
right_of p far = record { x = p.x +ℤ pos far; y = p.y }

-- a figure about the origin, turned and set down at a spot; the corners of a polygon lie on no grid
unfoldable pub sketch_at : Rotation → Spot → Option Sketch → Result (Option Figure) MacroFault
sketch_at rotation at None = Ok None
sketch_at rotation at (Some (Disc p d)) = disc_at (set_down rotation at p) d
sketch_at rotation at (Some (Stroke p q w)) = stroke_at (set_down rotation at p) (set_down rotation at q) w
sketch_at rotation at (Some (Rectangle low high)) = area_at (map (set_down rotation at) (rectangle low high))
sketch_at rotation at (Some (Regular p d n)) = Err BadMacro

-- what is left of a figure, or of the points of an outline, where it is set down
abbrev pub sketched : Rotation → Spot → Result (Option Sketch) MacroFault → Result (Option Figure) MacroFault
sketched rotation at sketch = sketch >>= sketch_at rotation at

abbrev pub outlined : Rotation → Spot → Result (List Spot) MacroFault → Result (Option Figure) MacroFault
outlined rotation at points = points >>= λ ps. area_at (map (set_down rotation at) ps)

-- by the form of the primitive, how it is turned, and the text of its lengths; whether its lines are taken `judged` has said
unfoldable pub figure_by : Form → Rotation → List ℕ → List Fraction → Measure → Spot → Result (Option Figure) MacroFault
figure_by Circle rotation text parameters unit at = sketched rotation at (circle_at text parameters unit)
figure_by (Outline n) rotation text parameters unit at = outlined rotation at (outline_at n text parameters unit)
figure_by VectorLine rotation text parameters unit at = sketched rotation at (line_at Real text parameters unit)
figure_by CentreLine rotation text parameters unit at = sketched rotation at (centre_at text parameters unit)
figure_by (Polygon n) rotation text parameters unit at = sketched rotation at (polygon_at n text parameters unit)
