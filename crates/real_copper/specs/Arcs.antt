-- The bend of a draw, by what is in force (Gerber Layer Format Specification, 4.7 and 4.8).
use Rattle.std.specs.Prelude.{Bool, true, false, ◌&&◌, ◌||◌, not, if◌then◌else◌, pos, Option, Some, None, is_none, is_some, Result, Ok, Err}
use Rattle.planar.specs.Plane.{is_placed, same_spot}
use Rattle.planar.specs.declared.Spot.{Spot}
use Rattle.file_reading.specs.Conditions.{◌>>=◌, unless, needed}
use Rattle.file_reading.specs.LookingBack.{latest}
use Rattle.lengths.specs.declared.decimal.Unit.{Unit as Measure}
use Rattle.gerber_layer.specs.WordCommands.{is_number_if}
use Rattle.gerber_reading.specs.Command.{Bending}
use Rattle.gerber_reading.specs.CommandEffects.{coordinate}
use Rattle.gerber_reading.specs.declared.command.Format.{Format}
use Rattle.gerber_reading.specs.declared.kind.GerberKind.{GerberKind}
use Rattle.gerber_reading.specs.declared.kind.GerberKind.TheVariants as kind
use Rattle.gerber_reading.specs.declared.settings.Curve.{Curve}
use Rattle.gerber_reading.specs.declared.settings.Curve.TheVariants.{Line, Clockwise, Counterclockwise}
use Rattle.gerber_reading.specs.declared.settings.Quadrants.{Quadrants}
use Rattle.gerber_reading.specs.declared.settings.Quadrants.TheVariants.{Single, Multi}
use Rattle.gerber_reading.specs.declared.settings.Settings.{Settings}
use Rattle.real_copper.specs.Centres.{centre_at, choice}
use Rattle.real_copper.specs.Kinds.{gerber}
use Rattle.real_copper.specs.declared.centres.Draw.{Draw as Sought}
use Rattle.real_copper.specs.declared.draw.Bend.{Bend}
use Rattle.real_copper.specs.declared.kind.RealKind.{RealKind}
use Rattle.real_copper.specs.declared.kind.RealKind.TheVariants.{NoOffsets, OffsetsAmiss, NoQuadrants, NoCentre}

-- how the rows without arcs and macros refuse
abbrev pub as_real : {A : Type 0} → Result A GerberKind → Result A RealKind
as_real (Ok x) = Ok x
as_real (Err why) = Err (gerber why)

-- the offsets are numbers, where they stand
abbrev pub are_numbers : Bending → Bool
are_numbers b = is_number_if b.i && is_number_if b.j

-- the way that the offsets say, in u; one that is missing is 0
unfoldable pub way_of : Format → Measure → Bending → Result Spot RealKind
way_of format unit b = do
  i ← as_real (coordinate format unit (pos 0) b.i)
  j ← as_real (coordinate format unit (pos 0) b.j)
  Ok (record { x = i; y = j })

-- with the centre this way from the start; it is at most 1 m from 0 (own)
abbrev pub bend_to : Sought → Spot → Result (Option Bend) RealKind
bend_to d way = if is_placed (centre_at d way) then Ok (Some (record { clockwise = d.clockwise; centre = centre_at d way })) else Err (gerber kind.OutOfRange)

-- `G74`: the signs of the offsets are open, and ends at one spot are no arc
abbrev pub chosen : Sought → Option Spot → Result (Option Bend) RealKind
chosen d None = Err NoCentre
chosen d (Some way) = bend_to d way

abbrev pub bend_in : Quadrants → Sought → Spot → Result (Option Bend) RealKind
bend_in Multi d way = bend_to d way
bend_in Single d way = if same_spot d.start d.end then Ok None else chosen d (choice d way)

-- the arc whose centre is sought
abbrev pub sought : Settings → Bool → Spot → Format → Measure → Sought
sought s clockwise to format unit = record { clockwise = clockwise; start = s.at; end = to; decimals = format.decimals; unit = unit }

-- The conditions of an arc, in order, and its bend.
unfoldable pub arc_to : Settings → Bending → Bool → Spot → Result (Option Bend) RealKind
arc_to s b clockwise to =
    unless (b.more || not (are_numbers b)) OffsetsAmiss (unless (is_none b.i && is_none b.j) NoOffsets (do
      quadrants ← needed NoQuadrants s.quadrants
      format ← needed (gerber kind.MissingFormat) s.format
      unit ← needed (gerber kind.MissingUnit) s.unit
      way ← way_of format unit b
      bend_in quadrants (sought s clockwise to format unit) way))

-- an operation that is no arc has no offsets (own)
abbrev pub no_arc : Bending → Result (Option Bend) RealKind
no_arc b = unless (is_some b.i || (is_some b.j || b.more)) OffsetsAmiss (Ok None)

abbrev pub bend_by : Curve → Settings → Bending → Spot → Result (Option Bend) RealKind
bend_by Line s b to = no_arc b
bend_by Clockwise s b to = arc_to s b true to
bend_by Counterclockwise s b to = arc_to s b false to

-- the bend of a draw that leads to a spot: its own curve counts, or the one in force
abbrev pub bend_of : Settings → Bending → Spot → Result (Option Bend) RealKind
bend_of s b to = bend_by (latest b.curve s.curve) s b to
