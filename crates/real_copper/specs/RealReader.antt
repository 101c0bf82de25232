-- What the reader of real copper keeps, and how it goes on.
use Rattle.std.specs.Prelude.{◌≡◌, ◌+◌, List, ◌++◌, IfSome, Option, None, Result, Ok, Err, option_map}
use Rattle.board_shapes.specs.declared.placed.Placed.{Placed}
use Rattle.file_reading.specs.declared.halt.Halt.{Halt}
use Rattle.file_reading.specs.declared.halt.Halt.TheVariants as halt
use Rattle.gerber_reading.specs.After.{heads, opened}
use Rattle.gerber_reading.specs.CommandEffects.{listed}
use Rattle.gerber_reading.specs.Image.{made}
use Rattle.gerber_reading.specs.Reader.{AllFit, AllKeep, AreCounted, Carries, IsLawfulReader, TakesOn, contour_of, known_of, place_of}
use Rattle.gerber_reading.specs.declared.kind.GerberKind.{GerberKind}
use Rattle.gerber_reading.specs.declared.kind.GerberKind.TheVariants as kind
use Rattle.gerber_reading.specs.declared.reader.Reader.{Reader}
use Rattle.step_repeat.specs.Copies.{pieces_by}
use Rattle.step_repeat.specs.Repeats.{IsLawful as IsLawfulRepeat}
use Rattle.step_repeat.specs.declared.repeat.Repeat.{Repeat}
use Rattle.planar.specs.Plane.{IsPlaced}
use Rattle.real_copper.specs.declared.leads.Leads.{Leads}
use Rattle.planar.specs.declared.Spot.{Spot}
use Rattle.aperture_macros.specs.declared.fault.FigureFault.{FigureFault}
use Rattle.aperture_macros.specs.declared.fault.FigureFault.TheVariants as figure
use Rattle.real_copper.specs.Draws.{IsNearBend}
use Rattle.real_copper.specs.Figures.{RealFigure, real_handling}
use Rattle.real_copper.specs.Kinds.{gerber}
use Rattle.real_copper.specs.Rows.{RealEffect, RealKnown, closing}
use Rattle.real_copper.specs.Shapes.{real_figure}
use Rattle.real_copper.specs.Table.{fits}
use Rattle.real_copper.specs.declared.anchored.Anchored.{Anchored}
use Rattle.real_copper.specs.declared.aperture.RealAperture.{RealAperture}
use Rattle.real_copper.specs.declared.draw.Bend.{Bend}
use Rattle.real_copper.specs.declared.kind.RealKind.{RealKind}

-- the figure of a shape that is kept
abbrev pub plain : Anchored → RealFigure
plain f = real_figure f.shape

abbrev pub Seen : Type 0
Seen = Reader Anchored (Option Bend) RealAperture

-- what is known before the next command
abbrev pub known : Seen → RealKnown
known r = known_of plain r

abbrev pub IsLawful : Seen → Type 0
IsLawful r = IsLawfulReader plain real_handling fits IsNearBend r

abbrev pub IsCounted : Seen → Type 0
IsCounted r = AreCounted plain real_handling r

-- What a command does is no fault; the reader has carried it out, and goes on at that spot, if it leads to one, with that block, if it opens one.
pub record HasObeyed (old : Seen) (what : Result RealEffect RealKind) (to : Option Spot) (next : Option Repeat) (new : Seen) : Type 0 where
  pub effect_is : RealEffect
  pub is : what ≡ Ok effect_is
  pub carries : Carries plain old effect_is new
  pub to_is : heads effect_is ≡ to
  pub next_is : opened effect_is ≡ next

-- a spot within 1 m of 0, and lawful counts and steps of a block
pub record AreLawfulLeads (leads : Leads) : Type 0 where
  pub at : IfSome leads.to IsPlaced
  pub block : IfSome leads.next IsLawfulRepeat

-- what is right of its apertures and of the edges of its contour, and their count
pub record IsRight (r : Seen) : Type 0 where
  pub fit : AllFit fits r.dictionary
  pub bends : AllKeep IsNearBend (contour_of r.contour)
  pub counted : IsCounted r

-- It has the same apertures and the same contour, and its edges are counted.
pub record KeepsRest (old new : Seen) : Type 0 where
  pub dictionary : new.dictionary ≡ old.dictionary
  pub contour : new.contour ≡ old.contour
  pub counted : IsCounted new

-- The figures of a flash are no fault, and the reader has them as pieces more.
pub record Flashed (old : Seen) (what : Result (List RealFigure) RealKind) (new : Seen) : Type 0 where
  pub figures : List RealFigure
  pub is : what ≡ Ok figures
  pub takes : TakesOn plain old (made (place_of old) (old.commands + 1) figures) new

-- pieces are what the next command makes of the figures of a flash
pub record IsFlashed (r : Seen) (what : Result (List RealFigure) RealKind) (pieces : List (Placed Anchored)) : Type 0 where
  pub figures : List RealFigure
  pub is : what ≡ Ok figures
  pub are : pieces_by plain pieces ≡ made (place_of r) (r.commands + 1) figures

-- the stroke of a draw as plain data
abbrev pub seen_stroke : Result (Option Anchored) RealKind → Result (Option RealFigure) RealKind
seen_stroke (Ok f) = Ok (option_map plain f)
seen_stroke (Err why) = Err why

-- The reader has closed its contour, and has what it bounds as a piece more, if it had an edge.
pub record Closes (old new : Seen) : Type 0 where
  pub area : Option RealFigure
  pub is : closing (known old) ≡ Ok area
  pub settings : new.settings ≡ old.settings
  pub dictionary : new.dictionary ≡ old.dictionary
  pub contour : contour_of new.contour ≡ None
  pub pieces : pieces_by plain new.pieces.items ≡ pieces_by plain old.pieces.items ++ made (place_of old) (old.commands + 1) (listed area)
  pub start : new.start ≡ old.start
  pub counts : new.commands ≡ old.commands
  pub place : place_of new ≡ place_of old

-- what stops the reader where a row without arcs does
abbrev pub halt_of : Halt GerberKind → Halt RealKind
halt_of (halt.Fault kind) = halt.Fault (gerber kind)
halt_of halt.NoMemory = halt.NoMemory

-- what stops the reader where a primitive has no figure
abbrev pub figure_halt : FigureFault → Halt RealKind
figure_halt (figure.Macro why) = halt.Fault (gerber kind.OutOfRange)
figure_halt figure.NoMemory = halt.NoMemory
