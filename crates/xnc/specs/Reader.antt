-- What the reader keeps.
use Rattle.std.specs.Prelude.{◌≡◌, ℕ, ◌+◌, ◌≤◌, ◌==◌, if◌then◌else◌, List, [], ◌++◌, length, nat_eq, Option, Some, None, Result, Ok, Err, IfSome}
use Rattle.std.specs.HashMap.{get, hash_map_len}
use Rattle.contact.specs.declared.TheConstants.{MOST_DIAMETER}
use Rattle.planar.specs.Plane.{IsPlaced}
use Rattle.board_shapes.specs.Figures.{capsule_figure}
use Rattle.board_shapes.specs.Plain.{plain_pieces}
use Rattle.board_shapes.specs.declared.shape.Shape.{Shape}
use Rattle.board_shapes.specs.declared.placed.Placed.{Placed}
use Rattle.xnc.specs.declared.kind.DrillKind.{DrillKind}
use Rattle.xnc.specs.declared.kind.DrillKind.TheVariants as kind
use Rattle.xnc.specs.declared.kind.DrillFault.{DrillFault}
use Rattle.xnc.specs.declared.kind.DrillFault.TheVariants as fault
use Rattle.file_reading.specs.declared.halt.Halt.{Halt}
use Rattle.file_reading.specs.declared.halt.Halt.TheVariants as halt
use Rattle.xnc.specs.declared.line.DrillLine.{DrillLine}
use Rattle.xnc.specs.declared.line.DrillLine.TheVariants as form
use Rattle.xnc.specs.declared.effect.Effect.{Effect as Seen}
use Rattle.xnc.specs.declared.effect.Effect.TheVariants as seen
use Rattle.xnc.specs.declared.tools.Tools.{Tools}
use Rattle.xnc.specs.declared.reader.Reader.{Reader}
use Rattle.xnc.specs.Places.{Place}
use Rattle.xnc.specs.DrillEffects.{Known, Effect, stays, makes, moves, drills, rout, straight, hit, slot, effect, after}
use Rattle.xnc.specs.Settings.{piece_of, settings_at}

-- the effect that was seen, its barrel as its figure, or the fault of a line
abbrev pub shown : Seen → Effect
shown seen.Stays = stays
shown (seen.Makes n d) = makes n d
shown (seen.Moves to) = moves to
shown (seen.Drills to barrel) = drills to (capsule_figure barrel)

abbrev pub showing : Result Seen DrillKind → Result Effect DrillKind
showing (Ok e) = Ok (shown e)
showing (Err kind) = Err kind

-- the row of a line that names a place, behind its conditions on the mode and the tool
unfoldable pub placed_row : Known → DrillLine → Result Effect DrillKind
placed_row k (form.Rout to) = rout k to
placed_row k (form.Straight to) = straight k to
placed_row k (form.Hit at) = hit k at
placed_row k (form.Slot from to) = slot k from to
placed_row k other = Err kind.BadLine

-- the diameter that n is defined with, and how many tools are defined
abbrev pub defined_in : Tools → ℕ → Option ℕ
defined_in t n = get nat_eq t.diameters n

abbrev pub count_of : Tools → ℕ
count_of t = hash_map_len t.diameters

-- no diameter is over MOST_DIAMETER
abbrev pub AreLawful : Tools → Type 0
AreLawful t = (n : ℕ) → IfSome (defined_in t n) (λ d. d ≤ MOST_DIAMETER)

-- the new tools have n besides
pub record Adds (old new : Tools) (n diameter : ℕ) : Type 0 where
  pub defined : (m : ℕ) → defined_in new m ≡ (if n == m then Some diameter else defined_in old m)
  pub more : count_of new ≡ count_of old + 1

-- what a reader knows before the next line, and where its barrels come to stand
abbrev pub known_of : Reader → Known
known_of r = record {
  settings = r.settings;
  defined = λ n. defined_in r.tools n;
  tools = count_of r.tools;
  pieces = length r.pieces.items;
  room = r.room;
}

abbrev pub place_of : Reader → Place
place_of r = record { from = r.from; to = r.to; file = r.file; room = r.room }

-- the tools after an effect
abbrev pub Turns : Tools → Effect → Tools → Type 0
Turns old (makes n d) new = Adds old new n d
Turns old other new = new ≡ old

-- The reader has obeyed a line that has no fault.
pub record Obeys (old : Reader) (f : DrillLine) (new : Reader) : Type 0 where
  pub effect_is : Effect
  pub clean : effect (known_of old) f ≡ Ok effect_is
  pub settings : new.settings ≡ after old.settings f effect_is
  pub tools : Turns old.tools effect_is new.tools
  pub pieces : plain_pieces new.pieces.items ≡ plain_pieces old.pieces.items ++ piece_of (place_of old) (old.lines + 1) (Ok effect_is)
  pub counts : new.lines ≡ old.lines + 1
  pub place : place_of new ≡ place_of old

-- what a reader keeps between two lines
pub record IsLawfulReader (r : Reader) : Type 0 where
  pub at : IsPlaced r.settings.at
  pub tools : AreLawful r.tools

-- an effect that the reader can take on
abbrev pub IsFit : Tools → Seen → Type 0
IsFit t seen.Stays = Unit {0}
IsFit t (seen.Makes n d) = (d ≤ MOST_DIAMETER) × (defined_in t n ≡ None)
IsFit t (seen.Moves to) = IsPlaced to
IsFit t (seen.Drills to barrel) = IsPlaced to

-- the reader with an effect, before the settings change
pub record Applies (old : Reader) (e : Effect) (new : Reader) : Type 0 where
  pub settings : new.settings ≡ old.settings
  pub tools : Turns old.tools e new.tools
  pub pieces : plain_pieces new.pieces.items ≡ plain_pieces old.pieces.items ++ piece_of (place_of old) (old.lines + 1) (Ok e)
  pub counts : new.lines ≡ old.lines
  pub place : place_of new ≡ place_of old

-- why the reader stops at a line: its fault, or want of memory
abbrev pub Halts : Known → DrillLine → Halt DrillKind → Type 0
Halts k f (halt.Fault kind) = effect k f ≡ Err kind
Halts k f halt.NoMemory = Unit {0}

-- a reader that has obeyed nothing
pub record IsNew (p : Place) (r : Reader) : Type 0 where
  pub settings : r.settings ≡ settings_at []
  pub defined : (n : ℕ) → defined_in r.tools n ≡ None
  pub count : count_of r.tools ≡ 0
  pub pieces : r.pieces.items ≡ []
  pub counts : r.lines ≡ 0
  pub place : place_of r ≡ p

-- what stops the reader, as the fault of the file at the line of this number and place
abbrev pub fault_at : Halt DrillKind → ℕ → ℕ → DrillFault
fault_at (halt.Fault kind) number at = fault.Refused kind number at
fault_at halt.NoMemory number at = fault.NoMemory

-- The reader obeys a last line, and these pieces are left.
pub record Leaves (r : Reader) (f : DrillLine) (pieces : List (Placed Shape)) : Type 0 where
  pub last : Reader
  pub obeys : Obeys r f last
  pub are : pieces ≡ last.pieces.items

-- the fault of a line that stands at a place
pub record Faults (r : Reader) (f : DrillLine) (at : ℕ) (why : DrillFault) : Type 0 where
  pub halt : Halt DrillKind
  pub halts : Halts (known_of r) f halt
  pub is : why ≡ fault_at halt (r.lines + 1) at
