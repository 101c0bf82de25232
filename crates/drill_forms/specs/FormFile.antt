-- What a drill file is read as, as tools write it.
use Rattle.std.specs.Prelude.{ℕ, List, [], ◌∷◌, ◌++◌, length, map}
use Rattle.board_shapes.specs.Plain.{PlainPiece}
use Rattle.file_reading.specs.Reading as reading
use Rattle.file_reading.specs.Reading.{Item}
use Rattle.texts.specs.Lines.{PlainLine, lines_of}
use Rattle.xnc.specs.declared.line.DrillLine.TheVariants as line
use Rattle.xnc.specs.declared.kind.DrillKind.{DrillKind}
use Rattle.xnc.specs.declared.kind.DrillFault.{DrillFault}
use Rattle.xnc.specs.declared.kind.DrillFault.TheVariants as fault
use Rattle.xnc.specs.Places.{Place}
use Rattle.drill_forms.specs.declared.form.FormLine.{FormLine}
use Rattle.drill_forms.specs.declared.form.FormLine.TheVariants as form
use Rattle.drill_forms.specs.FormLines.{form_of}
use Rattle.drill_forms.specs.History.{effect_at, barrels_at}

-- a line's form with the place of its first byte
abbrev pub item_of : Place → PlainLine → Item FormLine
item_of p line = record { says = form_of p.from p.to line.text; at = line.at }

-- The items of a file: its lines, and its end, which is the last.
abbrev pub items_with : Place → ℕ → List PlainLine → List (Item FormLine)
items_with p size lines = map (item_of p) lines ++ record { says = form.Says line.Finish; at = size } ∷ []

-- and those of its bytes
abbrev pub items : Place → List ℕ → List (Item FormLine)
items p file = items_with p (length file) (lines_of file)

-- no line has a fault, and these are the barrels that the lines make
abbrev pub IsRead : List ℕ → Place → List PlainPiece → Type 0
IsRead file p pieces = reading.IsRead (effect_at p) (barrels_at p) (items p file) pieces

-- the first line with a fault, its number and the place of its first byte
abbrev pub IsRefused : List ℕ → Place → DrillKind → ℕ → ℕ → Type 0
IsRefused file p kind number place = reading.IsRefused (effect_at p) (items p file) kind number place

-- Each file has one answer: the barrels, or the first fault.
abbrev pub HasOneAnswer : List ℕ → Place → Type 0
HasOneAnswer file p = reading.HasOneAnswer (IsRead file p) (IsRefused file p)

-- why there are no barrels: the file is refused, or memory is wanted
abbrev pub IsFault : List ℕ → Place → DrillFault → Type 0
IsFault file p (fault.Refused kind number place) = IsRefused file p kind number place
IsFault file p fault.NoMemory = Unit {0}
