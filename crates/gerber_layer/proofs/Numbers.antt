-- Each kind of refusal of copper files has a number of its own, from 1 to 37.
use Rattle.std.proofs.Common.{◌≡◌, ◌≤◌, List, [], ◌∷◌, get_or, refl, arith}
use Rattle.file_reading.specs.Kinds.{HaveOwnNumbers}
use Rattle.file_reading.proofs.OwnNumbers.{own_numbers}
use Rattle.gerber_reading.specs.Kinds.{row_of}
use Rattle.gerber_layer.specs.MacroKinds.{flatten_row}
use Rattle.gerber_reading.specs.declared.kind.GerberKind.TheVariants as kind
use Rattle.gerber_layer.specs.declared.macro_kind.FlattenKind.{FlattenKind}
use Rattle.gerber_layer.specs.declared.macro_kind.FlattenKind.TheVariants.{Gerber, BadMacro, MacroTwice, NoMacro, ExposureOff, Turn, Slanted, TooManyRadii}

-- the kinds by their numbers; nothing has the number 0
abbrev numbered : List FlattenKind
numbered = BadMacro ∷ Gerber kind.BadWord ∷ Gerber kind.LineBreakInWord ∷ Gerber kind.NotEnded ∷ Gerber kind.AfterEnd ∷ Gerber kind.MissingFormat ∷ Gerber kind.MissingUnit ∷ Gerber kind.BadFormat ∷ Gerber kind.UnitConflict ∷ Gerber kind.Incremental ∷ Gerber kind.ClearPolarity ∷ Gerber kind.Arc ∷ Gerber kind.Macro ∷ Gerber kind.Block ∷ Gerber kind.Polygon ∷ Gerber kind.Hole ∷ Gerber kind.Transform ∷ Gerber kind.NoAperture ∷ Gerber kind.ApertureTwice ∷ Gerber kind.PenNotCircle ∷ Gerber kind.NotInRegion ∷ Gerber kind.OpenContour ∷ Gerber kind.ShortContour ∷ Gerber kind.OffGrid ∷ Gerber kind.OutOfRange ∷ Gerber kind.WrongLayer ∷ Gerber kind.NegativeFile ∷ Gerber kind.TooManyPieces ∷ Gerber kind.TooManyVertices ∷ Gerber kind.NoOperation ∷ Gerber kind.TooManyApertures ∷ BadMacro ∷ MacroTwice ∷ NoMacro ∷ ExposureOff ∷ Turn ∷ Slanted ∷ TooManyRadii ∷ []

at_its_number : (a : FlattenKind) → get_or numbered (flatten_row a).number BadMacro ≡ a
at_its_number (Gerber kind.BadWord) = refl
at_its_number (Gerber other) = refl
at_its_number other = refl

pub one_number : HaveOwnNumbers flatten_row
one_number = own_numbers flatten_row numbered BadMacro at_its_number

-- those without macros alone
pub one_kind : HaveOwnNumbers row_of
one_kind a b same = let both : Gerber a ≡ Gerber b = one_number (Gerber a) (Gerber b) same in cc

pub in_range : (a : FlattenKind) → (1 ≤ (flatten_row a).number) × ((flatten_row a).number ≤ 37)
in_range (Gerber kind.BadWord) = (omega arith, omega arith)
in_range (Gerber other) = (omega arith, omega arith)
in_range other = (omega arith, omega arith)
