-- Each kind of refusal of netlists has a number of its own.
use Rattle.std.proofs.Common.{◌≡◌, List, [], ◌∷◌, get_or, refl}
use Rattle.file_reading.specs.Kinds.{HaveOwnNumbers}
use Rattle.file_reading.proofs.OwnNumbers.{own_numbers}
use Rattle.ipc356_records.specs.Kind.{row_of}
use Rattle.ipc356_records.specs.declared.kind.RecordKind.{RecordKind}
use Rattle.ipc356_records.specs.declared.kind.RecordKind.TheVariants as kind

-- the kinds by their numbers; nothing has the number 0
abbrev numbered : List RecordKind
numbered = kind.UnknownCode ∷ kind.UnknownCode ∷ kind.Continuation ∷ kind.MissingUnits ∷ kind.UnitsTwice ∷ kind.BadUnits ∷ kind.BadAccess ∷ kind.BadNumber ∷ kind.BadName ∷ kind.OutOfRange ∷ kind.NotEnded ∷ kind.AfterEnd ∷ kind.TooManyRecords ∷ []

at_its_number : (a : RecordKind) → get_or numbered (row_of a).number kind.UnknownCode ≡ a
at_its_number kind.UnknownCode = refl
at_its_number other = refl

pub one_number : HaveOwnNumbers row_of
one_number = own_numbers row_of numbered kind.UnknownCode at_its_number
