-- Each kind of refusal of drill files has a number of its own.
use Rattle.std.proofs.Common.{◌≡◌, List, [], ◌∷◌, get_or, refl}
use Rattle.file_reading.specs.Kinds.{HaveOwnNumbers}
use Rattle.file_reading.proofs.OwnNumbers.{own_numbers}
use Rattle.xnc.specs.Kind.{row_of}
use Rattle.xnc.specs.declared.kind.DrillKind.{DrillKind}
use Rattle.xnc.specs.declared.kind.DrillKind.TheVariants as kind

-- the kinds by their numbers; nothing has the number 0
abbrev numbered : List DrillKind
numbered = kind.NoHeader ∷ kind.NoHeader ∷ kind.BadLine ∷ kind.MissingUnit ∷ kind.NoTool ∷ kind.ToolTwice ∷ kind.ImpliedDecimals ∷ kind.OffGrid ∷ kind.OutOfRange ∷ kind.ArcRout ∷ kind.WrongMode ∷ kind.WrongSpan ∷ kind.NotPlated ∷ kind.MixedPlating ∷ kind.NotEnded ∷ kind.AfterEnd ∷ kind.TooManyPieces ∷ kind.TooManyTools ∷ []

at_its_number : (a : DrillKind) → get_or numbered (row_of a).number kind.NoHeader ≡ a
at_its_number kind.NoHeader = refl
at_its_number other = refl

pub one_number : HaveOwnNumbers row_of
one_number = own_numbers row_of numbered kind.NoHeader at_its_number
