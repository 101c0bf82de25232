-- What a command read: the files that a package holds, or those that it handed over between two points of the call, whether it
-- tells what it holds or not. Each relation here is that of `board_package` for the one or for the other.
use Rattle.std.specs.Prelude.{◌≡◌, ℕ, List}
use Rattle.board_io.specs.Handed.{Grows, Handed}
use Rattle.board_io.specs.Package.{Files}
use Rattle.board_package.specs.HandedBoard.{ComesHanded, ComesNext, IsBoardHanded, IsFirstStopHanded, IsHanded, StopsHanding}
use Rattle.board_package.specs.HandedLabelled.{IsFirstLabelledStopHanded, IsLabelledBoardHanded, LabelledComesHanded}
use Rattle.board_package.specs.LabelledBoard.{IsFirstLabelledStop, IsLabelledBoardOf, LabelledComes, LabelledStop}
use Rattle.board_package.specs.PackageBoard.{Comes, IsBoardOf, IsFirstStop, IsHeld, IsWithinLimits, Stop, StopsTaking}
use Rattle.board_shapes.specs.Plain.{PlainBoard}
use Rattle.real_package.specs.HandedReal.{IsFirstRealStopHanded, IsRealBoardHanded, RealComesHanded}
use Rattle.real_package.specs.RealBoards.{PlainRealBoard}
use Rattle.real_package.specs.RealPackage.{IsFirstRealStop, IsRealBoardOf, RealComes, RealStop}

pub data Source : Type 0 where
  Held : Files → Source
  HandedOver : List Handed → List Handed → Source

-- a relation to the files, or else to what was handed over before and after
abbrev pub By : (Files → Type 0) → (List Handed → List Handed → Type 0) → Source → Type 0
By Of Over (Held files) = Of files
By Of Over (HandedOver before after) = Over before after

-- ---- A package

-- the files of the order of this manifest were read, and nothing else; they fit, and this is their board
abbrev pub IsBoardBy : Source → List ℕ → PlainBoard → Type 0
IsBoardBy source manifest board = By (λ files. IsBoardOf files manifest board) (λ before after. IsBoardHanded before after manifest board) source

-- their first stop
abbrev pub IsFirstStopBy : Source → List ℕ → Stop → Type 0
IsFirstStopBy source manifest stop = By (λ files. IsFirstStop files manifest stop) (λ before after. IsFirstStopHanded before after manifest stop) source

-- the name is that of a file of the order, which comes next
abbrev pub ComesBy : Source → List ℕ → List ℕ → Type 0
ComesBy source manifest name = By (λ files. Comes files manifest name) (λ before after. ComesHanded before after manifest name) source

-- the package fits, its board is within the limits of a package, and P holds of the board
pub record FitsWith (source : Source) (manifest : List ℕ) (P : PlainBoard → Type 0) : Type 0 where
  pub board : PlainBoard
  pub board_is : IsBoardBy source manifest board
  pub limits : IsWithinLimits board
  pub good : P board

-- A package fits, with this board by a relation to what was read, and Then holds of what was read behind it: of the same files, or of what was handed over
-- there, which stands behind what the package handed over.
abbrev pub FitsBy : {B : Type 0} → (Source → B → Type 0) → Source → B → (Source → Type 0) → Type 0
FitsBy Is (Held files) board Then = Is (Held files) board × Then (Held files)
FitsBy Is (HandedOver before after) board Then = (built : List Handed) × (Grows before built × Grows built after) × Is (HandedOver before built) board × Then (HandedOver built after)

-- so it is with some board
pub record FitsThenBy {B : Type 0} (Is : Source → B → Type 0) (source : Source) (Then : Source → Type 0) : Type 0 where
  pub board : B
  pub behind : FitsBy Is source board Then

abbrev pub FitsBefore : Source → List ℕ → PlainBoard → (Source → Type 0) → Type 0
FitsBefore source manifest board Then = FitsBy (λ read b. IsBoardBy read manifest b) source board Then

abbrev pub FitsThen : Source → List ℕ → (Source → Type 0) → Type 0
FitsThen source manifest Then = FitsThenBy (λ read b. IsBoardBy read manifest b) source Then

-- ---- A package without its netlist, by the net names in its copper files

abbrev pub IsLabelledBoardBy : Source → List ℕ → PlainBoard → Type 0
IsLabelledBoardBy source manifest board = By (λ files. IsLabelledBoardOf files manifest board) (λ before after. IsLabelledBoardHanded before after manifest board) source

abbrev pub IsFirstLabelledStopBy : Source → List ℕ → LabelledStop → Type 0
IsFirstLabelledStopBy source manifest stop = By (λ files. IsFirstLabelledStop files manifest stop) (λ before after. IsFirstLabelledStopHanded before after manifest stop) source

abbrev pub LabelledComesBy : Source → List ℕ → List ℕ → Type 0
LabelledComesBy source manifest name = By (λ files. LabelledComes files manifest name) (λ before after. LabelledComesHanded before after manifest name) source

-- ---- A package whose draws may be arcs

abbrev pub IsFirstRealStopBy : Source → List ℕ → RealStop → Type 0
IsFirstRealStopBy source manifest stop = By (λ files. IsFirstRealStop files manifest stop) (λ before after. IsFirstRealStopHanded before after manifest stop) source

abbrev pub RealComesBy : Source → List ℕ → List ℕ → Type 0
RealComesBy source manifest name = By (λ files. RealComes files manifest name) (λ before after. RealComesHanded before after manifest name) source

abbrev pub IsRealBoardBy : Source → List ℕ → PlainRealBoard → Type 0
IsRealBoardBy source manifest board = By (λ files. IsRealBoardOf files manifest board) (λ before after. IsRealBoardHanded before after manifest board) source

abbrev pub FitsRealBefore : Source → List ℕ → PlainRealBoard → (Source → Type 0) → Type 0
FitsRealBefore source manifest board Then = FitsBy (λ read b. IsRealBoardBy read manifest b) source board Then

abbrev pub FitsRealThen : Source → List ℕ → (Source → Type 0) → Type 0
FitsRealThen source manifest Then = FitsThenBy (λ read b. IsRealBoardBy read manifest b) source Then

-- ---- One file

-- these are its bytes
abbrev pub IsFileBy : Source → List ℕ → List ℕ → Type 0
IsFileBy source name bytes = By (λ files. IsHeld files name bytes) (λ before after. IsHanded before after name bytes) source

-- why it is not there to be read
abbrev pub StopsFileBy : Source → List ℕ → Stop → Type 0
StopsFileBy source name stop = By (λ files. StopsTaking files name stop) (λ before after. StopsHanding before after name stop) source

-- it comes next
abbrev pub NextBy : Source → List ℕ → List ℕ → Type 0
NextBy source name other = By (λ files. other ≡ name) (λ before after. ComesNext before after name other) source

-- P holds of its bytes
pub record IsFileWith (source : Source) (name : List ℕ) (P : List ℕ → Type 0) : Type 0 where
  pub bytes : List ℕ
  pub file : IsFileBy source name bytes
  pub good : P bytes
