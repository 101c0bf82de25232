-- How a copper file is read by a dialect.
use Rattle.std.specs.Prelude.{ℕ, List}
use Rattle.board_shapes.specs.Pieces.{PieceOf}
use Rattle.file_reading.specs.Reading as reading
use Rattle.file_reading.specs.Reading.{Item}
use Rattle.file_reading.specs.Faults as faults
use Rattle.file_reading.specs.declared.fault.FileFault.{FileFault}
use Rattle.gerber_words.specs.Words.{Entry, Stop, ended, broken}
use Rattle.gerber_words.specs.Items as words
use Rattle.gerber_reading.specs.Command.{Command, finishes, breaks}
use Rattle.gerber_reading.specs.Image.{effect_by, pieces_by}
use Rattle.gerber_reading.specs.CommandEffects.{Place, Profile}

-- A dialect: what a word says, and what a command does, or why it is refused.
pub record Dialect (G E A W : Type 0) : Type 0 where
  pub command : Entry → Command
  pub table : Profile G E A W

-- the command of the stop, which is the last
abbrev pub stop_command : Stop → Command
stop_command ended = finishes
stop_command (broken fault at) = breaks fault

-- these are the commands of the file with their places, as its words have them
abbrev pub AreItemsBy : {G E A W : Type 0} → Dialect G E A W → List ℕ → List (Item Command) → Type 0
AreItemsBy d file items = words.AreItems d.command stop_command file items

-- no command has a fault, and these are the pieces that they make
abbrev pub IsReadBy : {G E A W : Type 0} → Dialect G E A W → List ℕ → Place → List (PieceOf G) → Type 0
IsReadBy d file p pieces = (items : List (Item Command)) × AreItemsBy d file items × reading.IsRead (effect_by d.table p) (pieces_by d.table p) items pieces

-- the first command with a fault, its number and its place
abbrev pub IsRefusedBy : {G E A W : Type 0} → Dialect G E A W → List ℕ → Place → W → ℕ → ℕ → Type 0
IsRefusedBy d file p kind number place = (items : List (Item Command)) × AreItemsBy d file items × reading.IsRefused (effect_by d.table p) items kind number place

-- why there are no pieces: the file is refused, or memory is wanted
abbrev pub IsFaultBy : {G E A W : Type 0} → Dialect G E A W → List ℕ → Place → FileFault W → Type 0
IsFaultBy d file p why = faults.IsFault (IsRefusedBy d file p) why

-- Each file has one answer: the pieces, or the first fault.
abbrev pub HasOneAnswerBy : {G E A W : Type 0} → Dialect G E A W → List ℕ → Place → Type 0
HasOneAnswerBy d file p = reading.HasOneAnswer (IsReadBy d file p) (IsRefusedBy d file p)
