-- Why a file is not read.
use Rattle.std.specs.Prelude.{ℕ}
use Rattle.file_reading.specs.declared.fault.FileFault.{FileFault}
use Rattle.file_reading.specs.declared.fault.FileFault.TheVariants as fault
use Rattle.file_reading.specs.declared.halt.Halt.{Halt}
use Rattle.file_reading.specs.declared.halt.Halt.TheVariants as halt

-- why a file is not read, by what it is to be refused: that kind, at a command of that number and place; or memory is wanted
abbrev pub IsFault : {Why : Type 0} → (Why → ℕ → ℕ → Type 0) → FileFault Why → Type 0
IsFault Refused (fault.Refused kind number place) = Refused kind number place
IsFault Refused fault.NoMemory = Unit {0}

-- the fault of a file whose reader is stopped at the command of this number and place
abbrev pub stopped_at : {Why : Type 0} → ℕ → ℕ → Halt Why → FileFault Why
stopped_at number place (halt.Fault why) = fault.Refused why number place
stopped_at number place halt.NoMemory = fault.NoMemory
