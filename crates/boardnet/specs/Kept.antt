-- What a call leaves of what it was lent.
use Rattle.std.specs.Prelude.{◌≡◌, ◌≢◌, ◌≤◌, ℕ, List, Option}
use Rattle.board_io.specs.Package.{Files, IsFaultless}
pub use Rattle.board_package.specs.Causes.{Leaves, Spares}
use Rattle.board_package.specs.Causes.{KeepsFaults}
use Rattle.boardnet.specs.declared.answer.Unanswered.{Unanswered}
use Rattle.boardnet.specs.declared.answer.Unanswered.TheVariants.{Stopped}

-- A package that was lent, by the status that is answered: it holds what it held, and its count of faults never falls.
-- Only a file that cannot be read, or want of memory, changes the count or the lost name.
pub record Keeps {P : Type 0} (files : P → Option Files) (faults : P → ℕ) (lost : P → List ℕ) (old new : P) (status : ℕ) : Type 0 where
  pub held : files new ≡ files old
  pub later : faults old ≤ faults new
  pub calm : status ≢ 4 → status ≢ 6 → IsFaultless (faults old) (lost old) (faults new) (lost new)

-- what is left of the count and the lost name where there is no answer
abbrev pub LeftBy : ℕ → List ℕ → ℕ → List ℕ → Unanswered → Type 0
LeftBy count lost count' lost' (Stopped why) = KeepsFaults count lost count' lost' why
LeftBy count lost count' lost' other = IsFaultless count lost count' lost'
