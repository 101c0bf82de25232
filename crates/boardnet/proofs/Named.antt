-- What is said of each command by its words.
use Rattle.std.proofs.Common.{◌≡◌, ◌≤◌, ◌⊎◌, ℕ, List, Option, String}
use Rattle.std.specs.declared.alloc.Global.{Global}
use Rattle.board_io.specs.Package.{Files}
use Rattle.boardnet.specs.Ends.{HasText, TakesFiles}
use Rattle.boardnet.specs.Outcome.{Held, OfFilesRead}
use Rattle.boardnet.specs.Words.{Asks, Command}

-- where the outcome of the command asked for is a text, it is put, but for reading, writing and memory
abbrev pub Completes : Option Files → List (String Global) → (A B : Type 0) → ℕ → Type 0
Completes held words A B status = (c : Command) → Asks words c → OfFilesRead c held (λ f. HasText (Held f) c → (TakesFiles c → A → ⊥) → (B → ⊥) → (status ≤ 1) ⊎ (status ≡ 6))
