-- What is told of each command, and the command that words can ask for.
use Rattle.std.specs.Prelude.{ℕ, List, [], ◌∷◌, Option, None, codes, if◌then◌else◌}
use Rattle.std.specs.Str.{bytes_eq}
use Rattle.boardnet.specs.Command.{Command}
use Rattle.boardnet.specs.Command as command
use Rattle.boardnet.specs.Task.{Task}
use Rattle.boardnet.specs.commands.Check.{check, check_by}
use Rattle.boardnet.specs.commands.Audit.{audit, audit_by}
use Rattle.boardnet.specs.commands.Trial.{trial, trial_by}
use Rattle.boardnet.specs.commands.Write.{write, write_by}
use Rattle.boardnet.specs.commands.Gaps.{gaps, gaps_by}
use Rattle.boardnet.specs.commands.X2.{x2, x2_by}
use Rattle.boardnet.specs.commands.Flatten.{flatten, flatten_by}
use Rattle.boardnet.specs.commands.Between.{between, between_by}
pub mod Check
pub mod Audit
pub mod Trial
pub mod Write
pub mod Gaps
pub mod X2
pub mod Flatten
pub mod Between

-- what is told of each
abbrev pub task_of : Command → Task
task_of (command.Check version manifest) = check version manifest
task_of (command.Audit manifest report) = audit manifest report
task_of (command.Trial seed size) = trial seed size
task_of (command.Write manifest) = write manifest
task_of (command.Gaps manifest nanometres) = gaps manifest nanometres
task_of (command.X2 manifest) = x2 manifest
task_of (command.Flatten file) = flatten file
task_of (command.Between names) = between names

-- the name of each, with what stands behind it
abbrev names : List (List ℕ × (List (List ℕ) → Option Command))
names =
    (codes "check", check_by)
    ∷ (codes "audit", audit_by)
    ∷ (codes "trial", trial_by)
    ∷ (codes "write", write_by)
    ∷ (codes "gaps", gaps_by)
    ∷ (codes "x2", x2_by)
    ∷ (codes "flatten", flatten_by)
    ∷ (codes "between", between_by)
    ∷ []

-- the first of the names that is the word
abbrev command_in : List (List ℕ × (List (List ℕ) → Option Command)) → List ℕ → List (List ℕ) → Option Command
command_in [] word behind = None
command_in (entry ∷ entries) word behind = if bytes_eq entry.0 word then entry.1 behind else command_in entries word behind

-- the one command that words so spelled may ask for: whether they do is for its `asks` to say
abbrev pub command_of_words : List (List ℕ) → Option Command
command_of_words [] = None
command_of_words (word ∷ behind) = command_in names word behind
