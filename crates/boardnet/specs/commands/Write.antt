-- The command `write MANIFEST`: a netlist of the package is written.
use Rattle.std.specs.Prelude.{◌≡◌, ℕ, List, [], ◌∷◌, codes, map, string_bytes, String, Option, Some, None}
use Rattle.std.specs.declared.alloc.Global.{Global}
use Rattle.board_package.specs.PackageBoard.{IsWithinLimits}
use Rattle.board_shapes.specs.Plain.{PlainBoard}
use Rattle.boardnet.specs.Command.{Command, Write}
use Rattle.reports.specs.Lines.{plain_line}
use Rattle.boardnet.specs.Source.{Source, IsBoardBy}
use Rattle.boardnet.specs.Task.{Task, on_package}
use Rattle.reports.specs.Written.{IsNetlistOn}
use Rattle.lengths.specs.Text.{IsText}

-- `write` and the name of a manifest
pub record IsWrite (words : List (String Global)) (name : List ℕ) : Type 0 where
  pub spelled : map string_bytes words ≡ codes "write" ∷ name ∷ []
  pub text : IsText name

-- The package fits, its board is within the limits of a package, and this is the written netlist of it for the nets of a
-- right verdict on it, with the status and the line.
pub record IsWritten (source : Source) (manifest text : List ℕ) (status : ℕ) (line : List ℕ) : Type 0 where
  pub board : PlainBoard
  pub board_is : IsBoardBy source manifest board
  pub limits : IsWithinLimits board
  pub netlist : IsNetlistOn board text
  pub status_is : status ≡ 0
  pub line_is : line ≡ plain_line (codes "netlist written")

-- What is told of the command.
abbrev pub write : List ℕ → Task
write manifest = on_package manifest (λ words. IsWrite words manifest) (codes "write" ∷ manifest ∷ []) (λ source text status line. IsWritten source manifest text status line)

-- the command that words behind its name can ask for; whether they are texts, and in range, is for `IsWrite` to say
abbrev pub write_by : List (List ℕ) → Option Command
write_by (manifest ∷ []) = Some (Write manifest)
write_by other = None
