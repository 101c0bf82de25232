-- The command `check MANIFEST` or `check MANIFEST 1`: the package is judged, with a report of a version.
use Rattle.std.specs.Prelude.{◌≡◌, ℕ, List, [], ◌∷◌, codes, map, string_bytes, String, Option, Some, None}
use Rattle.std.specs.declared.alloc.Global.{Global}
use Rattle.boardnet.specs.Command.{Command, Check}
use Rattle.reports.specs.Right.{IsReportOn}
use Rattle.boardnet.specs.Source.{Source, FitsWith}
use Rattle.boardnet.specs.Task.{Task, on_package}
use Rattle.reports.specs.declared.judged.Version.{Version}
use Rattle.reports.specs.declared.judged.Version.TheVariants.{One, Two}
use Rattle.lengths.specs.Text.{IsText}

-- what stands behind the manifest's name: nothing for version 2, and `1` for version 1
abbrev pub version_words : Version → List (List ℕ)
version_words One = codes "1" ∷ []
version_words Two = []

-- `check`, the name of a manifest, and what tells the version
pub record IsCheck (words : List (String Global)) (version : Version) (name : List ℕ) : Type 0 where
  pub spelled : map string_bytes words ≡ codes "check" ∷ name ∷ version_words version
  pub text : IsText name

-- The package fits, and this is the text of a right verdict on its board, as the version asks, with its status and its line.
abbrev pub IsReport : Source → Version → List ℕ → List ℕ → ℕ → List ℕ → Type 0
IsReport source version manifest text status line = FitsWith source manifest (λ board. IsReportOn board version text status line)

-- What is told of the command.
abbrev pub check : Version → List ℕ → Task
check version manifest = on_package manifest (λ words. IsCheck words version manifest) (codes "check" ∷ manifest ∷ version_words version) (λ source text status line. IsReport source version manifest text status line)

-- the command that words behind its name can ask for; whether they are texts, and in range, is for `IsCheck` to say
abbrev pub check_by : List (List ℕ) → Option Command
check_by (manifest ∷ []) = Some (Check Two manifest)
check_by (manifest ∷ version ∷ []) = Some (Check One manifest)
check_by other = None
