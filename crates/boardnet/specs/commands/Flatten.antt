-- The command `flatten FILE`: a copper file is rewritten without macros.
use Rattle.std.specs.Prelude.{◌≡◌, ℕ, List, [], ◌∷◌, codes, map, string_bytes, String, Option, Some, None}
use Rattle.std.specs.declared.alloc.Global.{Global}
use Rattle.board_shapes.specs.Plain.{PlainPiece}
use Rattle.boardnet.specs.Command.{Command, Flatten}
use Rattle.reports.specs.Lines.{plain_line}
use Rattle.boardnet.specs.Source.{Source, IsFileBy, NextBy, StopsFileBy}
use Rattle.boardnet.specs.Task.{Task, on_package}
use Rattle.boardnet.specs.declared.answer.Unanswered.{Unanswered}
use Rattle.boardnet.specs.declared.answer.Unanswered.TheVariants.{Unflat}
use Rattle.gerber_layer.specs.MacroLayer.{IsReadWithMacros, IsRefusedWithMacros}
use Rattle.gerber_layer.specs.declared.macro_kind.FlattenKind.{FlattenKind}
use Rattle.lengths.specs.Text.{IsText}
use Rattle.macro_flatten.specs.Flattened.{IsFlattened, IsReadBack}

-- `flatten` and the name of a copper file
pub record IsFlatten (words : List (String Global)) (name : List ℕ) : Type 0 where
  pub spelled : map string_bytes words ≡ codes "flatten" ∷ name ∷ []
  pub text : IsText name

-- The file was read and is not too long, it has an image, and this is the text of that image, which each layer to
-- MOST_LAYERS, in a room of MOST_PIECES pieces and MOST_FLAT_EDGES edges, reads as the same copper; with the status and the line.
pub record IsFlatText (source : Source) (name text : List ℕ) (status : ℕ) (line : List ℕ) : Type 0 where
  pub bytes : List ℕ
  pub file : IsFileBy source name bytes
  pub flattened : IsFlattened bytes text
  pub reads : IsReadBack bytes text
  pub status_is : status ≡ 0
  pub line_is : line ≡ plain_line (codes "flattened")

-- The file was read and is not too long, and its first faulty command is this one.
pub record IsUnflat (source : Source) (name : List ℕ) (kind : FlattenKind) (command byte : ℕ) : Type 0 where
  pub bytes : List ℕ
  pub file : IsFileBy source name bytes
  pub refused : IsRefusedWithMacros bytes kind command byte

-- beside a stop: the copper file is refused at this command
abbrev pub FlattenRefuses : Source → List ℕ → Unanswered → Type 0
FlattenRefuses source file (Unflat kind number byte) = IsUnflat source file kind number byte
FlattenRefuses source file other = ⊥

abbrev pub flatten : List ℕ → Task
flatten file = record (on_package file (λ words. IsFlatten words file) (codes "flatten" ∷ file ∷ []) (λ source text status line. IsFlatText source file text status line)) {
  comes = λ source name. NextBy source file name;
  stops = λ source stop. StopsFileBy source file stop;
  refuses = λ source why. FlattenRefuses source file why;
  has_text = λ source. (bytes : List ℕ) × IsFileBy source file bytes × (pieces : List PlainPiece) × IsReadWithMacros bytes pieces;
}

-- the command that words behind its name can ask for; whether they are texts, and in range, is for `IsFlatten` to say
abbrev pub flatten_by : List (List ℕ) → Option Command
flatten_by (file ∷ []) = Some (Flatten file)
flatten_by other = None
