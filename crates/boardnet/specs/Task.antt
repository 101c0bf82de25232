-- What is told of a command, whatever it is.
use Rattle.std.specs.Prelude.{ℕ, List, [], Option, String}
use Rattle.std.specs.declared.alloc.Global.{Global}
use Rattle.board_io.specs.Package.{Files}
use Rattle.board_package.specs.PackageBoard.{Stop}
use Rattle.board_shapes.specs.Plain.{PlainBoard}
use Rattle.boardnet.specs.Source.{Source, ComesBy, IsBoardBy, IsFirstStopBy}
use Rattle.boardnet.specs.declared.answer.Unanswered.{Unanswered}
use Rattle.lengths.specs.Text.{IsText}

pub record Task : Type 1 where
  -- the words that ask for it, how they are spelled
  pub asks : List (String Global) → Type 0
  pub spelled : List (List ℕ)
  -- the names of files in it are texts, and its numbers are in range
  pub in_range : Type 0
  -- the name of the manifest or of the copper file that it is about; and that of its report or its counts, empty where it has neither
  pub subject : List ℕ
  pub report : List ℕ
  -- it takes files of the package
  pub takes : Type 0
  -- the files that it reads: mostly those of the package, where it tells them
  pub reads : Option Files → Option Files
  -- By what was read. The name is that of a file of its order, and every file before it has no refusal.
  pub comes : Source → List ℕ → Type 0
  -- its stops, and what else it refuses
  pub stops : Source → Stop → Type 0
  pub refuses : Source → Unanswered → Type 0
  -- the text that it answers, with its status and its line, and when there is one
  pub answers : Source → List ℕ → ℕ → List ℕ → Type 0
  pub has_text : Source → Type 0

-- A command on a package, which but for what it says otherwise takes the files of the manifest that it is about in their order,
-- stops where the package does, refuses nothing else, and has a text where the package fits.
abbrev pub on_package : List ℕ → (List (String Global) → Type 0) → List (List ℕ) → (Source → List ℕ → ℕ → List ℕ → Type 0) → Task
on_package manifest asks spelled answers = record {
  asks = asks;
  spelled = spelled;
  in_range = IsText manifest;
  subject = manifest;
  report = [];
  takes = Unit {0};
  reads = λ held. held;
  comes = λ source name. ComesBy source manifest name;
  stops = λ source stop. IsFirstStopBy source manifest stop;
  refuses = λ source why. ⊥;
  answers = answers;
  has_text = λ source. (board : PlainBoard) × IsBoardBy source manifest board;
}
