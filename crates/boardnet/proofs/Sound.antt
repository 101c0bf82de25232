-- What holds of what is told of a command, whatever it is.
use Rattle.std.proofs.Common.{◌≡◌, ◌<◌, ◌^◌, ℕ, List, Option, Some, IfSome, decimal, String}
use Rattle.std.proofs.lemmas.Fmt.{decimal_is_IsNumeral}
use Rattle.std.specs.Prelude.{map, string_bytes}
use Rattle.std.specs.Str.Parse.{digits_value}
use Rattle.std.specs.declared.alloc.Global.{Global}
use Rattle.arc_covers.specs.Laws.{CountsAreOne, CountsHaveNoOther, FirstOtherIsOne}
use Rattle.board_io.specs.Handed.{AgreeWith, Handed}
use Rattle.board_io.specs.Package.{Files}
use Rattle.board_package.specs.HandedLaw.{HandedIsHeld, HoldsWhatWasHanded}
use Rattle.board_package.specs.Laws.{HasOneLabelledOutcome, HasOneOutcome}
use Rattle.board_package.specs.PackageBoard.{Stop}
use Rattle.board_shapes.specs.Plain.{PlainBoard}
use Rattle.gaps.specs.Laws.{GapListsAreOne}
use Rattle.gerber_layer.specs.MacroLayer.{HasOneMacroAnswer}
use Rattle.boardnet.specs.Outcome.{ComesFor, HandedOver, Held, OfFilesRead}
use Rattle.boardnet.specs.Source.{FitsWith}
use Rattle.boardnet.specs.commands.{command_of_words, task_of}
use Rattle.boardnet.specs.Words.{Asks, Command}
use Rattle.boardnet.specs.declared.answer.Unanswered.{Unanswered}
use Rattle.real_package.specs.Laws.{HandedIsHeld as RealIsHeld, HasOneRealOutcome}
use Rattle.tables.specs.Consistent.{AreConsistent}
use Rattle.tables.specs.Tables.{Tables}
use Rattle.verdict.specs.Laws.{ReportTextIsInjective}
use Rattle.verdict.specs.Right.{IsRight}
use Rattle.verdict.specs.declared.verdict.Verdict.{Verdict}
use Rattle.witness_check.specs.Laws.{DifferInWitnessesOnly}

-- each package has one outcome, with its netlist, by its labels and with arcs, each copper file that may have macros one answer, and each file of counts
pub record OneOutcome : Type 0 where
  pub listed : (files : Files) (manifest : List ℕ) → HasOneOutcome files manifest
  pub labelled : (files : Files) (manifest : List ℕ) → HasOneLabelledOutcome files manifest
  pub flat : (file : List ℕ) → HasOneMacroAnswer file
  pub real : (files : Files) (manifest : List ℕ) → HasOneRealOutcome files manifest
  pub counts : CountsAreOne
  pub no_other : CountsHaveNoOther
  pub first_other : FirstOtherIsOne

-- what is said of what was handed over holds of the files: of packages, and of those whose draws may be arcs
pub record HandedLaws : Type 0 where
  pub listed : HandedIsHeld
  pub real : RealIsHeld

-- what lower laws say: that outcomes of packages and files are one, and what is the same in all right verdicts of one board
pub record Laws : Type 0 where
  pub one : OneOutcome
  pub witnesses : (board : Tables) (v w : Verdict) → AreConsistent board → IsRight board v → IsRight board w → DifferInWitnessesOnly v w
  pub texts : ReportTextIsInjective
  pub gaps : GapListsAreOne

-- what is said of what was handed over holds of the files, where they are told
pub record HoldsHanded (c : Command) (held : Option Files) (a b : List Handed) : Type 0 where
  pub answers : (text : List ℕ) (status : ℕ) (line : List ℕ) → (task_of c).answers (HandedOver a b) text status line → OfFilesRead c held (λ g. (task_of c).answers (Held g) text status line)
  pub stops : (stop : Stop) → (task_of c).stops (HandedOver a b) stop → OfFilesRead c held (λ g. (task_of c).stops (Held g) stop)
  pub comes : (name : List ℕ) → ComesFor (HandedOver a b) c name → OfFilesRead c held (λ g. ComesFor (Held g) c name)
  pub refuses : (why : Unanswered) → (task_of c).refuses (HandedOver a b) why → OfFilesRead c held (λ g. (task_of c).refuses (Held g) why)

-- what holds of a command
pub record Sound (c : Command) : Type 0 where
  -- words ask for it exactly where they are spelled so, the names in it are texts, and its numbers in range
  pub spelled : (words : List (String Global)) → Asks words c → map string_bytes words ≡ (task_of c).spelled
  pub names : (words : List (String Global)) → Asks words c → (task_of c).in_range
  pub asks : (words : List (String Global)) → map string_bytes words ≡ (task_of c).spelled → (task_of c).in_range → Asks words c
  -- of words that are spelled so it is the command
  pub read : (task_of c).in_range → command_of_words (task_of c).spelled ≡ Some c
  -- where it answers it has a text, and none where it stops or refuses what it read
  pub text_of : (f : Files) (text : List ℕ) (status : ℕ) (line : List ℕ) → (task_of c).answers (Held f) text status line → (task_of c).has_text (Held f)
  pub no_text : OneOutcome → (f : Files) (stop : Stop) → (task_of c).stops (Held f) stop → (task_of c).has_text (Held f) → ⊥
  pub no_refused_text : OneOutcome → (f : Files) (why : Unanswered) → (task_of c).refuses (Held f) why → (task_of c).has_text (Held f) → ⊥
  -- a file that cannot be read is one that it takes
  pub takes_what_comes : (f : Files) (name : List ℕ) → ComesFor (Held f) c name → (task_of c).takes
  -- over the same files it has one status and one line, or one stop, or one other reason
  pub one_answer : Laws → (f : Files) (text said : List ℕ) (s t : ℕ) (l k : List ℕ) → (task_of c).answers (Held f) text s l → (task_of c).answers (Held f) said t k → (s ≡ t) × (l ≡ k)
  pub one_stop : OneOutcome → (f : Files) (stop other : Stop) → (task_of c).stops (Held f) stop → (task_of c).stops (Held f) other → stop ≡ other
  pub one_reason : OneOutcome → (f : Files) (why other : Unanswered) → (task_of c).refuses (Held f) why → (task_of c).refuses (Held f) other → why ≡ other
  pub stop_or_reason : OneOutcome → (f : Files) (stop : Stop) (why : Unanswered) → (task_of c).stops (Held f) stop → (task_of c).refuses (Held f) why → ⊥
  -- what it comes to by what was handed over it comes to by all files that agree with that
  pub agrees : HandedLaws → (held : Option Files) (a b : List Handed) → IfSome held (λ f. AgreeWith f a b) → HoldsHanded c held a b

-- the number that a decimal spells
pub value : (n : ℕ) → n < 2 ^ 64 → digits_value 10 (decimal n) ≡ n
value n small = (decimal_is_IsNumeral n small).1

-- ---- Of files that agree with what was handed over

pub held_fit : {f : Files} {a b : List Handed} {manifest : List ℕ} {P : PlainBoard → Type 0} → HoldsWhatWasHanded f a b manifest → FitsWith (HandedOver a b) manifest P → FitsWith (Held f) manifest P
held_fit h x = record { board = x.board; board_is = h.board x.board x.board_is; limits = x.limits; good = x.good }
