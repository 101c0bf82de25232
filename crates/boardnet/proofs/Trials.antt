-- The causes of a made package.
use Rattle.std.proofs.Common.{◌≤◌, ℕ, List, Some, Result, Ok, Err, IfErr, IfOk, MatchResult, subst, sym}
use Rattle.board_maker.specs.MadePackage.{made_files}
use Rattle.board_maker.specs.declared.TheConstants.{MOST_CELLS}
use Rattle.board_package.specs.Causes.{HasCause}
use Rattle.board_package.specs.PackageBoard.{Comes, IsFirstStop}
use Rattle.board_package.specs.declared.fault.BuildFault.{BuildFault}
use Rattle.board_package.specs.declared.fault.BuildFault.TheVariants as fault
use Rattle.boardnet.specs.Answers.{IsAnswerTo}
use Rattle.boardnet.specs.HandedOutcome.{HasHandedReason}
use Rattle.boardnet.specs.Outcome.{Source, made_manifest}
use Rattle.boardnet.specs.Trials.{IsUnlost}
use Rattle.boardnet.specs.Words.{Trial}
use Rattle.reports.specs.declared.answer.Answer.{Answer}
use Rattle.boardnet.specs.declared.answer.Unanswered.{Unanswered}
use Rattle.boardnet.specs.declared.answer.Unanswered.TheVariants.{Stopped}

-- why a trial stops; a trial reads no file of the package that it is lent
abbrev pub HasTrialCause : ℕ → ℕ → Source → ℕ → ℕ → List ℕ → BuildFault → Type 0
HasTrialCause seed size source before now lost why = HasHandedReason source (Trial seed size) before now lost (Stopped why)

-- a fault of reading becomes want of memory, and every other keeps its cause
pub unlost_cause : (seed size : ℕ) (count count' : ℕ) (missed : List ℕ) (why given : BuildFault) → size ≤ MOST_CELLS
    → HasCause (Some (made_files seed size)) (λ files stop. IsFirstStop files made_manifest stop) (λ files name. Comes files made_manifest name) count count' missed why → IsUnlost why given
    → (source : Source) (before now : ℕ) (lost : List ℕ) → HasTrialCause seed size source before now lost given
unlost_cause seed size count count' missed (fault.CannotRead name) given small h e source before now lost = subst (λ (z : BuildFault). HasTrialCause seed size source before now lost z) (sym e) tt
unlost_cause seed size count count' missed fault.NoMemory given small h e source before now lost = subst (λ (z : BuildFault). HasTrialCause seed size source before now lost z) (sym e) tt
unlost_cause seed size count count' missed other given small h e source before now lost = subst (λ (z : BuildFault). HasTrialCause seed size source before now lost z) (sym e) (small, h)

pub trial_works : (seed size : ℕ) (source : Source) (before now : ℕ) (lost : List ℕ) (result : Result Answer Unanswered) → IfOk result (IsAnswerTo source (Trial seed size))
    → IfErr result (λ why. (source : Source) (before now : ℕ) (lost : List ℕ) → HasHandedReason source (Trial seed size) before now lost why) → MatchResult result (IsAnswerTo source (Trial seed size)) (HasHandedReason source (Trial seed size) before now lost)
trial_works seed size source before now lost (Ok answer) answers h = answers
trial_works seed size source before now lost (Err why) answers h = h source before now lost
