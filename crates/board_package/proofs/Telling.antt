-- What a package tells follows from what it handed over, of files that agree with that.
use Rattle.std.proofs.Common.{ℕ, List, Option, IfSome, Result, Ok, Err, MatchResult, arith}
use Rattle.board_io.specs.Handed.{AgreeWith, Handed}
use Rattle.board_io.specs.Package.{Files}
use Rattle.board_shapes.specs.Plain.{plain_board}
use Rattle.board_shapes.specs.declared.board.Board.{Board}
use Rattle.board_package.specs.Causes.{Builds, BuildsHanded, Faults, HandedCauseBy, HasCauseBy, Leaves, shared}
use Rattle.board_package.specs.HandedBoard.{ComesHanded, IsBoardHanded, IsFirstStopHanded}
use Rattle.board_package.specs.HandedLabelled.{IsFirstLabelledStopHanded, IsLabelledBoardHanded, LabelledComesHanded}
use Rattle.board_package.specs.LabelledBoard.{IsFirstLabelledStop, IsLabelledBoardOf, LabelledComes}
use Rattle.board_package.specs.LabelledCauses.{labelled_faults}
use Rattle.board_package.specs.PackageBoard.{Comes, IsBoardOf, IsFirstStop, Stop}
use Rattle.board_package.specs.declared.fault.BuildFault.{BuildFault}
use Rattle.board_package.specs.declared.fault.LabelledFault.{LabelledFault}
use Rattle.board_package.proofs.Agreed.{handed_is_held}
use Rattle.board_package.proofs.Lift.{Carries, lift_by, told_of}

-- what was made of what was handed over is made of the files, and its stops and the names that come are theirs
pub record Holds {B K : Type 0} (Made Is : B → Type 0) (S T : K → Type 0) (C D : List ℕ → Type 0) : Type 0 where
  pub made : (board : B) → Made board → Is board
  pub carries : Carries S T C D

pub told_by : {B K F : Type 0} (faults : Faults K F) (held : Option Files) (a b : List Handed) (Made : B → Type 0) (Is : Files → B → Type 0) (S : K → Type 0) (T : Files → K → Type 0) (C : List ℕ → Type 0) (D : Files → List ℕ → Type 0) (before now : ℕ) (lost : List ℕ) (result : Result B F)
    → IfSome held (λ f. AgreeWith f a b) → ((f : Files) → AgreeWith f a b → Holds Made (Is f) S (T f) C (D f))
    → MatchResult result Made (HandedCauseBy faults S C before now lost) → MatchResult result (λ board. IfSome held (λ f. Is f board)) (HasCauseBy faults held T D before now lost)
told_by faults held a b Made Is S T C D before now lost (Ok board) agree law h = told_of held (λ f. AgreeWith f a b) (λ f. Is f board) (λ f w. (law f w).made board h) agree
told_by faults held a b Made Is S T C D before now lost (Err why) agree law h =
    lift_by faults held S T C D before before now lost why (told_of held (λ f. AgreeWith f a b) (λ f. Carries S (T f) C (D f)) (λ f w. (law f w).carries) agree) (omega arith) h

-- the stops of a board alone
abbrev pub plain_faults : Faults Stop BuildFault
plain_faults = record { unbuilt = λ stop. stop; told = λ why. shared why }

pub builds : {P : Type 0} (files : P → Option Files) (handed : P → List Handed) (faults : P → ℕ) (lost : P → List ℕ) (manifest : List ℕ) (old new : P) (result : Result Board BuildFault)
    → Leaves files handed faults old new → BuildsHanded handed faults lost manifest old new result → Builds files faults lost manifest old new result
builds files handed faults lost manifest old new result leaves h =
    told_by plain_faults (files old) (handed old) (handed new) (λ board. IsBoardHanded (handed old) (handed new) manifest (plain_board board)) (λ f board. IsBoardOf f manifest (plain_board board))
    (λ stop. IsFirstStopHanded (handed old) (handed new) manifest stop) (λ f stop. IsFirstStop f manifest stop) (λ name. ComesHanded (handed old) (handed new) manifest name) (λ f name. Comes f manifest name)
    (faults old) (faults new) (lost new) result leaves.consistent
    (λ f w. let k = handed_is_held.holds f (handed old) (handed new) manifest w in record { made = λ board is. k.board (plain_board board) is; carries = record { stops = k.stop; comes = k.comes } }) h

pub labelled : {P : Type 0} (files : P → Option Files) (handed : P → List Handed) (faults : P → ℕ) (lost : P → List ℕ) (manifest : List ℕ) (old new : P) (result : Result Board LabelledFault)
    → Leaves files handed faults old new
    → MatchResult result (λ board. IsLabelledBoardHanded (handed old) (handed new) manifest (plain_board board)) (HandedCauseBy labelled_faults (λ stop. IsFirstLabelledStopHanded (handed old) (handed new) manifest stop) (λ name. LabelledComesHanded (handed old) (handed new) manifest name) (faults old) (faults new) (lost new))
    → MatchResult result (λ board. IfSome (files old) (λ f. IsLabelledBoardOf f manifest (plain_board board))) (HasCauseBy labelled_faults (files old) (λ f stop. IsFirstLabelledStop f manifest stop) (λ f name. LabelledComes f manifest name) (faults old) (faults new) (lost new))
labelled files handed faults lost manifest old new result leaves h =
    told_by labelled_faults (files old) (handed old) (handed new) (λ board. IsLabelledBoardHanded (handed old) (handed new) manifest (plain_board board)) (λ f board. IsLabelledBoardOf f manifest (plain_board board))
    (λ stop. IsFirstLabelledStopHanded (handed old) (handed new) manifest stop) (λ f stop. IsFirstLabelledStop f manifest stop) (λ name. LabelledComesHanded (handed old) (handed new) manifest name) (λ f name. LabelledComes f manifest name)
    (faults old) (faults new) (lost new) result leaves.consistent
    (λ f w. let k = handed_is_held.holds f (handed old) (handed new) manifest w in record { made = λ board is. k.labelled (plain_board board) is; carries = record { stops = k.labelled_stop; comes = k.labelled_comes } }) h
