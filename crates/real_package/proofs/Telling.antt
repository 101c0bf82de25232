-- What a package tells follows from what it handed over, of files that agree with that.
use Rattle.std.proofs.Common.{ℕ, List, Option, IfSome, Result, MatchResult}
use Rattle.board_io.specs.Handed.{Handed}
use Rattle.board_io.specs.Package.{Files}
use Rattle.board_package.specs.Causes.{HandedCauseBy, HasCauseBy, Leaves}
use Rattle.board_package.proofs.Telling.{told_by}
use Rattle.real_package.specs.HandedReal.{IsFirstRealStopHanded, IsRealBoardHanded, RealComesHanded}
use Rattle.real_package.specs.RealBoards.{plain_real_board}
use Rattle.real_package.specs.RealCauses.{real_faults}
use Rattle.real_package.specs.RealPackage.{IsFirstRealStop, IsRealBoardOf, RealComes}
use Rattle.real_package.specs.declared.fault.RealBuildFault.{RealBuildFault}
use Rattle.board_package.specs.declared.parts.Parts.{Parts}
use Rattle.real_shapes.specs.declared.RealShape.{RealShape}
use Rattle.real_package.proofs.Agreed.{handed_is_held}

pub real : {P : Type 0} (files : P → Option Files) (handed : P → List Handed) (faults : P → ℕ) (lost : P → List ℕ) (manifest : List ℕ) (old new : P) (result : Result (Parts RealShape) RealBuildFault)
    → Leaves files handed faults old new
    → MatchResult result (λ board. IsRealBoardHanded (handed old) (handed new) manifest (plain_real_board board)) (HandedCauseBy real_faults (λ stop. IsFirstRealStopHanded (handed old) (handed new) manifest stop) (λ name. RealComesHanded (handed old) (handed new) manifest name) (faults old) (faults new) (lost new))
    → MatchResult result (λ board. IfSome (files old) (λ f. IsRealBoardOf f manifest (plain_real_board board))) (HasCauseBy real_faults (files old) (λ f stop. IsFirstRealStop f manifest stop) (λ f name. RealComes f manifest name) (faults old) (faults new) (lost new))
real files handed faults lost manifest old new result leaves h =
    told_by real_faults (files old) (handed old) (handed new) (λ board. IsRealBoardHanded (handed old) (handed new) manifest (plain_real_board board)) (λ f board. IsRealBoardOf f manifest (plain_real_board board))
    (λ stop. IsFirstRealStopHanded (handed old) (handed new) manifest stop) (λ f stop. IsFirstRealStop f manifest stop) (λ name. RealComesHanded (handed old) (handed new) manifest name) (λ f name. RealComes f manifest name)
    (faults old) (faults new) (lost new) result leaves.consistent
    (λ f w. let k = handed_is_held f (handed old) (handed new) manifest w in record { made = λ board is. k.board (plain_real_board board) is; carries = record { stops = k.stop; comes = k.comes } }) h
