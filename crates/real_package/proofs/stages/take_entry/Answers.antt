use Rattle.std.proofs.Common.{refl}
use Rattle.board_package.specs.Causes.{KeepsFaultsBy}
use Rattle.board_package.proofs.Lift.{climbs, if_err, kept_by, on_ok, spared}
use Rattle.board_package.proofs.Staging.{handed_with, taking_entry}
use Rattle.board_package.specs.HandedBoard.{course}
use Rattle.real_package.specs.RealBoards.{plain_real_board}
use Rattle.real_package.specs.HandedReal.{as_real_board}
use Rattle.real_package.specs.RealCauses.{real_faults}
use Rattle.real_package.specs.RealPackage.{unbuilt}
use Rattle.real_package.specs.declared.fault.RealBuildFault.TheVariants as fault
use Rattle.real_package.proofs.Staged.{halted_handed}
use Rattle.real_package.proofs.stages.take_entry.Goals as goal

-- ---- Its taking

pub returns-in_err-take_file-clause-spared : goal.returns-in_err-take_file-clause-spared
returns-in_err-take_file-clause-spared g c = climbs _ _ c.from_residual.result (fault.Build c.in_err-take_file.field-0.0) c.from_residual.ensures.1 c.in_err-take_file.ensures.spared

pub returns-in_err-take_file-clause-handed_cause : goal.returns-in_err-take_file-clause-handed_cause
returns-in_err-take_file-clause-handed_cause g c =
    climbs _ _ c.from_residual.result (fault.Build c.in_err-take_file.field-0.0) c.from_residual.ensures.1
    (taking_entry as_real_board (λ stop. unbuilt stop) (λ stop. refl) c.args.entry.now (course (g.P.Package.handed c.args.package.now) (plain_real_board c.args.board.now)) (g.P.Package.handed c.take_file.new.package) (g.P.Package.faults c.args.package.now) (g.P.Package.faults c.take_file.new.package) (g.P.Package.lost c.take_file.new.package) c.in_err-take_file.field-0.0 c.in_err-take_file.ensures.handed_cause)

-- ---- Its reading

pub returns-clause-spared : goal.returns-clause-spared
returns-clause-spared g c = spared (KeepsFaultsBy real_faults) _ _ _ _ c.read_file.result (λ why. kept_by real_faults _ _ _ _ why c.in_ok-take_file.ensures.spared) c.in_ok-take_file.ensures.spared

pub returns-clause-handed : goal.returns-clause-handed
returns-clause-handed g c =
    on_ok c.read_file.result _ _ (λ read. handed_with (g.P.Package.handed c.args.package.now) (g.P.Package.handed c.take_file.new.package) c.args.entry.now.name c.take_file.new.file.items c.as_slice.result.now _ c.in_ok-take_file.ensures.handed c.as_slice.ensures.value read) c.read_file.ensures.ok

pub returns-clause-handed_cause : goal.returns-clause-handed_cause
returns-clause-handed_cause g c =
    if_err c.read_file.result _ _
    (λ why h. halted_handed c.args.entry.now (course (g.P.Package.handed c.args.package.now) (plain_real_board c.args.board.now)) (g.P.Package.handed c.take_file.new.package) c.take_file.new.file.items c.as_slice.result.now (g.P.Package.faults c.args.package.now) (g.P.Package.faults c.take_file.new.package) (g.P.Package.lost c.take_file.new.package) why c.in_ok-take_file.ensures.handed c.as_slice.ensures.value h)
    c.read_file.ensures.fault
