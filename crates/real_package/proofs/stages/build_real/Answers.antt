use Rattle.std.proofs.Common.{Ok, refl, subst}
use Rattle.board_package.specs.Causes.{HandedCauseBy}
use Rattle.board_package.specs.PackageBoard.{WalksBy}
use Rattle.board_package.proofs.Lift.{climbs, faultless_both, kept_after_by, leaves_on}
use Rattle.board_package.specs.HandedBoard.{ComesAlongHanded, GoesHanded, StopsAmongHanded, course}
use Rattle.real_package.specs.HandedReal.{as_real_board}
use Rattle.real_package.specs.RealBoards.{plain_real_board}
use Rattle.real_package.specs.RealCauses.{real_faults}
use Rattle.real_package.specs.declared.fault.RealBuildFault.TheVariants as fault
use Rattle.board_package.proofs.Staging.{files_handed, made_handed, manifest_handed}
use Rattle.real_package.specs.RealPackage.{unbuilt}
use Rattle.real_package.proofs.Seen.{is_empty}
use Rattle.real_package.proofs.Telling.{real}
use Rattle.real_package.proofs.stages.build_real.Goals as goal

-- ---- The manifest

pub returns-in_err-listed-clause-handed : goal.returns-in_err-listed-clause-handed
returns-in_err-listed-clause-handed g c =
    climbs _ _ c.from_residual.result (fault.Build c.in_err-listed.field-0.0) c.from_residual.ensures.1
    (manifest_handed as_real_board (λ stop. unbuilt stop) (λ stop. refl) (g.P.Package.handed c.args.package.now) (g.P.Package.handed c.take_manifest.new.package) c.args.manifest.now (g.P.Package.faults c.args.package.now) (g.P.Package.faults c.take_manifest.new.package) (g.P.Package.lost c.take_manifest.new.package) c.in_err-listed.field-0.0 c.in_err-listed.ensures.handed_cause)

pub returns-in_err-listed-clause-spared : goal.returns-in_err-listed-clause-spared
returns-in_err-listed-clause-spared g c = climbs _ _ c.from_residual.result (fault.Build c.in_err-listed.field-0.0) c.from_residual.ensures.1 c.in_err-listed.ensures.spared

-- ---- The files

pub returns-in_err-take_files-clause-handed : goal.returns-in_err-take_files-clause-handed
returns-in_err-take_files-clause-handed g c =
    let start = plain_real_board c.new-board.result in
    let mid = g.P.Package.handed c.take_manifest.new.package in
    let after = g.P.Package.handed c.take_files.new.package in
    let why = c.in_err-take_files.field-0.0 in
    let cause = subst (λ entries. HandedCauseBy real_faults (λ stop. StopsAmongHanded as_real_board entries (course mid start) after stop) (λ name. ComesAlongHanded as_real_board entries (course mid start) after name)
    (g.P.Package.faults c.take_manifest.new.package) (g.P.Package.faults c.take_files.new.package) (g.P.Package.lost c.take_files.new.package) why) c.as_slice.ensures c.in_err-take_files.ensures.handed_cause in
    climbs _ _ c.from_residual-in_err-take_files.result why c.from_residual-in_err-take_files.ensures.1
    (files_handed as_real_board real_faults (g.P.Package.handed c.args.package.now) mid after c.args.manifest.now c.in_ok-listed.listed start
    (g.P.Package.faults c.args.package.now) (g.P.Package.faults c.take_manifest.new.package) (g.P.Package.faults c.take_files.new.package) (g.P.Package.lost c.take_files.new.package) why
    (is_empty c.new-board.result c.in_ok-listed.listed.layers c.new-board.ensures.empty) c.take_manifest.ensures.leaves.later c.in_ok-listed.ensures.handed cause)

pub returns-in_err-take_files-clause-spared : goal.returns-in_err-take_files-clause-spared
returns-in_err-take_files-clause-spared g c =
    climbs _ _ c.from_residual-in_err-take_files.result c.in_err-take_files.field-0.0 c.from_residual-in_err-take_files.ensures.1
    (kept_after_by real_faults _ _ _ _ _ _ c.in_err-take_files.field-0.0 c.in_ok-listed.ensures.spared c.in_err-take_files.ensures.spared)

pub returns-in_err-take_files-clause-leaves : goal.returns-in_err-take_files-clause-leaves
returns-in_err-take_files-clause-leaves g c = leaves_on c.take_manifest.ensures.leaves c.take_files.ensures.leaves

-- ---- The board

pub returns-clause-handed : goal.returns-clause-handed
returns-clause-handed g c =
    let start = plain_real_board c.new-board.result in
    let end = plain_real_board c.take_files.new.board in
    let mid = g.P.Package.handed c.take_manifest.new.package in
    let after = g.P.Package.handed c.take_files.new.package in
    let walked = subst (λ entries. WalksBy (GoesHanded as_real_board) entries (course mid start) (course after end)) c.as_slice.ensures c.in_ok-take_files.ensures.handed in
    made_handed as_real_board (g.P.Package.handed c.args.package.now) mid after c.args.manifest.now c.in_ok-listed.listed start end end (is_empty c.new-board.result c.in_ok-listed.listed.layers c.new-board.ensures.empty) c.in_ok-listed.ensures.handed walked refl

pub returns-clause-spared : goal.returns-clause-spared
returns-clause-spared g c = faultless_both _ _ _ _ _ _ c.in_ok-listed.ensures.spared c.in_ok-take_files.ensures.spared

pub returns-clause-leaves : goal.returns-clause-leaves
returns-clause-leaves g c = leaves_on c.take_manifest.ensures.leaves c.take_files.ensures.leaves

-- ---- What is told

pub returns-in_err-listed-clause-told : goal.returns-in_err-listed-clause-told
returns-in_err-listed-clause-told g c =
    real g.P.Package.held g.P.Package.handed g.P.Package.faults g.P.Package.lost c.args.manifest.now c.args.package.now c.take_manifest.new.package c.from_residual.result c.take_manifest.ensures.leaves (returns-in_err-listed-clause-handed g c)

pub returns-in_err-take_files-clause-told : goal.returns-in_err-take_files-clause-told
returns-in_err-take_files-clause-told g c =
    real g.P.Package.held g.P.Package.handed g.P.Package.faults g.P.Package.lost c.args.manifest.now c.args.package.now c.take_files.new.package c.from_residual-in_err-take_files.result (returns-in_err-take_files-clause-leaves g c) (returns-in_err-take_files-clause-handed g c)

pub returns-clause-told : goal.returns-clause-told
returns-clause-told g c =
    real g.P.Package.held g.P.Package.handed g.P.Package.faults g.P.Package.lost c.args.manifest.now c.args.package.now c.take_files.new.package (Ok c.take_files.new.board) (returns-clause-leaves g c) (returns-clause-handed g c)
