use Rattle.std.proofs.Common.{Err, refl}
use Rattle.board_shapes.specs.Plain.{plain_board}
use Rattle.board_package.specs.Causes.{IsFrameFault}
use Rattle.board_package.specs.HandedBoard.{as_board, course}
use Rattle.board_package.specs.LabelledCauses.{labelled_so_far}
use Rattle.board_package.specs.Parts.{board_so_far}
use Rattle.board_package.proofs.ByNetlist.{handed_plainly, no_labels, plain_handed}
use Rattle.board_package.proofs.Lift.{climbs, either, leaves_on}
use Rattle.board_package.proofs.Seen.{is_empty}
use Rattle.board_package.proofs.Staging.{files_handed, framed_handed, made_handed, manifest_handed}
use Rattle.board_package.proofs.Telling.{builds, plain_faults}
use Rattle.board_package.proofs.stages.build.Goals as goal

-- ---- The manifest

pub returns-in_err-listed-clause-handed : goal.returns-in_err-listed-clause-handed
returns-in_err-listed-clause-handed g c =
    climbs _ _ c.from_residual.result c.in_err-listed.field-0.0 c.from_residual.ensures.1
    (manifest_handed as_board (λ stop. stop) (λ stop. refl) (g.P.Package.handed c.args.package.now) (g.P.Package.handed c.take_manifest.new.package) c.args.manifest.now (g.P.Package.faults c.args.package.now) (g.P.Package.faults c.take_manifest.new.package) (g.P.Package.lost c.take_manifest.new.package) c.in_err-listed.field-0.0 c.in_err-listed.ensures.handed_cause)

-- ---- The files

pub returns-in-Err-Build-clause-handed : goal.returns-in-Err-Build-clause-handed
returns-in-Err-Build-clause-handed g c =
    let mid = g.P.Package.handed c.take_manifest.new.package in
    let after = g.P.Package.handed c.take_files.new.package in
    let start = course mid (labelled_so_far c.new-parts.result c.new-tables.result) in
    let why = c.in-Err-Build.why in
    files_handed as_board plain_faults (g.P.Package.handed c.args.package.now) mid after c.args.manifest.now c.in_ok-listed.listed (board_so_far c.new-parts.result)
    (g.P.Package.faults c.args.package.now) (g.P.Package.faults c.take_manifest.new.package) (g.P.Package.faults c.take_files.new.package) (g.P.Package.lost c.take_files.new.package) why
    (is_empty c.new-parts.result c.in_ok-listed.listed.layers c.new-parts.ensures.empty) c.take_manifest.ensures.leaves.later c.in_ok-listed.ensures.handed
    (plain_handed c.as_slice-entries.result.now c.in_ok-listed.listed.files start after (g.P.Package.faults c.take_manifest.new.package) (g.P.Package.faults c.take_files.new.package) (g.P.Package.lost c.take_files.new.package) why c.in-Err-Build.field-0 c.as_slice-entries.ensures c.in-Err-Build.field-0-is c.in-Err-Build.ensures.handed_cause)

pub unreachable-requires : goal.unreachable-requires
unreachable-requires g c =
    no_labels c.as_slice-entries.result.now (course (g.P.Package.handed c.take_manifest.new.package) (labelled_so_far c.new-parts.result c.new-tables.result)) (g.P.Package.handed c.take_files.new.package)
    (g.P.Package.faults c.take_manifest.new.package) (g.P.Package.faults c.take_files.new.package) (g.P.Package.lost c.take_files.new.package) c.in-Err-Label.field-0 _ _ _ c.in-Err-Label.field-0-is c.in-Err-Label.ensures.handed_cause

-- ---- The board

pub returns-in-Ok-clause-handed : goal.returns-in-Ok-clause-handed
returns-in-Ok-clause-handed g c =
    let a = g.P.Package.handed c.args.package.now in
    let start = course (g.P.Package.handed c.take_manifest.new.package) (labelled_so_far c.new-parts.result c.new-tables.result) in
    let end = course (g.P.Package.handed c.take_files.new.package) (labelled_so_far c.take_files.new.parts c.take_files.new.tables) in
    let walked = handed_plainly c.as_slice-entries.result.now c.in_ok-listed.listed.files start end c.as_slice-entries.ensures c.in-Ok.ensures.handed in
    either c.framed.result _ _ _ (IsFrameFault end.so_far.board) _
    (λ board made fits. made_handed as_board a start.handed end.handed c.args.manifest.now c.in_ok-listed.listed start.so_far.board end.so_far.board (plain_board board) (is_empty c.new-parts.result c.in_ok-listed.listed.layers c.new-parts.ensures.empty) c.in_ok-listed.ensures.handed walked (made, fits))
    (λ why h. framed_handed as_board (λ stop. stop) (λ stop. refl) a start.handed end.handed c.args.manifest.now c.in_ok-listed.listed start.so_far.board end.so_far.board end.so_far.board (g.P.Package.faults c.args.package.now) (g.P.Package.faults c.take_files.new.package) (g.P.Package.lost c.take_files.new.package) why
    (is_empty c.new-parts.result c.in_ok-listed.listed.layers c.new-parts.ensures.empty) c.in_ok-listed.ensures.handed walked (λ stop s. s) h)
    c.framed.ensures.ok c.framed.ensures.fits c.framed.ensures.fault

-- ---- What is left

pub returns-in-Err-Build-clause-leaves : goal.returns-in-Err-Build-clause-leaves
returns-in-Err-Build-clause-leaves g c = leaves_on c.take_manifest.ensures.leaves c.take_files.ensures.leaves

pub returns-in-Ok-clause-leaves : goal.returns-in-Ok-clause-leaves
returns-in-Ok-clause-leaves g c = leaves_on c.take_manifest.ensures.leaves c.take_files.ensures.leaves

-- ---- What is told

pub returns-in_err-listed-clause-told : goal.returns-in_err-listed-clause-told
returns-in_err-listed-clause-told g c =
    builds g.P.Package.held g.P.Package.handed g.P.Package.faults g.P.Package.lost c.args.manifest.now c.args.package.now c.take_manifest.new.package c.from_residual.result c.take_manifest.ensures.leaves (returns-in_err-listed-clause-handed g c)

pub returns-in-Err-Build-clause-told : goal.returns-in-Err-Build-clause-told
returns-in-Err-Build-clause-told g c =
    builds g.P.Package.held g.P.Package.handed g.P.Package.faults g.P.Package.lost c.args.manifest.now c.args.package.now c.take_files.new.package (Err c.in-Err-Build.why) (returns-in-Err-Build-clause-leaves g c) (returns-in-Err-Build-clause-handed g c)

pub returns-in-Ok-clause-told : goal.returns-in-Ok-clause-told
returns-in-Ok-clause-told g c =
    builds g.P.Package.held g.P.Package.handed g.P.Package.faults g.P.Package.lost c.args.manifest.now c.args.package.now c.take_files.new.package c.framed.result (returns-in-Ok-clause-leaves g c) (returns-in-Ok-clause-handed g c)
